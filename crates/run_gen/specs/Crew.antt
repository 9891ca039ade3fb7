-- The clients of a load, each at a seat of its own.
--     IsReady site seed seated      a client at a seat of this repository, whose disk fails no call
--     Did seed stacks seated finished      it landed so many stacks there, or stopped
--     IsClientAt lead k seated, AreClients lead n all      the client with this number;  the clients with the numbers below n
use Rattle.std.specs.Prelude.{◌≡◌, ℕ, ◌+◌, ◌<◌, ◌^◌, List, [], slice_index_or, None}
use Rattle.bookmark_lock.specs.Place.{Place, Site, moved}
use Rattle.run_gen.specs.Clients.{Ran}
use Rattle.repo_state.specs.State.{IsQuiet}
use Rattle.run_gen.specs.declared.crew.Seated.{Seated}
use Rattle.run_gen.specs.declared.crew.Finished.{Finished}

pub record IsReady (site : Site) (seed : ℕ) (seated : Seated) : Type 0 where
  pub lock : seated.seat.lock ≡ site
  pub quiet : IsQuiet site.opening
  pub few : seated.number < 8
  pub fits : seed + seated.number < 2 ^ 64

pub record Did (seed stacks : ℕ) (seated : Seated) (finished : Finished) : Type 0 where
  pub moved : finished.seat ≡ moved seated.seat finished.seat
  pub ran : Ran seated.seat.lock.opening.header seated.seat.number seated.seat.front seated.number seed stacks finished.outcome finished.seat.front

-- the seat that this lead splits off after so many others
abbrev pub place_at : Place → ℕ → Place
place_at lead k = record { lock = lead.lock; number = lead.split + k + 1; front = lead.front; sealed = lead.sealed; since = lead.since; reach = lead.reach; unsealed = None; disk = lead.disk; split = 0; out = 0; joined = [] }

pub record IsClientAt (lead : Place) (k : ℕ) (seated : Seated) : Type 0 where
  pub seat : seated.seat ≡ place_at lead k
  pub number : seated.number ≡ k

abbrev pub AreClients : Place → ℕ → List Seated → Type 0
AreClients lead n all = (k : ℕ) (d : Seated) → k < n → IsClientAt lead k (slice_index_or all k d)
