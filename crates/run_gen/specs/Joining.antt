-- A lead that has joined the seats of many clients.
--     HasAll lead seat      of this seat, which it has joined, the lead has seen all entries
--     TakesIn first lead seats      the lead, at first and now that it has joined these seats
--     seats_of finished      the seats of clients
use Rattle.std.specs.Prelude.{◌≡◌, ◌-◌, List, All, Contains, length, map}
use mathlib.Core.List.{IsPrefix}
use Rattle.history_model.specs.History.{entries_by}
use Rattle.bookmark_lock.specs.Place.{Place, Site, known}
use Rattle.bookmark_lock.specs.Fronts.{GoesOn}
use Rattle.run_gen.specs.declared.crew.Finished.{Finished}

abbrev pub IsOf : Site → Finished → Type 0
IsOf lock finished = finished.seat.lock ≡ lock

pub record HasAll (lead seat : Place) : Type 0 where
  pub joined : Contains lead.joined seat.number
  pub begins : IsPrefix seat.front lead.front
  pub entries : entries_by seat.number lead.front ≡ entries_by seat.number seat.front

pub record TakesIn (first lead : Place) (seats : List Place) : Type 0 where
  pub place : lead.lock ≡ first.lock
  pub leads : lead.number ≡ first.number
  pub split : lead.split ≡ first.split
  pub out : lead.out ≡ first.out - length seats
  pub earlier : All (Contains lead.joined) first.joined
  pub own : GoesOn (known first) lead.front
  pub each : All (HasAll lead) seats

abbrev pub seats_of : List Finished → List Place
seats_of finished = map (λ (f : Finished). f.seat) finished
