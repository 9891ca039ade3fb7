-- Derivers of a server, which make no entries. Contracts see a deriver as its place.
--     HasDerived before after      a deriver took ids until none came any more
--     IsIdle site deriver      its seat is for this repository, and no entry that it has seen is its own
--     AreNumbered first derivers      their numbers are this one and those that follow it
--     AreUnused first count h      no entry of the history has one of so many numbers
--     HasNone lead deriver, HaveNone lead derivers      the lead has joined the deriver's seat, and has seen no entry of it;  so of these
use Rattle.std.specs.Prelude.{◌≡◌, ◌+◌, ◌<◌, ◌≤◌, ℕ, List, [], length, slice_index_or, All, Contains}
use Rattle.history_model.specs.History.{Entry, entries_by}
use Rattle.bookmark_lock.specs.Place.{Place, Site, home_of}

pub record HasDerived (before after : Place) : Type 0 where
  pub home : home_of after ≡ home_of before
  pub own : entries_by after.number after.front ≡ entries_by before.number before.front

pub record IsIdle (site : Site) (deriver : Place) : Type 0 where
  pub lock : deriver.lock ≡ site
  pub none : entries_by deriver.number deriver.front ≡ []

abbrev pub AreNumbered : ℕ → List Place → Type 0
AreNumbered first derivers = (k : ℕ) (d : Place) → k < length derivers → (slice_index_or derivers k d).number ≡ first + k

abbrev pub AreUnused : ℕ → ℕ → List Entry → Type 0
AreUnused first count h = (n : ℕ) → first ≤ n → n < first + count → entries_by n h ≡ []

pub record HasNone (lead deriver : Place) : Type 0 where
  pub joined : Contains lead.joined deriver.number
  pub none : entries_by deriver.number lead.front ≡ []

pub record HaveNone (lead : Place) (derivers : List Place) : Type 0 where
  pub each : All (HasNone lead) derivers
