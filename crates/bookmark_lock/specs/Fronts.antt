-- How the histories that seats have seen lie to one another.
--     GoesOn      a history goes on from what a seat with this post has seen
--     HasJoined, IsJoined      the lead has seen this history once it has joined a seat, by their posts, by their places
use Rattle.std.specs.Prelude.{◌≡◌, ◌≢◌, ℕ, ◌<◌, ◌≤◌, List, ◌∷◌, All, AllPairs}
use mathlib.Core.List.{IsPrefix}
use Rattle.history_model.specs.History.{Entry, entries_by}
use Rattle.bookmark_lock.specs.Place.{Place, Post, known}

-- the history begins with what the seat has seen, and has no entry more of it or of a seat that it joined
pub record GoesOn (p : Post) (history : List Entry) : Type 0 where
  pub begins : IsPrefix p.front history
  pub own : entries_by p.number history ≡ entries_by p.number p.front
  pub joined : All (λ (n : ℕ). entries_by n history ≡ entries_by n p.front) p.joined

-- The lead has joined the other seat, and has seen this history, which both fronts begin.
-- It has of the lead, of the other and of each seat joined earlier just the entries that their fronts had
pub record HasJoined (lead other : Post) (front : List Entry) : Type 0 where
  pub of_lead : GoesOn lead front
  pub of_other : GoesOn other front
  -- no two seats have one number
  pub apart : AllPairs (λ (m n : ℕ). m ≢ n) (lead.number ∷ other.number ∷ lead.joined)
  pub below : All (λ (n : ℕ). n ≤ lead.split) (other.number ∷ lead.joined)
  -- the other was counted as out
  pub counted : 0 < lead.out

abbrev pub IsJoined : Place → Place → List Entry → Type 0
IsJoined lead other front = HasJoined (known lead) (known other) front
