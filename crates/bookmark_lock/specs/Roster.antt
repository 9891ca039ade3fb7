-- What holds of all seats of a lock between any two steps.
use Rattle.std.specs.Prelude.{◌≡◌, ◌≢◌, ℕ, ◌+◌, ◌%◌, ◌^◌, ◌≤◌, false, List, [], ◌∷◌, length, if◌then◌else◌, All, AllPairs, MatchOption}
use mathlib.Core.Option.{some}
use lib.ListN.{get_elem?}
use Rattle.history_model.specs.History.{Entry}
use Rattle.bookmark_lock.specs.Opening.{Opening}
use Rattle.bookmark_lock.specs.Place.{numbers}
use Rattle.bookmark_lock.specs.Fronts.{GoesOn, HasJoined}
use Rattle.bookmark_lock.specs.Members.{Meeting, Member}

-- how many are not spent
abbrev pub living : List Member → ℕ
living [] = 0
living (m ∷ ms) = (if m.spent then 0 else 1) + living ms

-- what holds of a seat that is not spent, where the lead has split off so many
pub record Fits (log : List Entry) (key : Opening) (split : ℕ) (m : Member) : Type 0 where
  pub goes_on : GoesOn m.post log
  pub opened : m.post.opening ≡ key
  pub below : All (λ (n : ℕ). n ≤ split) (numbers m.post)
  pub apart : AllPairs (λ (a b : ℕ). a ≢ b) (numbers m.post)
  pub meets : MatchOption m.met (Unit {0}) (λ (x : Meeting). HasJoined x.lead x.other m.post.front)

-- The longest front is the log. count is its length, and next the number that is drawn next
pub record Roster (log : List Entry) (key : Opening) (count next : ℕ) (members : List Member) : Type 0 where
  pub lead_at : ℕ
  pub lead : Member
  pub lead_is : get_elem? members lead_at ≡ some lead
  pub lead_lives : lead.spent ≡ false
  pub lead_zero : lead.post.number ≡ 0
  pub fits : (j : ℕ) (m : Member) → get_elem? members j ≡ some m → m.spent ≡ false → Fits log key lead.post.split m
  pub apart : (j k : ℕ) (m n : Member) → get_elem? members j ≡ some m → get_elem? members k ≡ some n → m.spent ≡ false → n.spent ≡ false → j ≢ k → All (λ (x : ℕ). x ≢ m.post.number) (numbers n.post)
  pub recorded : All (λ (e : Entry). e.who ≤ lead.post.split) log
  pub longest : (j : ℕ) × (m : Member) × (get_elem? members j ≡ some m) × (m.spent ≡ false) × (m.post.front ≡ log)
  pub counted : count ≡ length log % 2 ^ 64
  pub drawn : next ≡ 1 + lead.drawn
  pub few : lead.drawn ≤ 2 ^ 63
  pub behind : lead.post.split ≤ lead.drawn
  pub alive : living members ≡ 1 + lead.post.out
