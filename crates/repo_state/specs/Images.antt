-- What a crash may leave of a repository's file, where the first n stored entries are sealed and those behind them wait.
--     sealed_part n h      the first n stored entries
--     IsPending h n bytes      the bytes are the records of the entries behind them, as a group
--     StandsFor header h i image      the image stands for the first i stored entries
--     StandsNow header h n reach image      for the sealed part, or for the first entries up to a group's end, where its gate may stand open: there reach is that end, and else n
--     StandsSince header k h n reach image      for some of the sealed entries, the first k at least, or so
--     Leaves header k moment h n reach first m      what a crash may leave now, and may have left at each moment since the opening, at which k entries were stored
--     LeavesSeal header h n new after reach m now      what a crash may have left during a step of a seal: what was sealed before, or what it may leave now
--     LeavesSeals header h n upto new after reach m now      what a crash may have left during a whole seal, with a group under way that ended here
--     LeavesChange header old new before after      what a crash may have left during a change that was sealed at once
use Rattle.std.specs.Prelude.{◌≡◌, ◌⊎◌, ℕ, ◌≤◌, List, map, length, take, drop}
use Rattle.disk_model.specs.Images.{IsImage}
use Rattle.disk_model.specs.Meaning.{Meaning, LeftSince}
use Rattle.disk_model.specs.Calls.{LeavesOnly}
use Rattle.history_model.specs.History.{Entry, bodies, unnumbered}
use Rattle.history_model.specs.Journal.{Header, Stands}
use Rattle.repo_journal.specs.Payloads.{ArePayloads}
use Rattle.repo_journal.specs.Groups.{group}

abbrev pub sealed_part : ℕ → List Entry → List Entry
sealed_part n h = map unnumbered (take n (bodies h))

pub record IsPending (h : List Entry) (n : ℕ) (bytes : List ℕ) : Type 0 where
  pub most : n ≤ length (bodies h)
  pub payloads : List (List ℕ)
  pub are : ArePayloads (drop n (bodies h)) payloads
  pub is : bytes ≡ group payloads

abbrev pub StandsFor : Header → List Entry → ℕ → List ℕ → Type 0
StandsFor header h i image = Stands header image (sealed_part i h)

abbrev pub StandsNow : Header → List Entry → ℕ → ℕ → List ℕ → Type 0
StandsNow header h n reach image = StandsFor header h n image ⊎ StandsFor header h reach image

abbrev pub StandsForFirst : Header → ℕ → List Entry → ℕ → List ℕ → Type 0
StandsForFirst header k h n image = (i : ℕ) × (k ≤ i) × (i ≤ n) × Stands header image (sealed_part i h)

abbrev pub StandsSince : Header → ℕ → List Entry → ℕ → ℕ → List ℕ → Type 0
StandsSince header k h n reach image = StandsForFirst header k h n image ⊎ StandsFor header h reach image

pub record Leaves (header : Header) (k moment : ℕ) (h : List Entry) (n reach : ℕ) (first m : Meaning) : Type 0 where
  pub now : (image : List ℕ) → IsImage m.state image → StandsNow header h n reach image
  pub since : (image : List ℕ) → LeftSince m moment image → StandsSince header k h n reach image
  -- before the opening's moment too, as far as the disk was told once all was read
  pub only : LeavesOnly (StandsSince header k h n reach) first m

-- Each image during a step of a seal stood for the sealed part before it, or for what one may stand for after it.
abbrev pub LeavesSeal : Header → List Entry → ℕ → List Entry → ℕ → ℕ → Meaning → Meaning → Type 0
LeavesSeal header h n new after reach m now = LeavesOnly (λ image. StandsFor header h n image ⊎ StandsNow header new after reach image) m now

-- Each image during a seal stood for the sealed part before it, for this and the group that was under way, or for what one may stand for after it.
abbrev pub LeavesSeals : Header → List Entry → ℕ → ℕ → List Entry → ℕ → ℕ → Meaning → Meaning → Type 0
LeavesSeals header h n upto new after reach m now = LeavesOnly (λ image. StandsNow header h n upto image ⊎ StandsNow header new after reach image) m now

-- Each image during a change that was sealed at once stood for the history before it or after it.
abbrev pub LeavesChange : Header → List Entry → List Entry → Meaning → Meaning → Type 0
LeavesChange header old new before after = LeavesOnly (λ image. Stands header image old ⊎ Stands header image new) before after
