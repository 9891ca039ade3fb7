-- The copy of a file in the second version, and what a crash may leave of it.
--     in_second capacity      the header of a file of the second version
--     records_in size file      the bytes between a file's header and its closing gate, which stands directly before this place
--     unmarked_head capacity      the header before its mark is written
--     copied capacity records      the file of these records
--     IsShort image      it has no more bytes than a header;  IsUnmarked image      no mark stands at its head
--     IsUnfinished file image      it has no mark or no gate, or it is this file but for the bytes in the mark's place
--     LeavesEach P old new      what a crash may leave now, and may have left since old, has P
use Rattle.std.specs.Prelude.{◌≡◌, ◌⊎◌, ℕ, ◌-◌, ◌≤◌, List, [], ◌∷◌, ◌++◌, length, take, drop, replicate}
use Rattle.std.specs.Int.{to_be_bytes, w64}
use Rattle.changeset_model.specs.Version.{Second}
use Rattle.history_model.specs.Journal.{Header, header_bytes}
use Rattle.disk_model.specs.Images.{IsImage}
use Rattle.disk_model.specs.Meaning.{Meaning}
use Rattle.disk_model.specs.Calls.{LeavesOnly}
use Rattle.repo_journal.specs.declared.header.TheConstants.{FIRST_GATE}

abbrev pub in_second : ℕ → Header
in_second capacity = record { capacity = capacity; version = Second }

abbrev pub records_in : ℕ → List ℕ → List ℕ
records_in size file = take (size - 17) (drop 16 file)

abbrev pub unmarked_head : ℕ → List ℕ
unmarked_head capacity = replicate 8 0 ++ to_be_bytes w64 capacity

abbrev pub copied : ℕ → List ℕ → List ℕ
copied capacity records = header_bytes (in_second capacity) ++ (records ++ 0 ∷ [])

abbrev pub IsShort : List ℕ → Type 0
IsShort image = length image ≤ FIRST_GATE

abbrev pub IsUnmarked : List ℕ → Type 0
IsUnmarked image = take 8 image ≡ replicate 8 0

abbrev pub IsUnfinished : List ℕ → List ℕ → Type 0
IsUnfinished file image = IsShort image ⊎ (IsUnmarked image ⊎ (drop 8 image ≡ drop 8 file))

pub record LeavesEach (P : List ℕ → Type 0) (old new : Meaning) : Type 0 where
  pub now : (image : List ℕ) → IsImage new.state image → P image
  pub since : LeavesOnly P old new
