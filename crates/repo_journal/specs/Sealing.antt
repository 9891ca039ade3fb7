-- What an append leaves of a journal, and what making a file leaves of it, at each moment. A size is the place behind the closing gate.
--     IsFramed frame, payload_in frame      a payload framed for the journal, and that payload
--     IsClosed size image      it reaches to the closing gate, which isn't open;  AllClosed size d      so does each image
--     KeepsRecords size before image      its records are those of before
--     AddsRecord size payload before image      they are those of before and one more, and a closed gate stands behind it
--     IsBeforeOrAfter d size payload image, IsAfter d size payload image      one of these, or the second, for an image of d
--     Appends size payload old new      a crash now, or at a moment since old, leaves the records before or after
--     Makes old new      a crash now, or at a moment since old, leaves no more bytes than a new file has
use Rattle.std.specs.Prelude.{◌≡◌, ◌≢◌, ◌⊎◌, ℕ, ◌-◌, ◌≤◌, List, ◌∷◌, ◌++◌, length, take, drop, slice_index}
use Rattle.disk_model.specs.Images.{Disk, IsImage}
use Rattle.history_model.specs.Journal.{framed, open_record}
use Rattle.disk_model.specs.Meaning.{Meaning}
use Rattle.disk_model.specs.Calls.{LeavesOnly}
use Rattle.repo_journal.specs.declared.header.TheConstants.{EMPTY_SIZE}

abbrev pub IsFramed : List ℕ → Type 0
IsFramed frame = (payload : List ℕ) × (frame ≡ framed payload)

-- a length of four bytes stands before it, and a closed gate behind
abbrev pub payload_in : List ℕ → List ℕ
payload_in frame = take (length frame - 5) (drop 4 frame)

pub record IsClosed (size : ℕ) (image : List ℕ) : Type 0 where
  pub long : size ≤ length image
  pub gate : slice_index image (size - 1) ≢ 1

abbrev pub AllClosed : ℕ → Disk → Type 0
AllClosed size d = (image : List ℕ) → IsImage d image → IsClosed size image

pub record KeepsRecords (size : ℕ) (before image : List ℕ) : Type 0 where
  pub front : take (size - 1) image ≡ take (size - 1) before
  pub closed : IsClosed size image

pub record AddsRecord (size : ℕ) (payload before image : List ℕ) : Type 0 where
  pub rest : List ℕ
  pub is : image ≡ take (size - 1) before ++ (open_record payload ++ 0 ∷ rest)

abbrev pub IsBeforeOrAfter : Disk → ℕ → List ℕ → List ℕ → Type 0
IsBeforeOrAfter d size payload image =
    (before : List ℕ) × IsImage d before × (KeepsRecords size before image ⊎ AddsRecord size payload before image)

abbrev pub IsAfter : Disk → ℕ → List ℕ → List ℕ → Type 0
IsAfter d size payload image = (before : List ℕ) × IsImage d before × AddsRecord size payload before image

pub record Appends (size : ℕ) (payload : List ℕ) (old new : Meaning) : Type 0 where
  pub now : (image : List ℕ) → IsImage new.state image → IsBeforeOrAfter old.state size payload image
  pub since : LeavesOnly (IsBeforeOrAfter old.state size payload) old new

abbrev pub IsShort : List ℕ → Type 0
IsShort image = length image ≤ EMPTY_SIZE

pub record Makes (old new : Meaning) : Type 0 where
  pub now : (image : List ℕ) → IsImage new.state image → IsShort image
  pub since : LeavesOnly IsShort old new
