-- What a crash may leave of a disk.
--     Disk      what the last sync left, what reads give, and the ranges that were written since, in order
--     write_at at bytes file      a file after a write at a place that it reaches to
--     holding file      a disk of which all is synced;  after_call d call, disks d calls      the disk after a call, and all the disks from this one on
--     IsImage d image      what a crash may leave now;  IsImageSince ds image      what one may have left at some moment in which the disk was one of these
use Rattle.std.specs.Prelude.{◌≡◌, ℕ, ◌+◌, ◌<◌, ◌≤◌, Bool, ◌&&◌, nat_le, nat_lt, if◌then◌else◌, IsFalse, List, [], ◌∷◌, ◌++◌, length, take, drop, slice_index, Contains}
use Rattle.std.specs.List.{list_any}
use Rattle.byte_fields.specs.Bytes.{IsBytes}

pub record Range : Type 0 where
  pub at : ℕ
  pub len : ℕ

pub record Disk : Type 0 where
  pub synced : List ℕ
  pub reads : List ℕ
  pub written : List Range

abbrev pub holding : List ℕ → Disk
holding file = record { synced = file; reads = file; written = [] }

-- a call that may change a disk, and whether it was done or failed
pub data DiskCall : Type 0 where
  Writes : (at : ℕ) (bytes : List ℕ) (done : Bool) → DiskCall
  Syncs : (done : Bool) → DiskCall

-- what is written is bytes
abbrev pub IsCall : DiskCall → Type 0
IsCall (Writes at bytes done) = IsBytes bytes
IsCall (Syncs done) = Unit {0}

abbrev pub write_at : ℕ → List ℕ → List ℕ → List ℕ
write_at at bytes file = take at file ++ (bytes ++ drop (at + length bytes) file)

-- a range that may have been written, as after a write that failed
abbrev pub marked : ℕ → ℕ → Disk → Disk
marked at len d = record d { written = d.written ++ record { at = at; len = len } ∷ [] }

abbrev pub after_write : ℕ → List ℕ → Disk → Disk
after_write at bytes d = record (marked at (length bytes) d) { reads = write_at at bytes d.reads }

-- A write that fails leaves what reads give, and its range may still have any bytes. A sync that fails makes nothing stable.
abbrev pub after_call : Disk → DiskCall → Disk
after_call d (Writes at bytes done) = if done then after_write at bytes d else marked at (length bytes) d
after_call d (Syncs done) = if done then holding d.reads else d

abbrev pub disks : Disk → List DiskCall → List Disk
disks d [] = d ∷ []
disks d (call ∷ calls) = d ∷ disks (after_call d call) calls

-- a range that was written since the last sync has this place
abbrev pub is_written : Disk → ℕ → Bool
is_written d i = list_any (λ w. nat_le w.at i && nat_lt i (w.at + w.len)) d.written

-- The file may end anywhere from the end at the last sync to where reads end. A place in no range that was written since keeps its byte, and any other may have any byte.
pub record IsImage (d : Disk) (image : List ℕ) : Type 0 where
  pub are_bytes : IsBytes image
  pub no_shorter : length d.synced ≤ length image
  pub no_longer : length image ≤ length d.reads
  pub kept : (i : ℕ) → i < length d.synced → IsFalse (is_written d i) → slice_index image i ≡ slice_index d.synced i

abbrev pub IsImageSince : List Disk → List ℕ → Type 0
IsImageSince ds image = (d : Disk) × Contains ds d × IsImage d image
