-- What contracts see of a disk in memory, and which of its calls are done.
use Rattle.std.specs.Prelude.{◌≡◌, ℕ, ◌+◌, ◌≤◌, false, length, Option}
use Rattle.std.specs.Option.{ForSome}
use Rattle.disk_model.specs.Meaning.{Meaning}
use Rattle.blob_disk.specs.declared.call_kind.CallKind.TheVariants.{Sync, Write}
use Rattle.blob_disk.specs.declared.mem_disk.MemDisk.{MemDisk}
use Rattle.blob_disk.specs.Memory.{Memory}
use Rattle.blob_disk.specs.Log.{Log, HasRoom}
use Rattle.blob_disk.specs.Tally.{Tally, is_due}
use Rattle.blob_disk.specs.MemMeaning.{meaning_of}

-- its bytes, and which of them were written since the last sync
abbrev pub memory_of : MemDisk → Memory
memory_of disk = disk.content

-- the record of its writes and syncs, where it keeps one
abbrev pub log_of : MemDisk → Option Log
log_of disk = disk.log

-- how often it was called
abbrev pub tally_of : MemDisk → Tally
tally_of disk = disk.calls

abbrev pub told_of : MemDisk → Meaning
told_of disk = meaning_of disk.content disk.log disk.calls

-- it isn't one of those that are to fail, the disk has room, and so has the record, where one is kept
pub record IsWritten (at len : ℕ) (disk : MemDisk) : Type 0 where
  pub undue : is_due Write disk.calls ≡ false
  pub room : at + len ≤ length disk.content.marks
  pub recorded : ForSome disk.log (HasRoom len)

pub record IsSynced (disk : MemDisk) : Type 0 where
  pub undue : is_due Sync disk.calls ≡ false
  pub recorded : ForSome disk.log (HasRoom 0)
