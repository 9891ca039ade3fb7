-- The meaning of a disk in memory.
--     meaning_of m log t      of these bytes and marks, the record where one is kept, and the calls so far
--     AgreesWith m log      the record tells the bytes and marks as they are
--     IsCrashed fill m left      what is left where each byte written since the last sync holds fill, and all others read as they did
use Rattle.std.specs.Prelude.{◌≡◌, ℕ, ◌<◌, ◌||◌, nat_le, true, false, if◌then◌else◌, List, [], ◌∷◌, length, map, slice_index, slice_index_or, Option, None, Some}
use Rattle.std.specs.Option.{ForSome, option_map, option_map_or}
use Rattle.disk_model.specs.Images.{Disk}
use Rattle.blob_disk.specs.declared.call_kind.CallKind.{CallKind}
use Rattle.disk_model.specs.Meaning.{Meaning}
use Rattle.blob_disk.specs.Memory.{Memory, blank, finally, memories, disk_of}
use Rattle.blob_disk.specs.Log.{Log}
use Rattle.blob_disk.specs.Tally.{Tally}

-- without a record, and with no call that is to fail, only a write past the room fails
abbrev pub quiet_of : Option Log → List (CallKind × ℕ) → ℕ → Option ℕ
quiet_of None [] room = Some room
quiet_of None (call ∷ failing) room = None
quiet_of (Some log) failing room = None

abbrev pub states_of : ℕ → Log → List Disk
states_of room log = map disk_of (memories (blank room) log.calls)

abbrev pub meaning_of : Memory → Option Log → Tally → Meaning
meaning_of m log t = record {
  reads = Some m.reads;
  state = disk_of m;
  past = option_map (states_of (length m.marks)) log;
  moment = option_map_or (λ l. length l.calls) log 0;
  faults = t.faults;
  quiet = quiet_of log t.failing (length m.marks);
  honest = true;
}

abbrev pub AgreesWith : Memory → Option Log → Type 0
AgreesWith m log = ForSome log (λ l. finally (blank (length m.marks)) l.calls ≡ m)

pub record IsCrashed (fill : ℕ) (m : Memory) (left : List ℕ) : Type 0 where
  pub len : length left ≡ length m.reads
  pub each : (i : ℕ) → i < length left → slice_index left i ≡ (if nat_le m.stable i || slice_index_or m.marks i false then fill else slice_index m.reads i)
