-- The record that a disk in memory keeps of its writes and syncs.
--     Log      the calls, with how many more there is room for
--     calls_of turns written      the calls that the turns and the written bytes stand for
use Rattle.std.specs.Prelude.{◌≡◌, ℕ, ◌+◌, ◌-◌, ◌<◌, ◌≤◌, true, false, List, [], ◌∷◌, ◌++◌, length, replicate, take, drop}
use Rattle.disk_model.specs.Images.{DiskCall, Writes, Syncs}
use Rattle.blob_disk.specs.declared.record.Turn.{Turn}
use Rattle.blob_disk.specs.declared.record.Turn.TheVariants.{Wrote, Tore, Synced, Unsynced}

pub record Log : Type 0 where
  pub calls : List DiskCall
  pub turns_left : ℕ
  pub bytes_left : ℕ

-- no call yet, with room for so many calls and written bytes
abbrev pub blank_log : ℕ → ℕ → Log
blank_log turns bytes = record { calls = []; turns_left = turns; bytes_left = bytes }

-- how many of the written bytes are the turn's
abbrev pub bytes_of : Turn → ℕ
bytes_of (Wrote at len) = len
bytes_of (Tore at len) = 0
bytes_of Synced = 0
bytes_of Unsynced = 0

-- the call of a turn that wrote these bytes
abbrev pub call_of : Turn → List ℕ → DiskCall
call_of (Wrote at len) bytes = Writes at bytes true
call_of (Tore at len) bytes = Writes at (replicate len 0) false
call_of Synced bytes = Syncs true
call_of Unsynced bytes = Syncs false

-- the written bytes stand one after another
abbrev pub calls_of : List Turn → List ℕ → List DiskCall
calls_of [] written = []
calls_of (turn ∷ turns) written = call_of turn (take (bytes_of turn) written) ∷ calls_of turns (drop (bytes_of turn) written)

abbrev pub bytes_in : List Turn → ℕ
bytes_in [] = 0
bytes_in (turn ∷ turns) = bytes_of turn + bytes_in turns

-- the log after a call that takes a turn and so many bytes
abbrev pub noted : DiskCall → ℕ → Log → Log
noted call bytes log = record { calls = log.calls ++ call ∷ []; turns_left = log.turns_left - 1; bytes_left = log.bytes_left - bytes }

pub record HasRoom (n : ℕ) (log : Log) : Type 0 where
  pub turn : 0 < log.turns_left
  pub bytes : n ≤ log.bytes_left

pub record IsRecord (turns : List Turn) (written : List ℕ) (turn_room byte_room most_turns most_bytes : ℕ) : Type 0 where
  pub turns_fit : length turns ≤ most_turns
  pub bytes_fit : length written ≤ most_bytes
  pub room_for_turns : most_turns ≤ turn_room
  pub room_for_bytes : most_bytes ≤ byte_room
  pub all_bytes : bytes_in turns ≡ length written
