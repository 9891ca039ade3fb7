-- A disk in memory: what reads give, how long the file was at the last sync, and which places were written since.
--     blank room, holding_all bytes room      one with nothing, and one with these bytes, all stable
--     marked_in from to marks      the marks with those from one place up to another set
--     wrote, tore, synced      after a write, a write that failed and a sync
--     after m call, finally m calls, memories m calls      after a call, after all, and at each moment
--     disk_of m      the disk by the model of images
use Rattle.std.specs.Prelude.{ℕ, suc, ◌+◌, ◌-◌, ◌≤◌, min, Bool, true, false, if◌then◌else◌, List, [], ◌∷◌, ◌++◌, length, replicate, take, drop}
use Rattle.byte_fields.specs.Bytes.{IsBytes}
use Rattle.disk_model.specs.Images.{Range, Disk, DiskCall, Writes, Syncs, write_at}

pub record Memory : Type 0 where
  pub reads : List ℕ
  pub stable : ℕ
  -- one for each place that there is room for
  pub marks : List Bool

pub record IsGood (m : Memory) : Type 0 where
  pub are_bytes : IsBytes m.reads
  pub stable : m.stable ≤ length m.reads
  pub fits : length m.reads ≤ length m.marks

abbrev pub holding_all : List ℕ → ℕ → Memory
holding_all bytes room = record { reads = bytes; stable = length bytes; marks = replicate room false }

abbrev pub blank : ℕ → Memory
blank room = holding_all [] room

abbrev pub marked_in : ℕ → ℕ → List Bool → List Bool
marked_in from to marks = take from marks ++ (replicate (to - from) true ++ drop to marks)

abbrev pub tore : ℕ → ℕ → Memory → Memory
tore at len m = record m { marks = marked_in at (min (at + len) (length m.marks)) m.marks }

abbrev pub wrote : ℕ → List ℕ → Memory → Memory
wrote at bytes m = record (tore at (length bytes) m) { reads = write_at at bytes m.reads }

abbrev pub synced : Memory → Memory
synced m = holding_all m.reads (length m.marks)

abbrev pub after : Memory → DiskCall → Memory
after m (Writes at bytes done) = if done then wrote at bytes m else tore at (length bytes) m
after m (Syncs done) = if done then synced m else m

abbrev pub finally : Memory → List DiskCall → Memory
finally m [] = m
finally m (call ∷ calls) = finally (after m call) calls

abbrev pub memories : Memory → List DiskCall → List Memory
memories m [] = m ∷ []
memories m (call ∷ calls) = m ∷ memories (after m call) calls

-- a range for each place that is marked, from this place on
abbrev pub ranges : ℕ → List Bool → List Range
ranges i [] = []
ranges i (b ∷ marks) = if b then record { at = i; len = 1 } ∷ ranges (suc i) marks else ranges (suc i) marks

abbrev pub disk_of : Memory → Disk
disk_of m = record { synced = take m.stable m.reads; reads = m.reads; written = ranges 0 m.marks }
