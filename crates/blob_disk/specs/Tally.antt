-- How often a disk in memory was called, and which calls are to fail.
--     Tally      the calls that are to fail, how many of each kind there were, and how many failed
--     made kind t      how many of this kind there were;  is_due kind t      the next of this kind is to fail
--     counted kind t, failed t      one more call, one more fault;  called kind fails t      one more call, with its fault if it failed
use Rattle.std.specs.Prelude.{ℕ, Bool, true, false, ◌&&◌, ◌==◌, if◌then◌else◌, List}
use Rattle.std.specs.List.{list_any}
use Rattle.ports.specs.Memory.{raised}
use Rattle.blob_disk.specs.declared.call_kind.CallKind.{CallKind}
use Rattle.blob_disk.specs.declared.call_kind.CallKind.TheVariants.{Size, Read, Write, Sync}

pub record Tally : Type 0 where
  pub failing : List (CallKind × ℕ)
  pub sizes : ℕ
  pub reads : ℕ
  pub writes : ℕ
  pub syncs : ℕ
  pub faults : ℕ

abbrev pub is_kind : CallKind → CallKind → Bool
is_kind Size Size = true
is_kind Read Read = true
is_kind Write Write = true
is_kind Sync Sync = true
is_kind kind other = false

abbrev pub made : CallKind → Tally → ℕ
made Size t = t.sizes
made Read t = t.reads
made Write t = t.writes
made Sync t = t.syncs

abbrev pub counted : CallKind → Tally → Tally
counted Size t = record t { sizes = raised t.sizes }
counted Read t = record t { reads = raised t.reads }
counted Write t = record t { writes = raised t.writes }
counted Sync t = record t { syncs = raised t.syncs }

abbrev pub failed : Tally → Tally
failed t = record t { faults = raised t.faults }

abbrev pub is_due : CallKind → Tally → Bool
is_due kind t = list_any (λ f. is_kind f.0 kind && (f.1 == made kind t)) t.failing

-- after a call of the kind, which was done or failed
abbrev pub called : CallKind → Bool → Tally → Tally
called kind fails t = if fails then failed (counted kind t) else counted kind t

-- no call was made
abbrev pub fresh : List (CallKind × ℕ) → Tally
fresh failing = record { failing = failing; sizes = 0; reads = 0; writes = 0; syncs = 0; faults = 0 }
