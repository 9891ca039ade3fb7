-- Several looks at a disk in a row.
use Rattle.std.proofs.Common.{false, ◌∙◌, sym, subst, refl, inl}
use Rattle.std.specs.Prelude.{IsTrue, IsSome}
use Rattle.ports.specs.Faults.{Counts}
use Rattle.ports.proofs.Counting.{counts_none, counts_then}
use Rattle.disk_model.specs.Images.{IsImage}
use Rattle.disk_model.specs.Meaning.{Meaning}
use Rattle.disk_model.specs.Calls.{Kept, LeavesOnly, Looked}
use Rattle.blob_disk.proofs.Clients.{kept_none, kept_then, leaves_then, leaves_weaker}

pub record Walked (old new : Meaning) : Type 0 where
  pub looked : Looked old new
  pub kept : Kept old new
  pub time : IsTrue old.honest → LeavesOnly (IsImage new.state) old new
  pub counts : Counts old.faults new.faults false

pub walk_none : (m : Meaning) → Walked m m
walk_none m = record { looked = λ honest. refl; kept = kept_none m; time = λ honest. record { since = λ t image early left. inl left }; counts = counts_none m.faults }

pub leaves_walk : (a b c : Meaning) → Walked a b → Looked b c → LeavesOnly (IsImage c.state) b c → IsTrue a.honest → LeavesOnly (IsImage c.state) a c
leaves_walk a b c before looked time honest =
    let same = looked (before.kept.honest ∙ honest) in
    leaves_then (IsImage c.state) a b c before.kept (leaves_weaker (IsImage b.state) (IsImage c.state) a b (λ image h. subst (λ d. IsImage d image) (sym same) h) (before.time honest)) time

pub walk_then : (a b c : Meaning) → Walked a b → Looked b c → Kept b c → LeavesOnly (IsImage c.state) b c → Counts b.faults c.faults false → Walked a c
walk_then a b c before looked kept time counts = record {
  looked = λ honest. looked (before.kept.honest ∙ honest) ∙ before.looked honest;
  kept = kept_then a b c before.kept kept;
  time = leaves_walk a b c before looked time;
  counts = counts_then a.faults b.faults c.faults false false before.counts counts;
}

pub still_quiet : (a b : Meaning) → Walked a b → IsSome a.quiet → IsSome b.quiet
still_quiet a b walked quiet = subst (λ q. IsSome q) (sym walked.kept.quiet) quiet
