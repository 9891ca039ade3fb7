use Rattle.std.proofs.Common.{◌≡◌, ◌++◌, length}
use Rattle.changeset_model.specs.Path.{elements}
use Rattle.derive_step.specs.Views.{before_seen}
use Rattle.manifest_store.specs.Dirs.{AreDirs, AreFull, IsMore, left}
use Rattle.manifest_store.proofs.Gathered.{own}
use Rattle.manifest_store.proofs.dirs.add_above.Given as goal

abbrev pub invariant-loop-rest : goal.invariant-loop-rest
invariant-loop-rest l = record {
  cut : elements l.fn.dir ≡ own l.above ++ left l.rest;
  dirs : AreDirs l.table.nodes (before_seen l.root) l.dirs;
  more : IsMore l.table.nodes (before_seen l.root) l.fn.dirs l.dirs;
  full : AreFull l.table.nodes (before_seen l.root) l.dirs (own l.above);
}

abbrev pub decreases-loop-rest : goal.decreases-loop-rest
decreases-loop-rest l = length (left l.rest)
