use Rattle.std.specs.Prelude.{IfSome}
use Rattle.changeset_model.specs.Path.{elements}
use Rattle.derive_step.specs.Views.{before_seen}
use Rattle.manifest_store.specs.Dirs.{AreDirs, AreFull}
use Rattle.manifest_store.proofs.Touching.{GoneThrough}
use Rattle.manifest_store.proofs.dirs.add_all_above.Given as goal

abbrev pub invariant-loop-edit : goal.invariant-loop-edit
invariant-loop-edit l = record {
  dirs : AreDirs l.table.nodes (before_seen l.root) l.dirs;
  last : IfSome l.last (λ t. AreFull l.table.nodes (before_seen l.root) l.dirs (elements t.now));
  full : GoneThrough l.table.nodes (before_seen l.root) l.dirs l.edits l.edit-index;
}
