use Rattle.std.proofs.Common.{sym, ap, ◌∙◌}
use Rattle.changeset_model.specs.Path.{elements, is_path}
use Rattle.changeset_model.proofs.Accepting.{elements_some as some_elements}
use Rattle.derive_step.specs.Views.{before_seen}
use Rattle.manifest_store.specs.Dirs.{AreFull}
use Rattle.manifest_store.proofs.Gathered.{front_path}
use Rattle.manifest_store.proofs.Touching.{next_edit, last_full, above_is}
use Rattle.manifest_store.proofs.dirs.add_all_above.Goals as goal

pub loop-edit-preserved-then-is_same : goal.loop-edit-preserved-then-is_same
loop-edit-preserved-then-is_same c =
    let m = c.args.table.now.nodes in
    let b = before_seen c.args.root.now in
    let inside = c.in-Some.ensures.inside in
    let full = last_full (λ t. AreFull m b c.loop-edit.dirs (elements t)) c.loop-edit.last c.in-Some.dir.now (c.is_same.ensures.0 c.if-is_same.true) c.loop-edit.invariant.last in
    record {
      dirs = c.loop-edit.invariant.dirs;
      last = c.loop-edit.invariant.last;
      full = next_edit m b c.loop-edit.dirs c.loop-edit.dirs c.args.edits.now c.loop-edit.edit-index c.edit-item.result c.loop-edit-test.true c.edit-item.is c.loop-edit.invariant.full (λ d f. f)
          (λ d h. full d (above_is d c.edit-item.result.path (elements c.in-Some.dir.now) inside.0 (sym c.as_str.ensures.elements ∙ inside.1) h));
    }

pub add_above-requires-clause-path : goal.add_above-requires-clause-path
add_above-requires-clause-path c =
    let inside = c.in-Some.ensures.inside in
    front_path (elements c.in-Some.dir.now) _ (elements c.as_str.result.now) inside.1 (ap is_path c.as_str.ensures.elements ∙ c.as_str.ensures.path) (some_elements c.in-Some.dir.now)

pub loop-edit-preserved : goal.loop-edit-preserved
loop-edit-preserved c =
    let m = c.args.table.now.nodes in
    let b = before_seen c.args.root.now in
    let inside = c.in-Some.ensures.inside in
    record {
      dirs = c.in_ok-add_above.ensures.dirs;
      last = c.in_ok-add_above.ensures.full;
      full = next_edit m b c.loop-edit.dirs c.add_above.new.dirs c.args.edits.now c.loop-edit.edit-index c.edit-item.result c.loop-edit-test.true c.edit-item.is c.loop-edit.invariant.full c.in_ok-add_above.ensures.more
          (λ d h. c.in_ok-add_above.ensures.full d (above_is d c.edit-item.result.path (elements c.in-Some.dir.now) inside.0 (sym c.as_str.ensures.elements ∙ inside.1) h));
    }
