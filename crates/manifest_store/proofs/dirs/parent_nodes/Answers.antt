use Rattle.std.proofs.Common.{refl, sym, ap, ◌∙◌}
use Rattle.std.specs.Prelude.{option_map}
use Rattle.bonsai.specs.View.{edits_view}
use Rattle.derive_step.specs.declared.job.Parent.{Parent}
use Rattle.derive_step.specs.Views.{before_seen}
use Rattle.manifest_store.specs.Nodes.{dir_under}
use Rattle.manifest_store.proofs.Touching.{parent_is}
use Rattle.manifest_store.proofs.dirs.parent_nodes.Goals as goal

pub returns : goal.returns
returns c =
    let m = c.args.table.now.nodes in
    let parent : Parent = record { roots = c.in-Some.roots; root = c.in-Some-2.root; dirs = c.add_all_above.new.dirs } in
    let rooted = ap (dir_under m) (sym c.ids_of.ensures) ∙ sym c.in_ok-root.ensures ∙ ap (option_map before_seen) c.in-Some-2.is in
    record {
      nodes = parent_is c.args.table.now c.args.number (edits_view c.args.edits.now) parent c.in-Some.roots (sym c.in-Some.is ∙ c.roots.ensures.value) rooted refl (λ d h. c.in_ok-add_all_above.ensures.full d h);
      dirs = c.in_ok-add_all_above.ensures.dirs;
    }
