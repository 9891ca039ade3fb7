use Rattle.std.proofs.Common.{◌++◌, None, map, ap, ◌∙◌}
use Rattle.std.specs.BTreeMap.Range.{entries_between}
use Rattle.std.specs.declared.ops.Bound.TheVariants.{Unbounded}
use Rattle.changeset_model.specs.Path.{path_cmp}
use Rattle.tree_fold.specs.Listing.{dir_path, listed}
use Rattle.tree_fold.specs.View.{child_view}
use Rattle.tree_fold.proofs.Children.{left_in, from_dir, listed-dir}
use Rattle.tree_fold.proofs.listing.list_dir.Goals as goal

pub loop-path-init : goal.loop-path-init
loop-path-init c =
    let es = c.args.files.now.entries in
    let left = c.into_iter-path-iterator.result in
    ap (λ items. map child_view items ++ listed None (from_dir (dir_path c.args.dir) (left_in c.args.dir left))) c.new-children.ensures.items
    ∙ listed-dir c.args.dir es left c.range-path-items.ensures.ordered
    (c.into_iter-path-iterator.ensures.into_iter_gives ∙ c.range-path-items.ensures.between tt ∙ ap (λ b. entries_between path_cmp b Unbounded es) c.start_of.ensures)
