use Rattle.std.proofs.Common.{ap, ◌∙◌}
use Rattle.std.specs.Option.{option_map_or}
use Rattle.history_model.specs.History.{with_id}
use Rattle.history_model.specs.Past.{Begin}
use Rattle.merge_tree.specs.View.{flats_view}
use Rattle.merge_tree.specs.Lineage.{past_among, tree_among}
use Rattle.merge_tree.proofs.Pasts.{files_in-merged}
use Rattle.merge_tree.proofs.Members.{ok_both, tree_among-past}
use Rattle.merge_tree.proofs.lineage.tree_on.Goals as goal

pub returns : goal.returns
returns c = ok_both c.merged.result _ _ _ c.merged.ensures.files c.merged.ensures.rising (λ flat at rises older is.
    let m = c.args.member.now in
    files_in-merged (with_id m.change) (option_map_or (past_among older) m.parents.first Begin) (option_map_or (past_among older) m.parents.second Begin) flat (flats_view c.files_at-first.result.now) (flats_view c.files_at-second.result.now) rises
    (c.files_at-first.ensures ∙ ap (λ ts. tree_among ts m.parents.first) is ∙ tree_among-past older m.parents.first)
    (c.files_at-second.ensures ∙ ap (λ ts. tree_among ts m.parents.second) is ∙ tree_among-past older m.parents.second) at)
