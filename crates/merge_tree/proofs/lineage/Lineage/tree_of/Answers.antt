use Rattle.std.proofs.Common.{◌≡◌, ◌+◌, length, take, reverse, arith, sym, ap, ◌∙◌}
use Rattle.std.specs.Prelude.{slice_index_or}
use Rattle.std.proofs.lemmas.List.{take-map}
use Rattle.history_model.specs.Tree.{files_in}
use Rattle.merge_tree.specs.View.{member_view, members_view}
use Rattle.merge_tree.specs.Lineage.{trees_among, past_at}
use Rattle.merge_tree.proofs.Members.{last_tree, trees_long, past_by_ids}
use Rattle.merge_tree.proofs.lineage.Lineage.tree_of.Goals as goal

pub remove-requires : goal.remove-requires
remove-requires c =
    let n = c.args.at in
    let ms = c.self.inside.members.items in
    let own : c.in_ok-trees.trees.items ≡ trees_among (reverse (members_view (take (n + 1) ms))) = c.in_ok-trees.ensures ∙ ap (λ ms. trees_among (reverse (members_view (take (n + 1) ms)))) c.deref.ensures.value in
    let all : c.in_ok-trees.trees.items ≡ trees_among (reverse (take (n + 1) c.args.self.now)) = own ∙ ap (λ ms. trees_among (reverse ms)) (sym (take-map member_view (n + 1) ms) ∙ ap (take (n + 1)) c.self.view_is) in
    let long = ap length all ∙ trees_long c.args.self.now n c.requires in
    let held = c.in_ok-trees.trees.ok.0 in
    omega arith

pub returns-clause-past : goal.returns-clause-past
returns-clause-past c =
    let n = c.args.at in
    let ms = c.self.inside.members.items in
    let own : c.in_ok-trees.trees.items ≡ trees_among (reverse (members_view (take (n + 1) ms))) = c.in_ok-trees.ensures ∙ ap (λ ms. trees_among (reverse (members_view (take (n + 1) ms)))) c.deref.ensures.value in
    let all : c.in_ok-trees.trees.items ≡ trees_among (reverse (take (n + 1) c.args.self.now)) = own ∙ ap (λ ms. trees_among (reverse ms)) (sym (take-map member_view (n + 1) ms) ∙ ap (take (n + 1)) c.self.view_is) in
    c.remove.ensures.value ∙ ap (λ ts. slice_index_or ts n c.remove.result) all ∙ last_tree c.args.self.now n c.remove.result c.requires

pub returns-clause-known : goal.returns-clause-known
returns-clause-known c = λ cs x is place. returns-clause-past c ∙ ap (λ ms. files_in (past_at ms c.args.at)) is ∙ ap files_in (past_by_ids cs x c.args.at place)
