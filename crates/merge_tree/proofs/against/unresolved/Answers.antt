use Rattle.std.proofs.Common.{ap, sym, ◌∙◌}
use Rattle.std.specs.Prelude.{Some, option_map}
use Rattle.history_model.specs.Merge as merge
use Rattle.merge_tree.specs.Lesser.{lesser_of}
use Rattle.merge_tree.proofs.Steps.{first_that}
use Rattle.merge_tree.proofs.Least.{least_unresolved}
use Rattle.merge_tree.proofs.against.unresolved.Goals as goal

pub returns-in_ok-copy-in-Some : goal.returns-in_ok-copy-in-Some
returns-in_ok-copy-in-Some c =
    let k = c.args.change.now in
    ap (λ q. Some q) c.in_ok-copy-in-Some.ensures ∙ ap (option_map (λ p. p.now)) (sym c.in-Some.is) ∙ c.lesser.ensures
    ∙ (λ i. lesser_of ((c.first_unresolved-of_left.ensures ∙ (λ j. first_that (merge.is_unresolved k (c.files-2.ensures.files j)) (c.files.ensures.files j))) i) ((c.first_unresolved-of_right.ensures ∙ (λ j. first_that (merge.is_unresolved k (c.files-4.ensures.files j)) (c.files-3.ensures.files j))) i))
    ∙ sym (least_unresolved k c.args.left.now c.args.right.now c.files.ensures.rising c.files-2.ensures.rising)

pub returns-in-None : goal.returns-in-None
returns-in-None c =
    let k = c.args.change.now in
    ap (option_map (λ p. p.now)) (sym c.in-None.is) ∙ c.lesser.ensures
    ∙ (λ i. lesser_of ((c.first_unresolved-of_left.ensures ∙ (λ j. first_that (merge.is_unresolved k (c.files-2.ensures.files j)) (c.files.ensures.files j))) i) ((c.first_unresolved-of_right.ensures ∙ (λ j. first_that (merge.is_unresolved k (c.files-4.ensures.files j)) (c.files-3.ensures.files j))) i))
    ∙ sym (least_unresolved k c.args.left.now c.args.right.now c.files.ensures.rising c.files-2.ensures.rising)
