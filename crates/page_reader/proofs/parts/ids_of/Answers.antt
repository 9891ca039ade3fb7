use Rattle.std.proofs.Common.{[], ◌∷◌, ◌++◌, take, sym, ap, ◌∙◌, subst, add-one}
use Rattle.std.specs.List.{AllByRecursion}
use Rattle.serde_json.specs.View.{view}
use Rattle.page_reader.specs.Pages.{IsId}
use Rattle.page_reader.proofs.Loops.{id_here, all_push}
use Rattle.page_reader.proofs.parts.ids_of.Goals as goal

pub returns-in_err-id_from-clause-found : goal.returns-in_err-id_from-clause-found
returns-in_err-id_from-clause-found c = λ xs all same.
    let here = id_here c.args.values.now xs c.loop-value.value-index _ c.loop-value-test.true same all in
    absurd (c.in_err-id_from.ensures.found here.0 here.1 (ap view c.value-item.is ∙ here.2))

pub loop-value-preserved : goal.loop-value-preserved
loop-value-preserved c = record {
  found = λ xs all same.
      let here = id_here c.args.values.now xs c.loop-value.value-index _ c.loop-value-test.true same all in
      let id = c.in_ok-id_from.ensures.found here.0 here.1 (ap view c.value-item.is ∙ here.2) in
      c.in_ok-push.ensures.items ∙ ap (λ ys. ys ++ c.in_ok-id_from.field-0 ∷ []) (c.loop-value.invariant.found xs all same) ∙ ap (λ y. take c.loop-value.value-index xs ++ y ∷ []) id ∙ sym here.3 ∙ ap (λ k. take k xs) (sym (add-one c.loop-value.value-index));
  rule = subst (AllByRecursion IsId) (sym c.in_ok-push.ensures.items) (all_push IsId c.loop-value.ids.items c.in_ok-id_from.field-0 c.loop-value.invariant.rule c.in_ok-id_from.ensures.rule);
}
