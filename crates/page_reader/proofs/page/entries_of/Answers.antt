use Rattle.std.proofs.Common.{◌≡◌, [], ◌∷◌, ◌++◌, take, length, sym, ap, ◌∙◌, subst, add-one, arith}
use Rattle.std.specs.List.{AllByRecursion}
use Rattle.std.proofs.lemmas.List.{take_all, map-append, length-map}
use Rattle.std.proofs.lemmas.Result.{err_from_is_err_and}
use Rattle.serde_json.specs.View.{view}
use Rattle.repo_calls.specs.Calls.{line_seen, lines_seen}
use Rattle.page_reader.specs.Pages.{IsTold}
use Rattle.page_reader.proofs.Loops.{line_here, all_push, lines_data_len}
use Rattle.page_reader.proofs.page.entries_of.Goals as goal

pub returns-in_err-entry_of-clause-found : goal.returns-in_err-entry_of-clause-found
returns-in_err-entry_of-clause-found c = λ from lines all same.
    let here = line_here from c.args.values.now lines c.loop-value.value-index _ c.loop-value-test.true same all in
    let memory = c.in_err-entry_of.ensures.found here.0 here.1 here.2 (ap view c.value-item.is ∙ here.3) in
    let p = err_from_is_err_and c.from_residual-in_err-entry_of.result c.from_residual-in_err-entry_of.ensures.1 in
    rw (p.1, p.2) memory

pub loop-value-preserved : goal.loop-value-preserved
loop-value-preserved c =
    let pushed = ap lines_seen c.in_ok-push.ensures.items ∙ map-append line_seen c.loop-value.entries.items (c.in_ok-entry_of.field-0 ∷ []) in
    record {
      found = λ from lines all same.
          let here = line_here from c.args.values.now lines c.loop-value.value-index _ c.loop-value-test.true same all in
          let line = c.in_ok-entry_of.ensures.found here.0 here.1 here.2 (ap view c.value-item.is ∙ here.3) in
          pushed ∙ ap (λ ys. ys ++ line_seen c.in_ok-entry_of.field-0 ∷ []) (c.loop-value.invariant.found from lines all same) ∙ ap (λ y. take c.loop-value.value-index lines ++ y ∷ []) line ∙ sym here.4 ∙ ap (λ k. take k lines) (sym (add-one c.loop-value.value-index));
      told = subst (AllByRecursion IsTold) (sym pushed) (all_push IsTold (lines_seen c.loop-value.entries.items) (line_seen c.in_ok-entry_of.field-0) c.loop-value.invariant.told c.in_ok-entry_of.ensures.told);
    }

pub returns-clause-found : goal.returns-clause-found
returns-clause-found c = λ from lines all same.
    let len : length lines ≡ length c.args.values.now = sym (lines_data_len from lines) ∙ sym (ap length same) ∙ length-map c.args.values.now view in
    let past = c.loop-value-test.false in
    c.loop-value.invariant.found from lines all same ∙ take_all c.loop-value.value-index lines (omega arith)
