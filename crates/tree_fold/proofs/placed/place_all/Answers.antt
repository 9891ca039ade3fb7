use Rattle.std.proofs.Common.{sym, ap, drop, ◌∙◌}
use Rattle.std.specs.Prelude.{is_some}
use Rattle.std.proofs.lemmas.List.{drop_all}
use Rattle.std.specs.BTreeMap.{get}
use Rattle.changeset_model.specs.Path.{path_cmp}
use Rattle.tree_fold.proofs.Files.{get-unchanged}
use Rattle.tree_fold.proofs.Steps.{placed_in, placed_in-none, placed_in-some, is_placed-drop}
use Rattle.tree_fold.proofs.placed.place_all.Goals as goal

pub returns-in_err-place-clause-kept : goal.returns-in_err-place-clause-kept
returns-in_err-place-clause-kept c = λ p away.
    let i = c.loop-placing.placing-index in
    let ns = c.args.placings.now in
    get-unchanged c.loop-placing.files c.place.new.files c.in_err-place.ensures.err p
    ∙ sym (placed_in-none c.args.file.now (drop i ns) p (get path_cmp c.loop-placing.files p) (is_placed-drop i ns p away))
    ∙ c.loop-placing.invariant.placed p
    ∙ placed_in-none c.args.file.now ns p (get path_cmp c.args.files.now p) away

pub returns-clause-placed : goal.returns-clause-placed
returns-clause-placed c = λ p among.
    let i = c.loop-placing.placing-index in
    let ns = c.args.placings.now in
    ap (λ left. is_some (placed_in c.args.file.now left p (get path_cmp c.loop-placing.files p))) (sym (drop_all i ns c.loop-placing-test.false))
    ∙ ap is_some (c.loop-placing.invariant.placed p)
    ∙ placed_in-some c.args.file.now ns p (get path_cmp c.args.files.now p) among

pub returns-clause-kept : goal.returns-clause-kept
returns-clause-kept c = λ p away.
    let i = c.loop-placing.placing-index in
    let ns = c.args.placings.now in
    ap (λ left. placed_in c.args.file.now left p (get path_cmp c.loop-placing.files p)) (sym (drop_all i ns c.loop-placing-test.false))
    ∙ c.loop-placing.invariant.placed p
    ∙ placed_in-none c.args.file.now ns p (get path_cmp c.args.files.now p) away
