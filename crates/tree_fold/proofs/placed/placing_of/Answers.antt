use Rattle.std.proofs.Common.{sym, ap, ◌∙◌}
use Rattle.std.specs.Prelude.{◌&&◌, is_none}
use Rattle.std.specs.BTreeMap.{get}
use Rattle.changeset_model.specs.Path.{path_cmp}
use Rattle.tree_fold.proofs.Files.{set_present, set_absent, is_set_of-Set}
use Rattle.tree_fold.proofs.placed.placing_of.Goals as goal

pub returns-then-contains_key-clause-none : goal.returns-then-contains_key-clause-none
returns-then-contains_key-clause-none c = λ p.
    let e = c.args.edit.now in
    ap (λ b. b && is_none (get path_cmp c.args.files.now p)) (is_set_of-Set e _ _ _ _ c.in-Set.is p) ∙ set_present c.args.files.now e.path p (sym c.contains_key.ensures ∙ c.if-contains_key.true)

pub returns-clause-some : goal.returns-clause-some
returns-clause-some c = λ p.
    let e = c.args.edit.now in
    set_absent c.args.files.now e.path p (sym c.contains_key.ensures ∙ c.if-contains_key.false) ∙ sym (ap (λ b. b && is_none (get path_cmp c.args.files.now p)) (is_set_of-Set e _ _ _ _ c.in-Set.is p))
