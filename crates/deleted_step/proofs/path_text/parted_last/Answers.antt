use Rattle.std.proofs.Common.{◌++◌, ◌∷◌, [], ap, sym, ◌∙◌, drop, lit<}
use Rattle.changeset_model.specs.Path.{elements}
use Rattle.std.proofs.lemmas.Str.Pattern.{NoCharPasses-char, drop_at_char}
use Rattle.tree_fold.proofs.Texts.{elements-unbroken}
use Rattle.deleted_step.proofs.Texts.{last_of}
use Rattle.deleted_step.proofs.path_text.parted_last.Goals as goal

pub returns-in-Some : goal.returns-in-Some
returns-in-Some c =
    let t = c.args.text.now in
    let cases = c.in-Some.ensures.cases in
    last_of t c.in-Some.above.now cases.0 cases.1 (drop_at_char 0x2F t cases.0 cases.1 cases.2.1 (lit< tt)) (λ k less. NoCharPasses-char 0x2F (drop cases.1 t) k cases.2.0 (lit< tt) less) cases.3
    ∙ ap (λ n. elements c.in-Some.above.now ++ n ∷ []) (sym cases.4)

pub returns-in-None : goal.returns-in-None
returns-in-None c = elements-unbroken c.args.text.now (λ i less. NoCharPasses-char 0x2F c.args.text.now i c.in-None.ensures.cases (lit< tt) less)
