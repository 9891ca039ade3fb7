use Rattle.std.proofs.Common.{Option, Some, None, Bor, List, ℕ, [], ◌∷◌, sym, ap, ◌∙◌, lit<}
use Rattle.changeset_model.specs.Path.{elements}
use Rattle.std.proofs.lemmas.Str.Pattern.{split_parts}
use Rattle.tree_fold.proofs.Texts.{elements-first, elements-unbroken}
use Rattle.derive_step.proofs.place.parted.Goals as goal

pub returns-in-Some-clause-more : goal.returns-in-Some-clause-more
returns-in-Some-clause-more c =
    let found : Option (Bor (List ℕ) × Bor (List ℕ)) = Some (c.in-Some.name, c.in-Some.rest) in
    let parts = split_parts 0x2F c.args.text.now found c.in-Some.ensures.cases (lit< tt) in
    elements-first c.args.text.now c.in-Some.name.now c.in-Some.rest.now parts.0 parts.1 ∙ ap (λ n. n ∷ elements c.in-Some.rest.now) (sym c.as_bytes-in-Some.ensures.value)

pub returns-in-None-clause-alone : goal.returns-in-None-clause-alone
returns-in-None-clause-alone c =
    let none : Option (Bor (List ℕ) × Bor (List ℕ)) = None in
    elements-unbroken c.args.text.now (split_parts 0x2F c.args.text.now none c.in-None.ensures.cases (lit< tt)) ∙ ap (λ n. n ∷ []) (sym c.as_bytes.ensures.value)
