use Rattle.std.proofs.Common.{Option, Some, None, Bor, List, ℕ, ap, sym, ◌∙◌, lit<}
use Rattle.std.specs.Prelude.{◌==◌, length}
use Rattle.std.proofs.lemmas.Str.Pattern.{split_parts}
use Rattle.history_model.specs.Tree.{first_element}
use Rattle.tree_fold.proofs.Texts.{elements-first, elements-unbroken, not_alone}
use Rattle.tree_fold.proofs.listing.split_name.Goals as goal

pub returns-in-Some-clause-name : goal.returns-in-Some-clause-name
returns-in-Some-clause-name c =
    let found : Option (Bor (List ℕ) × Bor (List ℕ)) = Some (c.in-Some.name, c.in-Some.field-0-1) in
    let parts = split_parts 0x2F c.args.text.now found c.in-Some.ensures.cases (lit< tt) in
    ap first_element (elements-first c.args.text.now c.in-Some.name.now c.in-Some.field-0-1.now parts.0 parts.1)

pub returns-in-Some-clause-alone : goal.returns-in-Some-clause-alone
returns-in-Some-clause-alone c =
    let found : Option (Bor (List ℕ) × Bor (List ℕ)) = Some (c.in-Some.name, c.in-Some.field-0-1) in
    let parts = split_parts 0x2F c.args.text.now found c.in-Some.ensures.cases (lit< tt) in
    not_alone c.in-Some.name.now c.in-Some.field-0-1.now ∙ ap (λ p. length p == 1) (sym (elements-first c.args.text.now c.in-Some.name.now c.in-Some.field-0-1.now parts.0 parts.1))

pub returns-in-None-clause-name : goal.returns-in-None-clause-name
returns-in-None-clause-name c =
    let none : Option (Bor (List ℕ) × Bor (List ℕ)) = None in
    ap first_element (elements-unbroken c.args.text.now (split_parts 0x2F c.args.text.now none c.in-None.ensures.cases (lit< tt)))

pub returns-in-None-clause-alone : goal.returns-in-None-clause-alone
returns-in-None-clause-alone c =
    let none : Option (Bor (List ℕ) × Bor (List ℕ)) = None in
    ap (λ p. length p == 1) (sym (elements-unbroken c.args.text.now (split_parts 0x2F c.args.text.now none c.in-None.ensures.cases (lit< tt))))
