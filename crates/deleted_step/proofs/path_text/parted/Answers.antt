use Rattle.std.proofs.Common.{Option, Some, None, Bor, List, ℕ, lit<}
use Rattle.std.proofs.lemmas.Str.Pattern.{split_parts}
use Rattle.tree_fold.proofs.Texts.{elements-first, elements-unbroken}
use Rattle.deleted_step.proofs.path_text.parted.Goals as goal

pub returns-in-Some : goal.returns-in-Some
returns-in-Some c =
    let found : Option (Bor (List ℕ) × Bor (List ℕ)) = Some (c.in-Some.name, c.in-Some.rest) in
    let parts = split_parts 0x2F c.args.text.now found c.in-Some.ensures.cases (lit< tt) in
    elements-first c.args.text.now c.in-Some.name.now c.in-Some.rest.now parts.0 parts.1

pub returns-in-None : goal.returns-in-None
returns-in-None c =
    let none : Option (Bor (List ℕ) × Bor (List ℕ)) = None in
    elements-unbroken c.args.text.now (split_parts 0x2F c.args.text.now none c.in-None.ensures.cases (lit< tt))
