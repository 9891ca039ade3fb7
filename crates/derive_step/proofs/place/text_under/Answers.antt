use Rattle.std.proofs.Common.{◌++◌, ap, sym, ◌∙◌, lit<}
use Rattle.std.proofs.lemmas.Str.Pattern.{strip_prefix_char}
use Rattle.derive_step.proofs.Paths.{inside_of}
use Rattle.tree_fold.proofs.Texts.{outside_of, not_at_front}
use Rattle.derive_step.proofs.place.text_under.Goals as goal

pub returns-in_default-clause-outside : goal.returns-in_default-clause-outside
returns-in_default-clause-outside c = not_at_front c.args.dir.now c.args.path.now c.as_str-2.result.now c.as_str.result.now c.as_str-2.ensures.elements c.as_str.ensures.elements c.in_default.ensures.cases

pub returns-clause-inside : goal.returns-clause-inside
returns-clause-inside c =
    let strips = c.in-Some.ensures.cases in
    inside_of c.strip_prefix-2.result c.args.dir.now c.args.path.now c.as_str-2.result.now c.as_str.result.now c.in-Some.rest.now c.as_str-2.ensures.elements c.as_str.ensures.elements (strips.1.1 ∙ ap (λ r. c.as_str-2.result.now ++ r) (sym strips.2)) (strip_prefix_char 0x2F c.in-Some.rest.now c.strip_prefix-2.result c.strip_prefix-2.ensures.cases (lit< tt))

pub returns-clause-outside : goal.returns-clause-outside
returns-clause-outside c =
    let strips = c.in-Some.ensures.cases in
    outside_of c.strip_prefix-2.result c.args.dir.now c.args.path.now c.as_str-2.result.now c.as_str.result.now c.in-Some.rest.now c.as_str-2.ensures.elements c.as_str.ensures.elements (strips.1.1 ∙ ap (λ r. c.as_str-2.result.now ++ r) (sym strips.2)) (strip_prefix_char 0x2F c.in-Some.rest.now c.strip_prefix-2.result c.strip_prefix-2.ensures.cases (lit< tt))
