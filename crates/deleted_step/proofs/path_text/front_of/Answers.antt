use Rattle.std.proofs.Common.{◌≡◌, ◌++◌, ◌∷◌, [], ap, sym, ◌∙◌, lit<, List, ℕ, Option, Some, None, Bor}
use Rattle.std.proofs.lemmas.Str.Pattern.{strip_suffix_char}
use Rattle.std.proofs.lemmas.List.{append_cancel_right}
use Rattle.changeset_model.proofs.Accepting.{text_of-elements}
use Rattle.changeset_model.specs.Path.{text_of, elements}
use Rattle.deleted_step.proofs.Texts.{cut_text, front_of}
use Rattle.deleted_step.specs.Texts.{left}
use Rattle.deleted_step.proofs.path_text.front_of.Goals as goal

pub unreachable-requires : goal.unreachable-requires
unreachable-requires c =
    let d = c.requires.0 in
    let is : elements c.args.text.now ≡ d ++ elements c.in-Some.rest.now = c.requires.2 ∙ ap (λ r. d ++ left r) c.in-Some.is in
    c.in_default-strip_suffix.ensures.cases (text_of d ++ 0x2F ∷ []) (cut_text (elements c.args.text.now) d c.args.text.now c.in-Some.rest.now (sym (text_of-elements c.args.text.now)) c.requires.1 is)

pub unreachable-requires-in_default-strip_suffix-2 : goal.unreachable-requires-in_default-strip_suffix-2
unreachable-requires-in_default-strip_suffix-2 c =
    let d = c.requires.0 in
    let is : elements c.args.text.now ≡ d ++ elements c.in-Some.rest.now = c.requires.2 ∙ ap (λ r. d ++ left r) c.in-Some.is in
    let strips = c.in-Some-strip_suffix.ensures.cases in
    let text : c.args.text.now ≡ c.in-Some-strip_suffix.front.now ++ c.in-Some.rest.now = strips.1.1 ∙ ap (λ f. f ++ c.in-Some.rest.now) (sym strips.2) in
    let whole = cut_text (elements c.args.text.now) d c.args.text.now c.in-Some.rest.now (sym (text_of-elements c.args.text.now)) c.requires.1 is in
    let none : Option (Bor (List ℕ)) = None in
    strip_suffix_char 0x2F c.in-Some-strip_suffix.front.now none c.in_default-strip_suffix-2.ensures.cases (lit< tt) (text_of d) (append_cancel_right c.in-Some-strip_suffix.front.now (text_of d ++ 0x2F ∷ []) c.in-Some.rest.now (sym text ∙ whole))

pub returns : goal.returns
returns c = λ d some is.
    let strips = c.in-Some-strip_suffix.ensures.cases in
    let found : Option (Bor (List ℕ)) = Some c.in-Some-strip_suffix-2.front in
    let text : c.args.text.now ≡ c.in-Some-strip_suffix.front.now ++ c.in-Some.rest.now = strips.1.1 ∙ ap (λ f. f ++ c.in-Some.rest.now) (sym strips.2) in
    let front : c.in-Some-strip_suffix.front.now ≡ c.in-Some-strip_suffix-2.front.now ++ 0x2F ∷ [] = strip_suffix_char 0x2F c.in-Some-strip_suffix.front.now found c.in-Some-strip_suffix-2.ensures.cases (lit< tt) in
    front_of (elements c.args.text.now) d c.args.text.now c.in-Some-strip_suffix-2.front.now c.in-Some.rest.now (λ i. elements c.args.text.now) (text ∙ ap (λ f. f ++ c.in-Some.rest.now) front) (is ∙ ap (λ r. d ++ left r) c.in-Some.is)
