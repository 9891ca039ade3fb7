use Rattle.std.proofs.Common.{◌≡◌, ◌++◌, ◌∷◌, [], ap, sym, ◌∙◌, lit<, List, ℕ, Option, Some, None, Bor}
use Rattle.std.proofs.lemmas.Str.Pattern.{strip_suffix_char}
use Rattle.std.proofs.lemmas.List.{append_cancel_right}
use Rattle.changeset_model.proofs.Accepting.{elements_some as some_elements}
use Rattle.changeset_model.specs.Path.{text_of, elements, is_path}
use Rattle.derive_step.proofs.Paths.{cut_text, front_of, path_front, of_front}
use Rattle.derive_step.proofs.place.dir_before.Goals as goal

pub unreachable-requires : goal.unreachable-requires
unreachable-requires c = c.in_default.ensures.cases (text_of c.requires.0 ++ 0x2F ∷ []) (cut_text c.args.path.now c.requires.0 c.as_str.result.now c.args.rest.now c.as_str.ensures.text c.requires.1 c.requires.2)

pub unreachable-requires-in_default-strip_suffix : goal.unreachable-requires-in_default-strip_suffix
unreachable-requires-in_default-strip_suffix c =
    let strips = c.in-Some.ensures.cases in
    let text : c.as_str.result.now ≡ c.in-Some.front.now ++ c.args.rest.now = strips.1.1 ∙ ap (λ f. f ++ c.args.rest.now) (sym strips.2) in
    let whole = cut_text c.args.path.now c.requires.0 c.as_str.result.now c.args.rest.now c.as_str.ensures.text c.requires.1 c.requires.2 in
    let none : Option (Bor (List ℕ)) = None in
    strip_suffix_char 0x2F c.in-Some.front.now none c.in_default-strip_suffix.ensures.cases (lit< tt) (text_of c.requires.0) (append_cancel_right c.in-Some.front.now (text_of c.requires.0 ++ 0x2F ∷ []) c.args.rest.now (sym text ∙ whole))

pub path_of-requires : goal.path_of-requires
path_of-requires c =
    let strips = c.in-Some.ensures.cases in
    let found : Option (Bor (List ℕ)) = Some c.in-Some-strip_suffix.text in
    let text : c.as_str.result.now ≡ c.in-Some.front.now ++ c.args.rest.now = strips.1.1 ∙ ap (λ f. f ++ c.args.rest.now) (sym strips.2) in
    let front : c.in-Some.front.now ≡ c.in-Some-strip_suffix.text.now ++ 0x2F ∷ [] = strip_suffix_char 0x2F c.in-Some.front.now found c.in-Some-strip_suffix.ensures.cases (lit< tt) in
    ap is_path (front_of c.args.path.now c.requires.0 c.as_str.result.now c.in-Some-strip_suffix.text.now c.args.rest.now c.as_str.ensures.elements (text ∙ ap (λ f. f ++ c.args.rest.now) front) c.requires.2)
    ∙ path_front c.requires.0 (elements c.args.rest.now) (ap is_path (sym c.requires.2) ∙ c.as_str.ensures.path) c.requires.1 (some_elements c.args.rest.now)

pub returns : goal.returns
returns c =
    let strips = c.in-Some.ensures.cases in
    let found : Option (Bor (List ℕ)) = Some c.in-Some-strip_suffix.text in
    let text : c.as_str.result.now ≡ c.in-Some.front.now ++ c.args.rest.now = strips.1.1 ∙ ap (λ f. f ++ c.args.rest.now) (sym strips.2) in
    let front : c.in-Some.front.now ≡ c.in-Some-strip_suffix.text.now ++ 0x2F ∷ [] = strip_suffix_char 0x2F c.in-Some.front.now found c.in-Some-strip_suffix.ensures.cases (lit< tt) in
    λ d is. of_front c.path_of.result (elements c.in-Some-strip_suffix.text.now) d c.path_of.ensures (front_of c.args.path.now d c.as_str.result.now c.in-Some-strip_suffix.text.now c.args.rest.now c.as_str.ensures.elements (text ∙ ap (λ f. f ++ c.args.rest.now) front) is)
