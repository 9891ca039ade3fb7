use Rattle.std.proofs.Common.{◌≡◌, true, false, sym, ap, ◌∙◌, codes, List, ℕ, [], ◌∷◌, Option, None, Some, Bor, refl}
use Rattle.std.specs.Str.{str_eq_ignore_ascii_case}
use Rattle.std.specs.Option.{is_some}
use Rattle.httparse.specs.Spans.{header_bytes}
use Rattle.http_wire.proofs.HeaderLemmas.{values_first, values_same, several_values}
use Rattle.http_wire.proofs.header_fields.caller_given.Invariants.{texts_found}
use Rattle.http_wire.proofs.header_fields.caller_given.Goals.{then-is_word+else-is_some, else-is_word}
use Rattle.http_wire.proofs.header_fields.caller_given.Goals as goal

one_found : (found : Option (Bor (List ℕ))) → is_some found ≡ true → (text : List ℕ) × (texts_found found ≡ text ∷ [])
one_found None some = absurd (cc)
one_found (Some text) some = (text.now, refl)

none_found : (found : Option (Bor (List ℕ))) → is_some found ≡ false → texts_found found ≡ []
none_found None none = refl
none_found (Some text) none = absurd (cc)

pub returns-then-is_some : goal.returns-then-is_some
returns-then-is_some c =
    let named = ap (λ text. str_eq_ignore_ascii_case text (codes "caller")) (sym c.of.ensures) ∙ sym c.is_word.ensures ∙ c.if-is_word.true in
    let one = one_found c.headers.found (sym c.is_some.ensures ∙ c.if-is_some.true) in
    several_values (codes "caller") (header_bytes c.args.bytes.now) c.args.headers.now c.headers.header-index _ one.0 c.headers-test.true named (c.headers.invariant ∙ one.1)

pub headers-preserved : goal.headers-preserved
headers-preserved c = elim c.if-is_word.branch [
  | then-is_word+else-is_some w ↦
      let named = ap (λ text. str_eq_ignore_ascii_case text (codes "caller")) (sym c.of.ensures) ∙ sym c.is_word.ensures ∙ w.if-is_word.true in
      let before = c.headers.invariant ∙ none_found c.headers.found (sym w.is_some.ensures ∙ w.if-is_some.false) in
      values_first (codes "caller") (header_bytes c.args.bytes.now) c.args.headers.now c.headers.header-index _ c.headers-test.true named before
      ∙ ap (λ text. text ∷ []) (sym w.of-then-is_word.ensures) ∙ ap texts_found (sym w.found-is)
  | else-is_word w ↦
      let other = ap (λ text. str_eq_ignore_ascii_case text (codes "caller")) (sym c.of.ensures) ∙ sym c.is_word.ensures ∙ w.if-is_word.false in
      values_same (codes "caller") (header_bytes c.args.bytes.now) c.args.headers.now c.headers.header-index _ c.headers-test.true other
      ∙ c.headers.invariant ∙ ap texts_found (sym w.found-is)
]
