-- How many headers a response head has room for.
use Rattle.std.proofs.Common.{◌≡◌, ◌≢◌, refl, ℕ, ◌*◌, ◌≤◌, List, [], ◌∷◌, ◌++◌, length, ap, arith, length-append}
use Rattle.std.specs.Prelude.{All, flat_map}
use Rattle.std.proofs.lemmas.List.Elements.{All-head, All-tail}
use Rattle.httparse.specs.Grammar.{LineEnd, crlf, lf, print_end, print_blank, print_version, print_reason, Field, print_field, IsField, ResponseHead, print_response, ReadsResponse, NeverHasResponse}
use Rattle.httparse.specs.declared.Error.{Error}
use Rattle.httparse.specs.declared.Error.TheVariants as errors
use Rattle.httparse.specs.declared.Error.TheVariants.{HeaderName, HeaderValue, NewLine, Token, TooManyHeaders, Version}
use Rattle.httparse.specs.Spans.{ResponseExceeds}
use Rattle.httparse.proofs.GrammarLemmas.{print_response-append}

end_is_some : (end : LineEnd) → 1 ≤ length (print_end end)
end_is_some crlf = omega arith
end_is_some lf = omega arith

field_len : (f : Field) → IsField f → 3 ≤ length (print_field f)
field_len f is =
    let some = is.name.0 in
    let end = end_is_some f.end in
    let whole = length-append (f.name ++ 58 ∷ f.raw) (print_end f.end) in
    let front = length-append f.name (58 ∷ f.raw) in
    omega arith

fields_len : (fields : List Field) → All IsField fields → 3 * length fields ≤ length (flat_map print_field fields)
fields_len [] all = omega arith
fields_len (f ∷ fields) all =
    let here = field_len f (All-head IsField f fields all) in
    let later = fields_len fields (All-tail IsField f fields all) in
    let whole = length-append (print_field f) (flat_map print_field fields) in
    omega arith

head_len : (tree : ResponseHead) → length (flat_map print_field tree.fields) ≤ length (print_response tree ++ [])
head_len tree =
    rw (print_response-append tree []) (long (print_blank tree.blank) (print_version tree.minor) tree.digits (print_reason tree.reason) (print_end tree.line_end) (flat_map print_field tree.fields) (print_end tree.last))
  where
    long : (a b c d e f g : List ℕ) → length f ≤ length (a ++ (b ++ 32 ∷ (c ++ (d ++ (e ++ (f ++ g ++ []))))))
    long a b c d e f g =
        let one = length-append a (b ++ 32 ∷ (c ++ (d ++ (e ++ (f ++ g ++ []))))) in
        let two = length-append b (32 ∷ (c ++ (d ++ (e ++ (f ++ g ++ []))))) in
        let three = length-append c (d ++ (e ++ (f ++ g ++ []))) in
        let four = length-append d (e ++ (f ++ g ++ [])) in
        let five = length-append e (f ++ g ++ []) in
        let six = length-append (f ++ g) [] in
        let seven = length-append f g in
        omega arith

-- a head has at most a third as many headers as bytes
pub headers_fit : (bytes : List ℕ) (tree : ResponseHead) → ReadsResponse bytes tree [] → 3 * length tree.fields ≤ length bytes
headers_fit bytes tree whole =
    let fields = fields_len tree.fields whole.0.fields in
    let head = head_len tree in
    let text = ap length whole.1 in
    omega arith

-- so the room is never too small
pub room_is_enough : (bytes : List ℕ) (room : ℕ) → length bytes ≤ 16384 → room ≡ 5462 → ResponseExceeds room bytes → ⊥
room_is_enough bytes room fits is exceeds =
    let few = headers_fit (exceeds.0 ++ 10 ∷ []) exceeds.3 exceeds.4 in
    let whole = ap length exceeds.2 in
    let parts = length-append exceeds.0 exceeds.1 in
    let more = length-append exceeds.0 (10 ∷ []) in
    let over = exceeds.5 in
    omega arith

pub no_head : (bytes : List ℕ) (e : Error) (room : ℕ) → length bytes ≤ 16384 → room ≡ 5462 → (e ≢ TooManyHeaders → NeverHasResponse bytes) → (e ≡ TooManyHeaders → ResponseExceeds room bytes) → NeverHasResponse bytes
no_head bytes HeaderName room fits is invalid many = invalid (λ e. cc)
no_head bytes HeaderValue room fits is invalid many = invalid (λ e. cc)
no_head bytes NewLine room fits is invalid many = invalid (λ e. cc)
no_head bytes errors.Status room fits is invalid many = invalid (λ e. cc)
no_head bytes Token room fits is invalid many = invalid (λ e. cc)
no_head bytes TooManyHeaders room fits is invalid many = absurd (room_is_enough bytes room fits is (many refl))
no_head bytes Version room fits is invalid many = invalid (λ e. cc)
