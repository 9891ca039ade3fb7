-- Whole heads: their length, and how many headers they have room for.
use Rattle.std.proofs.Common.{◌≡◌, ℕ, ◌*◌, ◌≤◌, refl, List, [], ◌∷◌, ◌++◌, length, drop, sym, ap, ◌∙◌, arith, length-append}
use Rattle.std.specs.Prelude.{All, flat_map}
use Rattle.std.proofs.lemmas.List.Elements.{All-head, All-tail}
use Rattle.httparse.specs.declared.spans.HeaderSpan.{HeaderSpan}
use Rattle.httparse.specs.declared.spans.RequestSpans.{RequestSpans}
use Rattle.httparse.specs.Grammar.{LineEnd, crlf, lf, print_end, print_blank, print_version, Field, print_field, IsField, RequestHead, print_request, ReadsRequest}
use Rattle.httparse.specs.Spans.{IsRequestOf, RequestOverflows}
use Rattle.httparse.proofs.GrammarLemmas.{request_unique, print_request-append}

pub append_none : {X : Type 0} (xs : List X) → xs ++ [] ≡ xs
append_none [] = refl
append_none (x ∷ xs) = ap (λ ys. x ∷ ys) (append_none xs)

-- a head that is the whole of the bytes ends where they do
pub whole_head_len : (bytes : List ℕ) (headers : List HeaderSpan) (spans : RequestSpans) (tree : RequestHead) → IsRequestOf bytes headers spans → ReadsRequest bytes tree [] → spans.len ≡ length bytes
whole_head_len bytes headers spans tree of whole =
    let same = request_unique bytes of.0 tree (drop spans.len bytes) [] of.1.reads whole in
    let text : bytes ≡ print_request of.0 = of.1.reads.1 ∙ ap (λ rest. print_request of.0 ++ rest) same.1 ∙ append_none (print_request of.0) in
    of.1.len ∙ sym (ap length text)

end_is_some : (end : LineEnd) → 1 ≤ length (print_end end)
end_is_some crlf = omega arith
end_is_some lf = omega arith

field_len : (f : Field) → IsField f → 3 ≤ length (print_field f)
field_len f is =
    let some = is.name.0 in
    let end = end_is_some f.end in
    let whole = length-append (f.name ++ 58 ∷ f.raw) (print_end f.end) in
    let front = length-append f.name (58 ∷ f.raw) in
    omega arith

fields_len : (fields : List Field) → All IsField fields → 3 * length fields ≤ length (flat_map print_field fields)
fields_len [] all = omega arith
fields_len (f ∷ fields) all =
    let here = field_len f (All-head IsField f fields all) in
    let later = fields_len fields (All-tail IsField f fields all) in
    let whole = length-append (print_field f) (flat_map print_field fields) in
    omega arith

head_len : (tree : RequestHead) → length (flat_map print_field tree.fields) ≤ length (print_request tree ++ [])
head_len tree =
    rw (print_request-append tree []) (long (print_blank tree.blank) tree.method tree.target (print_version tree.minor) (print_end tree.line_end) (flat_map print_field tree.fields) (print_end tree.last))
  where
    long : (a b c d e f g : List ℕ) → length f ≤ length (a ++ (b ++ 32 ∷ (c ++ 32 ∷ (d ++ (e ++ (f ++ g ++ []))))))
    long a b c d e f g =
        let one = length-append a (b ++ 32 ∷ (c ++ 32 ∷ (d ++ (e ++ (f ++ g ++ []))))) in
        let two = length-append b (32 ∷ (c ++ 32 ∷ (d ++ (e ++ (f ++ g ++ []))))) in
        let three = length-append c (32 ∷ (d ++ (e ++ (f ++ g ++ [])))) in
        let four = length-append d (e ++ (f ++ g ++ [])) in
        let five = length-append e (f ++ g ++ []) in
        let six = length-append (f ++ g) [] in
        let seven = length-append f g in
        omega arith

-- a head of these bytes has at most a third as many headers
pub headers_fit : (bytes : List ℕ) (tree : RequestHead) → ReadsRequest bytes tree [] → 3 * length tree.fields ≤ length bytes
headers_fit bytes tree whole =
    let fields = fields_len tree.fields whole.0.fields in
    let head = head_len tree in
    let text = ap length whole.1 in
    omega arith

-- where the parser lacks room for any head, there is none
pub no_head_overflows : (bytes : List ℕ) (tree : RequestHead) (room : ℕ) → length bytes ≤ 3 * room → RequestOverflows room bytes → ReadsRequest bytes tree [] → ⊥
no_head_overflows bytes tree room fits overflows whole =
    let over = overflows [] tree [] (whole.0, append_none bytes ∙ whole.1) in
    let few = headers_fit bytes tree whole in
    omega arith
