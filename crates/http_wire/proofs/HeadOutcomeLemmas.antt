-- What stands first, from the fronts that were looked at and the parse of a head.
use Rattle.std.proofs.Common.{Bool, List, Some, [], ap, arith, drop, false, get_or, inr, length, length-append, length-drop, length-take, min, refl, reverse, subst, sym, take, true, ℕ, ◌++◌, ◌+◌, ◌-◌, ◌<◌, ◌∙◌, ◌∷◌, ◌≡◌, ◌≤◌}
use Rattle.std.specs.Prelude.{nat_le, ◌==◌, ◌||◌}
use Rattle.std.proofs.lemmas.Bool.{leb-true, leb-false}
use Rattle.std.specs.List.{ends_with}
use Rattle.std.proofs.lemmas.Bool.Decides.{Decides-eqb}
use Rattle.std.proofs.lemmas.Slice.Eq.{ends_is}
use Rattle.http_wire.proofs.TextLemmas.{last_and_front}
use Rattle.std.proofs.lemmas.List.{get_or-take, reverse-append, take_all, nil_from_length}
use Rattle.httparse.specs.declared.spans.HeaderSpan.{HeaderSpan}
use Rattle.httparse.specs.declared.spans.RequestSpans.{RequestSpans}
use Rattle.httparse.specs.Spans.{IsRequestOf}
use Rattle.httparse.specs.Grammar.{ReadsRequest}
use Rattle.http_model.specs.declared.head_refusal.HeadRefusal.{HeadRefusal}
use Rattle.http_model.specs.Head.{Head, IsHead, lengths_of, body_length, refusal_of}
use Rattle.http_model.specs.Stream.{Refuses, ends_head, IsHeadEnd, most_head, with_body, unless_refused, Stands}
use Rattle.http_wire.specs.Judging.{seen_head}

-- ---- the fronts

after_line_feed : (bytes front before : List ℕ) → bytes ≡ front ++ (before ++ 10 ∷ []) → get_or bytes (length bytes - 1) 0 ≡ 10
after_line_feed bytes front before is =
    let len = length-append front (before ++ 10 ∷ []) in
    let some : 0 < length bytes = omega (arith, ap length is, length-append before (10 ∷ [])) in
    let turned : reverse bytes ≡ 10 ∷ (reverse before ++ reverse front) =
    ap reverse is ∙ reverse-append front (before ++ 10 ∷ []) ∙ ap (λ bs. bs ++ reverse front) (reverse-append before (10 ∷ [])) in
    let last = last_and_front bytes some in
    cc

-- a front that ends a head ends a line
pub line_feed_last : (bytes : List ℕ) → ends_head bytes ≡ true → get_or bytes (length bytes - 1) 0 ≡ 10
line_feed_last bytes ends = by_ends _ refl _ refl ends
  where
    by_ends : (t : Bool) → ends_with (λ a b. a == b) bytes (10 ∷ 10 ∷ []) ≡ t → (u : Bool) → ends_with (λ a b. a == b) bytes (10 ∷ 13 ∷ 10 ∷ []) ≡ u → (t || u) ≡ true → get_or bytes (length bytes - 1) 0 ≡ 10
    by_ends true is u other either = after_line_feed bytes _ (10 ∷ []) ((ends_is {E = λ a b. a == b} Decides-eqb bytes (10 ∷ 10 ∷ []) true (sym is)).0 refl)
    by_ends false is true other either = after_line_feed bytes _ (10 ∷ 13 ∷ []) ((ends_is {E = λ a b. a == b} Decides-eqb bytes (10 ∷ 13 ∷ 10 ∷ []) true (sym other)).0 refl)
    by_ends false is false other either = absurd (cc)

pub no_line_no_head : (bytes : List ℕ) (at : ℕ) → at < length bytes → (get_or bytes at 0 ≡ 10 → ⊥) → ends_head (take (at + 1) bytes) ≡ false
no_line_no_head bytes at inside other = by_test _ refl
  where
    by_test : (t : Bool) → ends_head (take (at + 1) bytes) ≡ t → ends_head (take (at + 1) bytes) ≡ false
    by_test false none = none
    by_test true ends =
        let len : length (take (at + 1) bytes) - 1 ≡ at = omega (arith, length-take (at + 1) bytes) in
        let inner : at < length (take (at + 1) bytes) = omega (arith, length-take (at + 1) bytes) in
        let last = line_feed_last (take (at + 1) bytes) ends in
        let here : get_or (take (at + 1) bytes) at 0 ≡ 10 = ap (λ n. get_or (take (at + 1) bytes) n 0) (sym len) ∙ last in
        absurd (other (sym (get_or-take (at + 1) bytes at 0 (omega arith)) ∙ here))

pub fronts_more : (bytes : List ℕ) (len : ℕ) → ((n : ℕ) → n ≤ len → ends_head (take n bytes) ≡ false) → ends_head (take (len + 1) bytes) ≡ false
    → (n : ℕ) → n ≤ len + 1 → ends_head (take n bytes) ≡ false
fronts_more bytes len before here n below = by_order (nat_le n len) refl
  where
    by_order : (t : Bool) → nat_le n len ≡ t → ends_head (take n bytes) ≡ false
    by_order true le = before n (leb-true n len le)
    by_order false gt =
        let more = leb-false n len gt in
        let same : n ≡ len + 1 = omega arith in
        ap (λ k. ends_head (take k bytes)) same ∙ here

-- no longer front ends a head either, as far as a head may go
pub fronts_all : (bytes : List ℕ) (len most : ℕ) → min (length bytes) most ≤ len → ((n : ℕ) → n ≤ len → ends_head (take n bytes) ≡ false)
    → (n : ℕ) → n ≤ most → ends_head (take n bytes) ≡ false
fronts_all bytes len most covers before n below = by_order (nat_le n len) refl
  where
    by_order : (t : Bool) → nat_le n len ≡ t → ends_head (take n bytes) ≡ false
    by_order true le = before n (leb-true n len le)
    by_order false gt =
        let more = leb-false n len gt in
        let past : length bytes ≤ n = omega arith in
        let all : length bytes ≤ len = omega arith in
        ap ends_head (take_all n bytes past ∙ sym (take_all len bytes all)) ∙ before len (omega arith)

-- ---- the head

pub seen_is_head : (bytes : List ℕ) (headers : List HeaderSpan) (spans : RequestSpans) → IsRequestOf bytes headers spans → spans.len ≡ length bytes
    → IsHead bytes (seen_head bytes spans (take spans.headers headers))
seen_is_head bytes headers spans of whole =
    let at = of.1 in
    let none : drop spans.len bytes ≡ [] = nil_from_length _ (omega (arith, length-drop spans.len bytes)) in
    let P : List ℕ → Type 0 = λ rest. ReadsRequest bytes of.0 rest in
    (of.0, subst P none at.reads, λ i. record { method = sym at.method i; target = sym at.path i; minor = sym at.version i; headers = sym at.fields i })

pub refused_stands : (bytes : List ℕ) (len : ℕ) (head : Head) (refusal : HeadRefusal) → IsHeadEnd bytes len → len ≤ most_head → IsHead (take len bytes) head → refusal_of head ≡ Some refusal
    → Stands bytes (Refuses refusal)
refused_stands bytes len head refusal end fits reads refused = inr record {
  len = len;
  reading = Some head;
  end = end;
  fits = fits;
  reads = reads;
  gives = sym (ap (λ r. unless_refused r (with_body bytes len (body_length (lengths_of head)) head)) refused);
}
