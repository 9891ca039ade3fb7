-- Where a text breaks the rules of a path, and whether it does.
use Rattle.std.proofs.Common.{◌≡◌, not, subst, ℕ, ◌+◌, ◌-◌, ◌<◌, ◌≤◌, min, add_assoc, Bool, true, false, cond, ◌&&◌, List, [], ◌∷◌, length, drop, take, Some, None, refl, ap, ◌∙◌, arith}
use Rattle.std.specs.Prelude.{nat_lt, nat_le, bytes_eq, position, ◌==◌}
use Rattle.std.specs.List.{list_all}
use Rattle.std.proofs.lemmas.Bool.{lt-ltb, le-leb, ltb-false, ltb-true, leb-true}
use Rattle.std.specs.Str.{IsUtf8, is_utf8, chars}
use Rattle.std.proofs.lemmas.Str.{IsUtf8-from_is_utf8, IsUtf8-append}
use Rattle.byte_fields.specs.Bytes.{is_line}
use Rattle.changeset_model.specs.Path.{Path, elements, text_of, is_element, is_path, element_fault, path_fault}
use Rattle.std.proofs.lemmas.List.{length-take, length-drop, take_all}
use Rattle.changeset_model.proofs.Accepting.{elements_some as some_elements, text_of-elements}
use Rattle.repo_path.proofs.Fronts.{elements-first, elements-only}
use Rattle.byte_fields.proofs.Booleans.{and_false}

pub first_of_two : (a b : Bool) → (a && b) ≡ true → a ≡ true
first_of_two true b h = refl
first_of_two false b h = absurd (cc)

pub second_of_two : (a b : Bool) → (a && b) ≡ true → b ≡ true
second_of_two true b h = h
second_of_two false b h = absurd (cc)

ruled_by : (at : ℕ) (f : List ℕ) (p : Path) → (element_fault (at + length f + 1) p ≡ None → list_all is_element p ≡ true) → (t : Bool) → cond t (element_fault (at + length f + 1) p) (Some at) ≡ None → (t && list_all is_element p) ≡ true
ruled_by at f p ih true e = ih e
ruled_by at f p ih false e = absurd (cc)

ruled : (at : ℕ) (p : Path) → element_fault at p ≡ None → list_all is_element p ≡ true
ruled at [] e = refl
ruled at (f ∷ p) e = ruled_by at f p (ruled (at + length f + 1) p) (is_element f) e

unruled_by : (at n : ℕ) (f : List ℕ) (p : Path) → (element_fault (at + length f + 1) p ≡ Some n → list_all is_element p ≡ false) → (t : Bool) → cond t (element_fault (at + length f + 1) p) (Some at) ≡ Some n → (t && list_all is_element p) ≡ false
unruled_by at n f p ih true e = ih e
unruled_by at n f p ih false e = refl

unruled : (at n : ℕ) (p : Path) → element_fault at p ≡ Some n → list_all is_element p ≡ false
unruled at n [] e = absurd (cc)
unruled at n (f ∷ p) e = unruled_by at n f p (unruled (at + length f + 1) n p) (is_element f) e

kept : (text : List ℕ) → length text ≤ 4096 → list_all is_element (elements text) ≡ true → is_path (elements text) ≡ true
kept text short all = (λ i. lt-ltb 0 (length (elements text)) (some_elements text) i && all i && fits i)
  where
    fits : nat_le (length (text_of (elements text))) 4096 ≡ true
    fits = ap (λ t. nat_le (length t) 4096) (text_of-elements text) ∙ le-leb (length text) 4096 short

fault_by : (text : List ℕ) (b : Bool) → nat_lt 4096 (length text) ≡ b → cond b (Some 4096) (element_fault 0 (elements text)) ≡ None → is_path (elements text) ≡ true
fault_by text true long e = absurd (cc)
fault_by text false short e = kept text (ltb-false 4096 (length text) short) (ruled 0 (elements text) e)

pub path_without_fault : (text : List ℕ) → path_fault text ≡ None → is_path (elements text) ≡ true
path_without_fault text e = fault_by text (nat_lt 4096 (length text)) refl e

too_long : (text : List ℕ) → 4096 < length text → is_path (elements text) ≡ false
too_long text long = ap (λ b. nat_lt 0 (length (elements text)) && list_all is_element (elements text) && b) over ∙ and_false (nat_lt 0 (length (elements text)) && list_all is_element (elements text))
  where
    test : (b : Bool) → nat_le (length text) 4096 ≡ b → b ≡ false
    test true e = absurd (let h = leb-true (length text) 4096 e in omega arith)
    test false e = refl

    over : nat_le (length (text_of (elements text))) 4096 ≡ false
    over = ap (λ t. nat_le (length t) 4096) (text_of-elements text) ∙ test (nat_le (length text) 4096) refl

no_path_by : (text : List ℕ) (at : ℕ) (b : Bool) → nat_lt 4096 (length text) ≡ b → cond b (Some 4096) (element_fault 0 (elements text)) ≡ Some at → is_path (elements text) ≡ false
no_path_by text at true long e = too_long text (ltb-true 4096 (length text) long)
no_path_by text at false short e =
    ap (λ b. nat_lt 0 (length (elements text)) && b && nat_le (length (text_of (elements text))) 4096) (unruled 0 at (elements text) e)
    ∙ ap (λ b. b && nat_le (length (text_of (elements text))) 4096) (and_false (nat_lt 0 (length (elements text))))

pub no_path_with_fault : (text : List ℕ) (at : ℕ) → path_fault text ≡ Some at → is_path (elements text) ≡ false
no_path_with_fault text at e = no_path_by text at (nat_lt 4096 (length text)) refl e

-- ---- from a place on

pub fault_of_more : (at : ℕ) (e : List ℕ) (p : Path) → is_element e ≡ true → element_fault at (e ∷ p) ≡ element_fault (at + length e + 1) p
fault_of_more at e p h = ap (λ b. cond b (element_fault (at + length e + 1) p) (Some at)) h

pub fault_here : (at : ℕ) (e : List ℕ) (p : Path) → is_element e ≡ false → element_fault at (e ∷ p) ≡ Some at
fault_here at e p h = ap (λ b. cond b (element_fault (at + length e + 1) p) (Some at)) h

-- ---- from a place of a text on, where n bytes stand before the next slash

pub fault_at_front : (text : List ℕ) (at n : ℕ) → position (λ b. b == 0x2F) text ≡ Some n → is_element (take n text) ≡ false → element_fault at (elements text) ≡ Some at
fault_at_front text at n e h = ap (element_fault at) (elements-first text n e) ∙ fault_here at (take n text) (elements (drop (n + 1) text)) h

pub fault_after_front : (text : List ℕ) (at n : ℕ) → position (λ b. b == 0x2F) text ≡ Some n → n < length text → is_element (take n text) ≡ true → element_fault at (elements text) ≡ element_fault (at + (n + 1)) (elements (drop (n + 1) text))
fault_after_front text at n e less h =
    ap (element_fault at) (elements-first text n e) ∙ fault_of_more at (take n text) (elements (drop (n + 1) text)) h
    ∙ ap (λ k. element_fault k (elements (drop (n + 1) text))) (ap (λ k. at + k + 1) (len ∙ short) ∙ add_assoc at n 1)
  where
    len : length (take n text) ≡ min n (length text)
    len = length-take n text

    short : min n (length text) ≡ n
    short = omega arith

pub no_fault_of_only : (text : List ℕ) (at : ℕ) → position (λ b. b == 0x2F) text ≡ None → is_element text ≡ true → element_fault at (elements text) ≡ None
no_fault_of_only text at e h = ap (element_fault at) (elements-only text e) ∙ fault_of_more at text [] h

pub fault_of_only : (text : List ℕ) (at : ℕ) → position (λ b. b == 0x2F) text ≡ None → is_element text ≡ false → element_fault at (elements text) ≡ Some at
fault_of_only text at e h = ap (element_fault at) (elements-only text e) ∙ fault_here at text [] h

pub take_rest : (text : List ℕ) (i : ℕ) → take (length text - i) (drop i text) ≡ drop i text
take_rest text i = take_all (length text - i) (drop i text) (let len = length-drop i text in omega arith)

-- ---- in UTF-8

element_is_text : (e : List ℕ) → is_element e ≡ true → is_utf8 e ≡ true
element_is_text e h =
    first_of_two (is_utf8 e) _ (second_of_two (nat_lt 0 (length e) && nat_le (length e) 255) (is_line e) (first_of_two _ (list_all (λ b. not (b == 0x2F)) e) (first_of_two _ (not (bytes_eq e (0x2E ∷ []))) (first_of_two _ (not (bytes_eq e (0x2E ∷ 0x2E ∷ []))) h))))

slash_test : is_utf8 (0x2F ∷ []) ≡ true
unfolding is_utf8 chars lib.Utf8.encode
slash_test = refl

slash_is_text : IsUtf8 (0x2F ∷ [])
slash_is_text = IsUtf8-from_is_utf8 (0x2F ∷ []) slash_test

elements_are_text : (e : List ℕ) (p : Path) → list_all is_element (e ∷ p) ≡ true → IsUtf8 (text_of (e ∷ p))
elements_are_text e [] h = IsUtf8-from_is_utf8 e (element_is_text e (first_of_two (is_element e) true h))
elements_are_text e (f ∷ p) h =
    IsUtf8-append e (0x2F ∷ text_of (f ∷ p)) (IsUtf8-from_is_utf8 e (element_is_text e (first_of_two (is_element e) _ h))) (IsUtf8-append (0x2F ∷ []) (text_of (f ∷ p)) slash_is_text (elements_are_text f p (second_of_two (is_element e) _ h)))

elements_text : (p : Path) → (0 < length p) → list_all is_element p ≡ true → IsUtf8 (text_of p)
elements_text [] some h = absurd (omega arith)
elements_text (e ∷ p) some h = elements_are_text e p h

-- a path's text is UTF-8
pub path_is_text : (text : List ℕ) → is_path (elements text) ≡ true → IsUtf8 text
path_is_text text h = subst IsUtf8 (text_of-elements text) (elements_text (elements text) (some_elements text) (second_of_two (nat_lt 0 (length (elements text))) (list_all is_element (elements text)) (first_of_two _ (nat_le (length (text_of (elements text))) 4096) h)))

pub path_is_short : (p : Path) → is_path p ≡ true → length (text_of p) ≤ 4096
path_is_short p h = leb-true (length (text_of p)) 4096 (second_of_two _ (nat_le (length (text_of p)) 4096) h)
