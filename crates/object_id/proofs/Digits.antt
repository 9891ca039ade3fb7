-- Texts of hex digits.
use Rattle.std.proofs.Common.{◌≡◌, ℕ, ◌+◌, ◌≤◌, ltb-false, Bool, true, false, cond, not, ◌||◌, List, [], ◌∷◌, length, take, refl, sym, ap, ◌∙◌, arith}
use Rattle.std.specs.Prelude.{Option, None, Some, is_some, position, IsOk, ◌==◌, ◌&&◌, min, nat_lt}
use Rattle.std.specs.List.{list_all, prefix_len}
use Rattle.std.specs.Int.{is_in_range}
use Rattle.std.specs.Char.{is_ascii_hexdigit}
use Rattle.std.specs.Option.{option_or}
use Rattle.std.proofs.lemmas.List.{take_all, take_min}
use Rattle.std.proofs.lemmas.List.Sums.{AllPass-from_list_all}
use Rattle.std.proofs.lemmas.Bool.{eqb-true}
use Rattle.hex.specs.Hex.{is_hex_digit, decode_sized}
use Rattle.hex.proofs.HexLemmas.{IsOk-decode_sized}
use Rattle.object_id.specs.Hex.{hex_fault}

in_either_order : (a b d : Bool) (x y z : ℕ) → ((a || b) || d) ≡ is_some (cond b (Some x) (cond d (Some y) (cond a (Some z) None)))
in_either_order true true true x y z = refl
in_either_order true true false x y z = refl
in_either_order true false true x y z = refl
in_either_order true false false x y z = refl
in_either_order false true true x y z = refl
in_either_order false true false x y z = refl
in_either_order false false true x y z = refl
in_either_order false false false x y z = refl

-- the two libraries mean the same by a hex digit
same_digits : (c : ℕ) → is_ascii_hexdigit c ≡ is_hex_digit c
same_digits c = in_either_order (is_in_range 48 57 c) (is_in_range 65 70 c) (is_in_range 97 102 c) _ _ _

not_twice : (b : Bool) → not (not b) ≡ b
not_twice true = refl
not_twice false = refl

go_on : (p : ℕ → Bool) (x : ℕ) (xs : List ℕ) → (length xs ≤ prefix_len p xs → list_all p xs ≡ true) → (b : Bool) → p x ≡ b → length (x ∷ xs) ≤ cond b (1 + prefix_len p xs) 0 → (p x && list_all p xs) ≡ true
go_on p x xs rest true e h = (λ i. e i && rest (omega arith) i)
go_on p x xs rest false e h = absurd (omega arith)

all_by_prefix : (p : ℕ → Bool) (xs : List ℕ) → length xs ≤ prefix_len p xs → list_all p xs ≡ true
all_by_prefix p [] h = refl
all_by_prefix p (x ∷ xs) h = go_on p x xs (all_by_prefix p xs) (p x) refl h

all_same : (p q : ℕ → Bool) → ((x : ℕ) → p x ≡ q x) → (xs : List ℕ) → list_all p xs ≡ list_all q xs
all_same p q same [] = refl
all_same p q same (x ∷ xs) = (λ i. same x i && all_same p q same xs i)

-- where no byte is found that is no digit, each is one
none_found : (xs : List ℕ) → position (λ c. not (is_ascii_hexdigit c)) xs ≡ None → list_all is_hex_digit xs ≡ true
none_found xs none = by (nat_lt len (length xs)) refl none
  where
    len : ℕ
    len = prefix_len (λ c. not (not (is_ascii_hexdigit c))) xs

    by : (b : Bool) → nat_lt len (length xs) ≡ b → ◌≡◌ {A = Option ℕ} (cond b (Some len) None) None → list_all is_hex_digit xs ≡ true
    by true e none = absurd cc
    by false e none =
        let all = all_by_prefix (λ c. not (not (is_ascii_hexdigit c))) xs (ltb-false len (length xs) e) in
        sym (all_same (λ c. not (not (is_ascii_hexdigit c))) is_hex_digit (λ c. not_twice (is_ascii_hexdigit c) ∙ same_digits c) xs) ∙ all

-- the places of faults, whichever way the first 64 bytes are cut off
pub hex_fault_within : (text : List ℕ) (n : ℕ) → n ≡ min (length text) 64 → hex_fault text ≡ option_or (position (λ c. not (is_ascii_hexdigit c)) (take n text)) (cond (length text == 64) None (Some n))
hex_fault_within text n e =
    let turned : n ≡ min 64 (length text) = omega arith in
    let same : take n text ≡ take 64 text = ap (λ k. take k text) turned ∙ take_min 64 text in
    (λ i. option_or (position (λ c. not (is_ascii_hexdigit c)) (sym same i)) (cond (length text == 64) None (Some (sym e i))))

neither : (o : Option ℕ) (b : Bool) (n : ℕ) → option_or o (cond b None (Some n)) ≡ None → (o ≡ None) × (b ≡ true)
neither None true n e = (refl, refl)
neither None false n e = absurd cc
neither (Some x) b n e = absurd cc

-- a text without a fault is read
pub no_fault : (text : List ℕ) → hex_fault text ≡ None → IsOk (decode_sized text 32)
no_fault text none =
    let parts = neither (position (λ c. not (is_ascii_hexdigit c)) (take 64 text)) (length text == 64) (min (length text) 64) none in
    let len : length text ≡ 64 = eqb-true (length text) 64 parts.1 in
    let whole : take 64 text ≡ text = take_all 64 text (omega arith) in
    let digits : list_all is_hex_digit text ≡ true = none_found text (ap (position (λ c. not (is_ascii_hexdigit c))) (sym whole) ∙ parts.0) in
    (IsOk-decode_sized text 32).1 (omega arith, AllPass-from_list_all is_hex_digit text digits)
