-- Texts of a head: blanks at their ends, decimal digits, the path of a target.
use Rattle.std.proofs.Common.{◌≡◌, ◌≢◌, ℕ, zero, suc, ◌+◌, ◌-◌, ◌*◌, ◌<◌, ◌≤◌, min, Bool, true, false, refl, List, [], ◌∷◌, ◌++◌, length, get_or, take, drop, reverse, sym, ap, ◌∙◌, arith}
use Rattle.std.specs.Prelude.{◌==◌, not}
use Rattle.std.specs.List.{list_all}
use Rattle.std.specs.Char.{is_ascii_digit, digit_value}
use Rattle.std.specs.Str.Parse.{digits_value}
use Rattle.std.proofs.lemmas.Bool.{eq-eqb, ne_eqb, cond-true, cond-false}
use Rattle.std.proofs.Math.Seq.{take-length}
use Rattle.std.proofs.lemmas.List.{take_more, reverse-append}
use Rattle.std.proofs.lemmas.List.Folds.{list_all-append}
use Rattle.std.proofs.lemmas.List.Sums.{take_while-cons}
use Rattle.std.proofs.lemmas.Int.Digits.{digits_value_push}
use Rattle.std.proofs.lemmas.Str.{digit_value_digit}
use Rattle.httparse.specs.Grammar.{is_ows, skip_ows}
use Rattle.http_model.specs.Head.{path_of}

-- ---- blanks

pub skip_ows_first : (bytes : List ℕ) → 0 < length bytes → is_ows (get_or bytes 0 0) ≡ true → skip_ows (drop 1 bytes) ≡ skip_ows bytes
skip_ows_first [] some blank = absurd (omega arith)
skip_ows_first (b ∷ bytes) some blank = sym (cond-true _ _ _ blank)

pub skip_ows_none : (bytes : List ℕ) → is_ows (get_or bytes 0 0) ≡ false → skip_ows bytes ≡ bytes
skip_ows_none [] other = refl
skip_ows_none (b ∷ bytes) other = cond-false _ _ _ other

pub last_and_front : (bytes : List ℕ) → 0 < length bytes → reverse bytes ≡ get_or bytes (length bytes - 1) 0 ∷ reverse (take (length bytes - 1) bytes)
last_and_front bytes some =
    let n = length bytes - 1 in
    let inside : n < length bytes = omega arith in
    let all : n + 1 ≡ length bytes = omega arith in
    let split : take (n + 1) bytes ≡ take n bytes ++ get_or bytes n 0 ∷ [] = take_more bytes n 0 inside in
    let whole : bytes ≡ take n bytes ++ get_or bytes n 0 ∷ [] = sym (take-length bytes) ∙ ap (λ k. take k bytes) (sym all) ∙ split in
    ap reverse whole ∙ reverse-append (take n bytes) (get_or bytes n 0 ∷ [])

-- ---- decimal digits

-- one more digit of a text
pub digits_more : (text : List ℕ) (i : ℕ) → i < length text → digits_value 10 (take (i + 1) text) ≡ digits_value 10 (take i text) * 10 + digit_value (get_or text i 0)
digits_more text i inside = ap (digits_value 10) (take_more text i 0 inside) ∙ digits_value_push 10 (take i text) (get_or text i 0)

pub all_digits_more : (text : List ℕ) (i : ℕ) → i < length text → list_all is_ascii_digit (take i text) ≡ true → is_ascii_digit (get_or text i 0) ≡ true → list_all is_ascii_digit (take (i + 1) text) ≡ true
all_digits_more text i inside before digit =
    ap (list_all is_ascii_digit) (take_more text i 0 inside) ∙ list_all-append is_ascii_digit (take i text) (get_or text i 0 ∷ []) ∙ rw (before, digit) refl

pub capped : (v d c : ℕ) → 0 < c → min (min v c * 10 + d) c ≡ min (v * 10 + d) c
capped v d c some = omega arith

pub decimal_step : (text : List ℕ) (i value more cap : ℕ) → i < length text → 0 < cap → 48 ≤ get_or text i 0 → get_or text i 0 ≤ 57
    → value ≡ min (digits_value 10 (take i text)) cap → more ≡ min (value * 10 + (get_or text i 0 - 48)) cap → more ≡ min (digits_value 10 (take (i + 1) text)) cap
decimal_step text i value more cap inside some low high before step =
    let digit = get_or text i 0 in
    let read : digit_value digit + 48 ≡ digit = digit_value_digit digit (low, high) in
    let is : digit - 48 ≡ digit_value digit = omega arith in
    let all = digits_more text i inside in
    step ∙ ap (λ v. min (v * 10 + (digit - 48)) cap) before ∙ capped (digits_value 10 (take i text)) (digit - 48) cap some
    ∙ ap (λ d. min (digits_value 10 (take i text) * 10 + d) cap) is ∙ ap (λ n. min n cap) (sym all)

-- ---- the path

abbrev is_no_mark : ℕ → Bool
is_no_mark b = not (b == 63)

before_mark : (b : ℕ) (bytes : List ℕ) → b ≡ 63 → path_of (b ∷ bytes) ≡ []
before_mark b bytes mark = take_while-cons is_no_mark b bytes ∙ cond-false _ (b ∷ path_of bytes) [] (ap not (eq-eqb b 63 mark))

not_at_mark : (b : ℕ) (bytes : List ℕ) → b ≢ 63 → path_of (b ∷ bytes) ≡ b ∷ path_of bytes
not_at_mark b bytes other = take_while-cons is_no_mark b bytes ∙ cond-true _ (b ∷ path_of bytes) [] (ap not (ne_eqb b 63 other))

pub path_at : (bytes : List ℕ) (i : ℕ) → i < length bytes → get_or bytes i 0 ≡ 63 → ((k : ℕ) → k < i → get_or bytes k 0 ≢ 63) → take i bytes ≡ path_of bytes
path_at [] i inside mark first = absurd (omega arith)
path_at (b ∷ bytes) zero inside mark first = sym (before_mark b bytes mark)
path_at (b ∷ bytes) (suc i) inside mark first =
    let later = path_at bytes i (omega arith) mark (λ k below. first (suc k) (omega arith)) in
    ap (λ bs. b ∷ bs) later ∙ sym (not_at_mark b bytes (first 0 (omega arith)))

pub path_whole : (bytes : List ℕ) → ((k : ℕ) → k < length bytes → get_or bytes k 0 ≢ 63) → bytes ≡ path_of bytes
path_whole [] none = refl
path_whole (b ∷ bytes) none =
    let later = path_whole bytes (λ k below. none (suc k) (omega arith)) in
    ap (λ bs. b ∷ bs) later ∙ sym (not_at_mark b bytes (none 0 (omega arith)))
