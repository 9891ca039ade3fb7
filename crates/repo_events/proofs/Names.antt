-- What follows from the rule of a bookmark's name.
use Rattle.std.proofs.Common.{◌≡◌, ℕ, ◌<◌, ◌≤◌, ◌%◌, Bool, true, false, cond, List, length, take, get_or, Option, Some, None, refl, sym, ap, ◌∙◌, arith}
use Rattle.std.specs.Prelude.{nat_lt, ◌==◌, not, if◌then◌else◌, position, is_none}
use Rattle.std.specs.List.{position_or_len}
use Rattle.std.specs.Option.{option_or}
use Rattle.std.specs.Str.{IsUtf8}
use Rattle.std.proofs.lemmas.Bool.{ltb-false}
use Rattle.std.proofs.lemmas.Bool.Decides.{nat_tests}
use Rattle.std.proofs.lemmas.List.{take_all}
use Rattle.std.proofs.lemmas.List.Sums.{prefix_len_passes}
use Rattle.std.proofs.lemmas.Str.{IsUtf8-from_ascii}
use Rattle.std.proofs.lemmas.Str.Ascii.{IsAscii-from_reads}
use Rattle.byte_fields.specs.Reading.{keeping}
use Rattle.history_model.specs.Bookmark.{is_name_byte, is_name, name_fault}

abbrev bad_byte : ℕ → Bool
bad_byte b = not (is_name_byte b)

-- ---- its length

short_by : (bad : Option ℕ) (n : ℕ) (long empty : Bool) → nat_lt 128 n ≡ long → is_none (option_or bad (if long then Some 128 else if empty then Some 0 else None)) ≡ true → n ≤ 128
short_by (Some at) n long empty e h = absurd (cc)
short_by None n true empty e h = absurd (cc)
short_by None n false empty e h = ltb-false 128 n e

name_is_short : (text : List ℕ) → is_name text ≡ true → length text ≤ 128
name_is_short text h = short_by (position bad_byte (take 128 text)) (length text) (nat_lt 128 (length text)) (length text == 0) refl h

pub name_length_fits : (text : List ℕ) → is_name text ≡ true → length text % 256 ≡ length text
name_length_fits text h = let short = name_is_short text h in omega arith

-- ---- its bytes

none_first : (bad rest : Option ℕ) → is_none (option_or bad rest) ≡ true → bad ≡ None
none_first (Some at) rest h = absurd (cc)
none_first None rest h = refl

not_found : (b : Bool) (at : ℕ) → cond b (Some at) None ≡ None → b ≡ false
not_found true at h = absurd (cc)
not_found false at h = refl

all_pass : (text : List ℕ) → position bad_byte text ≡ None → length text ≤ position_or_len bad_byte text
all_pass text h = ltb-false (position_or_len bad_byte text) (length text) (not_found (nat_lt (position_or_len bad_byte text) (length text)) (position_or_len bad_byte text) h)

no_bad : (text : List ℕ) → is_name text ≡ true → position bad_byte text ≡ None
no_bad text h =
    ap (position bad_byte) (sym (take_all 128 text (name_is_short text h)))
    ∙ none_first (position bad_byte (take 128 text)) (if nat_lt 128 (length text) then Some 128 else if length text == 0 then Some 0 else None) h

not_bad : (b : Bool) → not (not b) ≡ true → b ≡ true
not_bad true h = refl
not_bad false h = h

low : (b : ℕ) → is_name_byte b ≡ true → b < 128
low b h = grind (arith, nat_tests)

name_is_text : (text : List ℕ) → is_name text ≡ true → IsUtf8 text
name_is_text text h =
    let all = all_pass text (no_bad text h) in
    IsUtf8-from_ascii text (IsAscii-from_reads text (length text) (omega arith) (λ k less.
    low (get_or text k 0) (not_bad (is_name_byte (get_or text k 0)) (prefix_len_passes (λ b. not (bad_byte b)) text k 0 (omega arith)))))

-- ---- no name

not_kept : (b : Bool) (text : List ℕ) → (b ≡ true → ⊥) → None ≡ cond b (Some text) None
not_kept true text h = absurd (h refl)
not_kept false text h = refl

pub no_text_no_name : (text : List ℕ) → (IsUtf8 text → ⊥) → None ≡ keeping is_name text
no_text_no_name text h = not_kept (is_name text) text (λ name. h (name_is_text text name))

pub fault_no_name : (text : List ℕ) (at : ℕ) → name_fault text ≡ Some at → None ≡ keeping is_name text
fault_no_name text at h = ap (λ fault. cond (is_none fault) (Some text) None) (sym h)
