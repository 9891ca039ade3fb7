-- What follows from the rule of a name, and bytes that are no name.
use Rattle.std.proofs.Common.{◌≡◌, ℕ, suc, ◌<◌, ◌≤◌, Bool, true, false, cond, List, [], ◌∷◌, ◌++◌, length, take, get_or, Option, Some, None, refl, sym, subst, ap, ◌∙◌, arith}
use Rattle.std.specs.Prelude.{nat_lt, ◌==◌, not, if◌then◌else◌, position, is_none, bytes_eq, codes}
use Rattle.std.specs.List.{position_or_len, onto_first}
use Rattle.std.specs.Option.{option_or}
use Rattle.std.specs.Str.{IsUtf8, is_utf8, chars}
use Rattle.std.proofs.lemmas.Bool.{ltb-false, ne_eqb}
use Rattle.std.proofs.lemmas.Bool.Decides.{nat_tests}
use Rattle.std.proofs.lemmas.List.{take_all}
use Rattle.std.proofs.lemmas.List.Sums.{prefix_len_passes}
use Rattle.std.proofs.lemmas.Str.{IsUtf8-from_ascii, IsUtf8-append, IsUtf8-from_is_utf8}
use Rattle.std.proofs.lemmas.Str.Ascii.{IsAscii-from_reads}
use Rattle.history_model.specs.Bookmark.{is_name_byte, is_name, name_fault}
use Rattle.changeset_model.specs.Path.{Path, elements}
use Rattle.policy_model.specs.Rules.{bookmark_place}
use Rattle.policy_model.specs.Grammar.{name_of}

abbrev bad_byte : ℕ → Bool
bad_byte b = not (is_name_byte b)

-- ---- its length

short_by : (bad : Option ℕ) (n : ℕ) (long empty : Bool) → nat_lt 128 n ≡ long → is_none (option_or bad (if long then Some 128 else if empty then Some 0 else None)) ≡ true → n ≤ 128
short_by (Some at) n long empty e h = absurd (cc)
short_by None n true empty e h = absurd (cc)
short_by None n false empty e h = ltb-false 128 n e

pub name_is_short : (text : List ℕ) → is_name text ≡ true → length text ≤ 128
name_is_short text h = short_by (position bad_byte (take 128 text)) (length text) (nat_lt 128 (length text)) (length text == 0) refl h

-- ---- its bytes

none_first : (bad rest : Option ℕ) → is_none (option_or bad rest) ≡ true → bad ≡ None
none_first (Some at) rest h = absurd (cc)
none_first None rest h = refl

not_found : (b : Bool) (at : ℕ) → cond b (Some at) None ≡ None → b ≡ false
not_found true at h = absurd (cc)
not_found false at h = refl

all_pass : (text : List ℕ) → position bad_byte text ≡ None → length text ≤ position_or_len bad_byte text
all_pass text h = ltb-false (position_or_len bad_byte text) (length text) (not_found (nat_lt (position_or_len bad_byte text) (length text)) (position_or_len bad_byte text) h)

no_bad : (text : List ℕ) → is_name text ≡ true → position bad_byte text ≡ None
no_bad text h =
    ap (position bad_byte) (sym (take_all 128 text (name_is_short text h)))
    ∙ none_first (position bad_byte (take 128 text)) (if nat_lt 128 (length text) then Some 128 else if length text == 0 then Some 0 else None) h

not_bad : (b : Bool) → not (not b) ≡ true → b ≡ true
not_bad true h = refl
not_bad false h = h

low : (b : ℕ) → is_name_byte b ≡ true → b < 128
low b h = grind (arith, nat_tests)

pub name_is_text : (text : List ℕ) → is_name text ≡ true → IsUtf8 text
name_is_text text h =
    let all = all_pass text (no_bad text h) in
    IsUtf8-from_ascii text (IsAscii-from_reads text (length text) (omega arith) (λ k less.
    low (get_or text k 0) (not_bad (is_name_byte (get_or text k 0)) (prefix_len_passes (λ b. not (bad_byte b)) text k 0 (omega arith)))))

-- ---- no name

is_false : (b : Bool) → (b ≡ true → ⊥) → b ≡ false
is_false true h = absurd (h refl)
is_false false h = refl

no_name : (word : List ℕ) → bytes_eq word (0x2A ∷ []) ≡ false → is_name word ≡ false → None ≡ name_of word
no_name word other none = (λ i. cond (sym other i) (Some None) (cond (sym none i) (Some (Some word)) None))

pub no_text_no_name : (word : List ℕ) → bytes_eq word (0x2A ∷ []) ≡ false → (IsUtf8 word → ⊥) → None ≡ name_of word
no_text_no_name word other h = no_name word other (is_false (is_name word) (λ name. h (name_is_text word name)))

pub fault_no_name : (word : List ℕ) (at : ℕ) → bytes_eq word (0x2A ∷ []) ≡ false → name_fault word ≡ Some at → None ≡ name_of word
fault_no_name word at other h = no_name word other (ap is_none h)

-- ---- one element

no_slash : (b : ℕ) → is_name_byte b ≡ true → b ≡ 0x2F → ⊥
no_slash b h e = absurd (let no : is_name_byte 0x2F ≡ true = ap is_name_byte (sym e) ∙ h in cc)

one_element : (text : List ℕ) → ((k : ℕ) → k < length text → get_or text k 0 ≡ 0x2F → ⊥) → elements text ≡ text ∷ []
one_element [] h = refl
one_element (b ∷ text) h =
    (λ i. cond (ne_eqb b 0x2F (h 0 (omega arith)) i) ([] ∷ elements text) (onto_first b (elements text)))
    ∙ ap (onto_first b) (one_element text (λ k less. h (suc k) (omega arith)))

-- a name has no slash
pub name_elements : (text : List ℕ) → is_name text ≡ true → elements text ≡ text ∷ []
name_elements text h =
    let all = all_pass text (no_bad text h) in
    one_element text (λ k less. no_slash (get_or text k 0) (not_bad (is_name_byte (get_or text k 0)) (prefix_len_passes (λ b. not (bad_byte b)) text k 0 (omega arith))))

pub bookmark_elements : (text name : List ℕ) → text ≡ codes ".bookmarks/" ++ name → is_name name ≡ true → elements text ≡ bookmark_place name
bookmark_elements text name is h = ap elements is ∙ ap (λ (p : Path). codes ".bookmarks" ∷ p) (name_elements name h)

front_is_text : is_utf8 (codes ".bookmarks/") ≡ true
unfolding is_utf8 chars lib.Utf8.encode
front_is_text = refl

pub bookmark_is_text : (text name : List ℕ) → text ≡ codes ".bookmarks/" ++ name → is_name name ≡ true → IsUtf8 text
bookmark_is_text text name is h = subst IsUtf8 (sym is) (IsUtf8-append (codes ".bookmarks/") name (IsUtf8-from_is_utf8 (codes ".bookmarks/") front_is_text) (name_is_text name h))
