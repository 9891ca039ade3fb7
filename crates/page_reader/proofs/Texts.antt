-- The text of a page is UTF-8.
use Rattle.std.proofs.Common.{◌≡◌, ℕ, zero, suc, ◌+◌, ◌<◌, ◌≤◌, ◌^◌, Bool, true, false, cond, List, [], ◌∷◌, ◌++◌, length, take, get_or, map, Option, Some, None, refl, inl, inr, sym, subst, ap, ◌∙◌, arith, codes, decimal}
use Rattle.std.specs.Prelude.{nat_lt, ◌==◌, not, if◌then◌else◌, position, is_none, ⊤, IfSome}
use Rattle.std.specs.List.{position_or_len, AllByRecursion}
use Rattle.std.specs.Option.{option_or}
use Rattle.std.specs.Str.{IsUtf8}
use Rattle.std.proofs.lemmas.Bool.{ltb-false, ltb-true, agree_below_at}
use Rattle.std.proofs.lemmas.Bool.Decides.{nat_tests}
use Rattle.std.proofs.lemmas.List.{take_all}
use Rattle.std.proofs.lemmas.List.Sums.{prefix_len_passes}
use Rattle.std.proofs.lemmas.Fmt.{IsAscii-decimal}
use Rattle.std.proofs.lemmas.Str.{IsUtf8-from_ascii, IsUtf8-append, IsUtf8-nil}
use Rattle.std.proofs.lemmas.Str.Ascii.{IsAscii-from_reads}
use Rattle.json.proofs.Printed.Utf8.{are_ascii, IsUtf8-are_ascii, IsUtf8-quoted, IsUtf8-boolean}
use Rattle.hex.specs.Hex.{encode_lower, lower_digits}
use Rattle.hex.proofs.HexLemmas.{IsAscii-encode_with}
use Rattle.serde_json.specs.Data.{Num, unsigned, negative, float, Data, null, boolean, number, string, array, object, Items, no_items, item, Members, no_members, member}
use Rattle.serde_json.specs.View.{items_of}
use Rattle.serde_json.specs.Written.{compact_text, items_text, members_text, comma_if}
use Rattle.byte_fields.specs.Bytes.{Id}
use Rattle.history_model.specs.Bookmark.{is_name_byte, is_name}
use Rattle.reply_model.specs.Log.{LogLine, ContentLine, WholeLine, ChangesetLine, BookmarkLine, LandingLine, PolicyLine}
use Rattle.repo_text.specs.Spelling.{id_data, maybe_id_data}
use Rattle.page_reader.specs.Pages.{IsTold, Counts, IsPage}
use Rattle.page_reader.specs.Values.{bookmark_data, landing_data, line_data, lines_data, page_data}
use Rattle.page_reader.proofs.Lines.{page_is_spelled}

-- ---- names

abbrev bad_byte : ℕ → Bool
bad_byte b = not (is_name_byte b)

-- ---- its length

short_by : (bad : Option ℕ) (n : ℕ) (long empty : Bool) → nat_lt 128 n ≡ long → is_none (option_or bad (if long then Some 128 else if empty then Some 0 else None)) ≡ true → n ≤ 128
short_by (Some at) n long empty e h = absurd (cc)
short_by None n true empty e h = absurd (cc)
short_by None n false empty e h = ltb-false 128 n e

name_is_short : (text : List ℕ) → is_name text ≡ true → length text ≤ 128
name_is_short text h = short_by (position bad_byte (take 128 text)) (length text) (nat_lt 128 (length text)) (length text == 0) refl h

-- ---- its bytes

none_first : (bad rest : Option ℕ) → is_none (option_or bad rest) ≡ true → bad ≡ None
none_first (Some at) rest h = absurd (cc)
none_first None rest h = refl

not_found : (b : Bool) (at : ℕ) → cond b (Some at) None ≡ None → b ≡ false
not_found true at h = absurd (cc)
not_found false at h = refl

all_pass : (text : List ℕ) → position bad_byte text ≡ None → length text ≤ position_or_len bad_byte text
all_pass text h = ltb-false (position_or_len bad_byte text) (length text) (not_found (nat_lt (position_or_len bad_byte text) (length text)) (position_or_len bad_byte text) h)

no_bad : (text : List ℕ) → is_name text ≡ true → position bad_byte text ≡ None
no_bad text h =
    ap (position bad_byte) (sym (take_all 128 text (name_is_short text h)))
    ∙ none_first (position bad_byte (take 128 text)) (if nat_lt 128 (length text) then Some 128 else if length text == 0 then Some 0 else None) h

not_bad : (b : Bool) → not (not b) ≡ true → b ≡ true
not_bad true h = refl
not_bad false h = h

low : (b : ℕ) → is_name_byte b ≡ true → b < 128
low b h = grind (arith, nat_tests)

pub name_is_text : (text : List ℕ) → is_name text ≡ true → IsUtf8 text
name_is_text text h =
    let all = all_pass text (no_bad text h) in
    IsUtf8-from_ascii text (IsAscii-from_reads text (length text) (omega arith) (λ k less.
    low (get_or text k 0) (not_bad (is_name_byte (get_or text k 0)) (prefix_len_passes (λ b. not (bad_byte b)) text k 0 (omega arith)))))

-- ---- values without floats whose texts are UTF-8

abbrev IsSmall : Num → Type 0
IsSmall (unsigned n) = n < 2 ^ 64
IsSmall (negative z) = ⊥
IsSmall (float x) = ⊥

abbrev mutual
  HasTexts : Data → Type 0
  HasTexts null = ⊤
  HasTexts (boolean b) = ⊤
  HasTexts (number n) = IsSmall n
  HasTexts (string s) = IsUtf8 s
  HasTexts (array ds) = ItemsHaveTexts ds
  HasTexts (object ms) = MembersHaveTexts ms

  ItemsHaveTexts : Items → Type 0
  ItemsHaveTexts no_items = ⊤
  ItemsHaveTexts (item d ds) = HasTexts d × ItemsHaveTexts ds

  MembersHaveTexts : Members → Type 0
  MembersHaveTexts no_members = ⊤
  MembersHaveTexts (member k d ms) = IsUtf8 k × HasTexts d × MembersHaveTexts ms

sign : (b : ℕ) → b < 128 → IsUtf8 (b ∷ [])
sign b low = IsUtf8-from_ascii (b ∷ []) (IsAscii-from_reads (b ∷ []) 1 (omega arith) (λ k less. first k less))
  where
    first : (k : ℕ) → k < 1 → get_or (b ∷ []) k 0 < 128
    first zero less = low
    first (suc k) less = omega arith

then_text : (b : ℕ) (text : List ℕ) → b < 128 → IsUtf8 text → IsUtf8 (b ∷ text)
then_text b text low is = IsUtf8-append (b ∷ []) text (sign b low) is

comma_is_text : (later : Bool) → IsUtf8 (comma_if later)
comma_is_text true = IsUtf8-are_ascii (44 ∷ []) refl
comma_is_text false = IsUtf8-nil

number_is_text : (n : Num) → IsSmall n → IsUtf8 (compact_text (number n))
number_is_text (unsigned n) small = IsUtf8-from_ascii (decimal n) (IsAscii-decimal n small)
number_is_text (negative z) small = absurd small
number_is_text (float x) small = absurd small

mutual
  value_is_text : (d : Data) → HasTexts d → IsUtf8 (compact_text d)
  value_is_text null has = IsUtf8-are_ascii (codes "null") refl
  value_is_text (boolean b) has = IsUtf8-boolean b
  value_is_text (number n) has = number_is_text n has
  value_is_text (string s) has = IsUtf8-quoted s has
  value_is_text (array ds) has = then_text 91 (items_text false ds) (omega arith) (items_are_text false ds has)
  value_is_text (object ms) has = then_text 123 (members_text false ms) (omega arith) (members_are_text false ms has)

  items_are_text : (later : Bool) (ds : Items) → ItemsHaveTexts ds → IsUtf8 (items_text later ds)
  items_are_text later no_items has = IsUtf8-are_ascii (93 ∷ []) refl
  items_are_text later (item d ds) has =
      IsUtf8-append (comma_if later) (compact_text d ++ items_text true ds) (comma_is_text later) (IsUtf8-append (compact_text d) (items_text true ds) (value_is_text d has.0) (items_are_text true ds has.1))

  members_are_text : (later : Bool) (ms : Members) → MembersHaveTexts ms → IsUtf8 (members_text later ms)
  members_are_text later no_members has = IsUtf8-are_ascii (125 ∷ []) refl
  members_are_text later (member k d ms) has =
      IsUtf8-append (comma_if later) _ (comma_is_text later)
      (IsUtf8-append _ _ (IsUtf8-quoted k has.0) (then_text 58 (compact_text d ++ members_text true ms) (omega arith) (IsUtf8-append (compact_text d) (members_text true ms) (value_is_text d has.1) (members_are_text true ms has.2))))

-- ---- pages

id_is_text : (x : Id) → IsUtf8 (encode_lower x)
id_is_text x = IsUtf8-from_ascii (encode_lower x) (IsAscii-encode_with lower_digits x (IsAscii-from_reads lower_digits 16 (omega arith) digit))
  where
    digit : (k : ℕ) → k < 16 → get_or lower_digits k 0 < 128
    digit k less = ltb-true (get_or lower_digits k 0) 128 (agree_below_at (λ j. nat_lt (get_or lower_digits j 0) 128) (λ j. true) 16 k refl less)

maybe_id_is_text : (x : Option Id) → HasTexts (maybe_id_data x)
maybe_id_is_text None = tt
maybe_id_is_text (Some x) = id_is_text x

ids_are_text : (ids : List Id) → ItemsHaveTexts (items_of (map id_data ids))
ids_are_text [] = tt
ids_are_text (x ∷ ids) = (id_is_text x, ids_are_text ids)

ascii : (s : List ℕ) → are_ascii s ≡ true → IsUtf8 s
ascii s is = IsUtf8-are_ascii s is

bookmark_has_texts : (n : ℕ) (caller : Option (List ℕ)) (name : List ℕ) (from to : Option Id) → n < 2 ^ 64 → is_name name ≡ true → IfSome caller (λ c. is_name c ≡ true) → HasTexts (bookmark_data n caller name from to)
bookmark_has_texts n None name from to small named told = (ascii (codes "from") refl, maybe_id_is_text from, (ascii (codes "kind") refl, ascii (codes "bookmark") refl, (ascii (codes "name") refl, name_is_text name named, (ascii (codes "number") refl, small, (ascii (codes "to") refl, maybe_id_is_text to, tt)))))
bookmark_has_texts n (Some caller) name from to small named told = (ascii (codes "caller") refl, name_is_text caller told, (ascii (codes "from") refl, maybe_id_is_text from, (ascii (codes "kind") refl, ascii (codes "bookmark") refl, (ascii (codes "name") refl, name_is_text name named, (ascii (codes "number") refl, small, (ascii (codes "to") refl, maybe_id_is_text to, tt))))))

landing_has_texts : (n : ℕ) (caller : Option (List ℕ)) (name : List ℕ) (old draft : Id) (moment : Option ℕ) (ids : List Id) → n < 2 ^ 64 → is_name name ≡ true → IfSome moment (λ m. m < 2 ^ 64) → IfSome caller (λ c. is_name c ≡ true)
    → HasTexts (landing_data n caller name old draft moment ids)
landing_has_texts n None name old draft None ids small named dated told =
    (ascii (codes "draft") refl, id_is_text draft, (ascii (codes "ids") refl, ids_are_text ids, (ascii (codes "kind") refl, ascii (codes "landing") refl, (ascii (codes "name") refl, name_is_text name named, (ascii (codes "number") refl, small, (ascii (codes "old") refl, id_is_text old, tt))))))
landing_has_texts n None name old draft (Some moment) ids small named dated told =
    (ascii (codes "draft") refl, id_is_text draft, (ascii (codes "ids") refl, ids_are_text ids, (ascii (codes "kind") refl, ascii (codes "landing") refl, (ascii (codes "moment") refl, dated, (ascii (codes "name") refl, name_is_text name named, (ascii (codes "number") refl, small, (ascii (codes "old") refl, id_is_text old, tt)))))))
landing_has_texts n (Some caller) name old draft None ids small named dated told =
    (ascii (codes "caller") refl, name_is_text caller told, (ascii (codes "draft") refl, id_is_text draft, (ascii (codes "ids") refl, ids_are_text ids, (ascii (codes "kind") refl, ascii (codes "landing") refl, (ascii (codes "name") refl, name_is_text name named, (ascii (codes "number") refl, small, (ascii (codes "old") refl, id_is_text old, tt)))))))
landing_has_texts n (Some caller) name old draft (Some moment) ids small named dated told =
    (ascii (codes "caller") refl, name_is_text caller told, (ascii (codes "draft") refl, id_is_text draft, (ascii (codes "ids") refl, ids_are_text ids, (ascii (codes "kind") refl, ascii (codes "landing") refl, (ascii (codes "moment") refl, dated, (ascii (codes "name") refl, name_is_text name named, (ascii (codes "number") refl, small, (ascii (codes "old") refl, id_is_text old, tt))))))))

line_has_texts : (n : ℕ) (line : LogLine) → n < 2 ^ 64 → IsTold line → HasTexts (line_data n line)
line_has_texts n (ContentLine x size) small told =
    ((ascii (codes "id") refl, id_is_text x, (ascii (codes "kind") refl, ascii (codes "content") refl, (ascii (codes "number") refl, small, (ascii (codes "size") refl, told.1, tt)))))
line_has_texts n (WholeLine x size parts) small told =
    ((ascii (codes "id") refl, id_is_text x, (ascii (codes "kind") refl, ascii (codes "whole") refl, (ascii (codes "number") refl, small, (ascii (codes "parts") refl, ids_are_text parts, (ascii (codes "size") refl, told.1, tt))))))
line_has_texts n (ChangesetLine x) small told = (ascii (codes "id") refl, id_is_text x, (ascii (codes "kind") refl, ascii (codes "changeset") refl, (ascii (codes "number") refl, small, tt)))
line_has_texts n (BookmarkLine move) small told = bookmark_has_texts n move.caller move.name move.from move.to small told.0 told.3
line_has_texts n (LandingLine caller name old draft moment ids) small told = landing_has_texts n caller name old draft moment ids small told.0 told.3 told.5
line_has_texts n (PolicyLine caller rules) small told =
    (ascii (codes "caller") refl, name_is_text caller told.0, (ascii (codes "kind") refl, ascii (codes "policy") refl, (ascii (codes "number") refl, small, (ascii (codes "rules") refl, told.1, tt))))

lines_have_texts : (n : ℕ) (lines : List LogLine) → n + length lines < 2 ^ 64 → AllByRecursion IsTold lines → ItemsHaveTexts (items_of (lines_data n lines))
lines_have_texts n [] small told = tt
lines_have_texts n (line ∷ lines) small told = (line_has_texts n line (omega arith) told.0, lines_have_texts (n + 1) lines (omega arith) told.1)

pub page_is_text : (from : ℕ) (text : List ℕ) (lines : List LogLine) (total : ℕ) → from < 2 ^ 64 → IsPage from text lines total → IsUtf8 text
page_is_text from text lines total small page =
    subst IsUtf8 ((page_is_spelled from lines total page.told).text_is ∙ sym page.text_is)
    (value_is_text (page_data from lines total)
    (ascii (codes "code") refl, ascii (codes "log") refl, (ascii (codes "entries") refl, lines_have_texts from lines (fits page.counts) page.told, (ascii (codes "total") refl, page.small, tt))))
  where
    fits : Counts from (length lines) total → from + length lines < 2 ^ 64
    fits (inl some) = let le = some.2 in let t = page.small in omega arith
    fits (inr none) = let zero = none.0 in omega arith
