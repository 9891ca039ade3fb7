-- How long a page's text is at the most.
use Rattle.std.proofs.Common.{◌≡◌, ℕ, ◌+◌, ◌*◌, ◌≤◌, ◌<◌, ◌^◌, List, [], ◌∷◌, ◌++◌, map, length, refl, arith, lit<, lit≤, codes, length-append}
use Rattle.std.specs.Prelude.{◌==◌, decimal, flat_map, Option, None, Some, IfSome, IsTrue}
use Rattle.std.specs.List.{AllByRecursion, concat, join_with_byte}
use Rattle.std.proofs.lemmas.Bool.{and_parts, eqb-true}
use Rattle.std.proofs.lemmas.Fmt.{length-decimal-le}
use Rattle.hex.specs.Hex.{encode_lower, lower_digits}
use Rattle.hex.proofs.HexLemmas.{length-encode_with}
use Rattle.byte_fields.specs.Bytes.{Id, are_bytes}
use Rattle.history_model.specs.Bookmark.{is_name}
use Rattle.reply_model.specs.Log.{LogLine, ContentLine, WholeLine, ChangesetLine, BookmarkLine, LandingLine, PolicyLine}
use Rattle.session_model.specs.Bodies.{Member, member_text, member, object_text, list_text, in_quotes, id_text, maybe_id_text, ids_text, name_text, caller_members, moment_members, line_text, line_texts, log_body}
use Rattle.page_reader.specs.Pages.{IsId}
use Rattle.follower_laws.proofs.Told.{IsToldWell, name_is_short}

-- ---- parts

abbrev lengths : List (List ℕ) → ℕ
lengths [] = 0
lengths (t ∷ ts) = length t + 1 + lengths ts

joined_len : (c : ℕ) (ts : List (List ℕ)) → length (join_with_byte c ts) ≤ lengths ts
joined_len c [] = lit≤ tt
joined_len c (t ∷ []) = omega arith
joined_len c (t ∷ u ∷ ts) =
    let rest = joined_len c (u ∷ ts) in
    let sum = length-append t (c ∷ join_with_byte c (u ∷ ts)) in
    omega arith

abbrev member_lengths : List Member → ℕ
member_lengths [] = 0
member_lengths (m ∷ ms) = length m.0 + length m.1 + 4 + member_lengths ms

three_len : (a b c : List ℕ) → length (concat (a ∷ b ∷ c ∷ [])) ≡ length a + length b + length c
three_len a b c = simp length-append (omega arith)

four_len : (a b c d : List ℕ) → length (concat (a ∷ b ∷ c ∷ d ∷ [])) ≡ length a + length b + length c + length d
four_len a b c d = simp length-append (omega arith)

five_len : (a b c d e : List ℕ) → length (concat (a ∷ b ∷ c ∷ d ∷ e ∷ [])) ≡ length a + length b + length c + length d + length e
five_len a b c d e = simp length-append (omega arith)

members_len : (ms : List Member) → lengths (map member_text ms) ≡ member_lengths ms
members_len [] = refl
members_len (m ∷ ms) =
    let one = four_len (codes "\"") m.0 (codes "\":") m.1 in
    let rest = members_len ms in
    omega arith

object_len : (ms : List Member) → length (object_text ms) ≤ 2 + member_lengths ms
object_len ms =
    let sum = three_len (codes "{") (join_with_byte 0x2C (map member_text ms)) (codes "}") in
    let rest = joined_len 0x2C (map member_text ms) in
    let all = members_len ms in
    omega arith

list_len : (ts : List (List ℕ)) → length (list_text ts) ≤ 2 + lengths ts
list_len ts =
    let sum = three_len (codes "[") (join_with_byte 0x2C ts) (codes "]") in
    let rest = joined_len 0x2C ts in
    omega arith

quotes_len : (t : List ℕ) → length (in_quotes t) ≡ 2 + length t
quotes_len t = let sum = three_len (codes "\"") t (codes "\"") in omega arith

id_len : (x : Id) → IsId x → length (id_text x) ≤ 66
id_len x is =
    let len : length x ≡ 32 = eqb-true (length x) 32 (and_parts (length x == 32) (are_bytes x) is).0 in
    let hex = length-encode_with lower_digits x in
    let quotes = quotes_len (encode_lower x) in
    omega arith

maybe_id_len : (x : Option Id) → IfSome x IsId → length (maybe_id_text x) ≤ 66
maybe_id_len None is = lit≤ tt
maybe_id_len (Some x) is = id_len x is

each_id_len : (xs : List Id) → AllByRecursion IsId xs → lengths (map id_text xs) ≤ 67 * length xs
each_id_len [] all = lit≤ tt
each_id_len (x ∷ xs) all =
    let one = id_len x all.0 in
    let rest = each_id_len xs all.1 in
    omega arith

ids_len : (xs : List Id) → AllByRecursion IsId xs → length xs ≤ 100 → length (ids_text xs) ≤ 6702
ids_len xs all few =
    let list = list_len (map id_text xs) in
    let each = each_id_len xs all in
    omega arith

name_len : (name : List ℕ) → IsTrue (is_name name) → length (name_text name) ≤ 130
name_len name is =
    let short = name_is_short name is in
    let quotes = quotes_len name in
    omega arith

number_len : (n : ℕ) → n < 2 ^ 64 → length (decimal n) ≤ 20
number_len n small = length-decimal-le 20 n (lit< tt) (omega arith) small

-- ---- lines

caller_len : (caller : Option (List ℕ)) → IfSome caller (λ c. IsTrue (is_name c)) → (ms : List Member) → member_lengths (caller_members caller ++ ms) ≤ 140 + member_lengths ms
caller_len None is ms = omega arith
caller_len (Some caller) is ms = let short = name_len caller is in omega arith

moment_len : (moment : Option ℕ) → IfSome moment (λ m. m < 2 ^ 64) → (ms : List Member) → member_lengths (moment_members moment ++ ms) ≤ 30 + member_lengths ms
moment_len None is ms = omega arith
moment_len (Some moment) is ms = let short = number_len moment is in omega arith

line_len : (n : ℕ) (line : LogLine) → n < 2 ^ 64 → IsToldWell line → length (line_text n line) ≤ 8000
line_len n (ContentLine x size) small is =
    let object = object_len ((codes "id", id_text x) ∷ (codes "kind", codes "\"content\"") ∷ (codes "number", decimal n) ∷ (codes "size", decimal size) ∷ []) in
    let id = id_len x is.told.0 in
    let number = number_len n small in
    let long = number_len size is.told.1 in
    omega arith
line_len n (WholeLine x size parts) small is =
    let object = object_len ((codes "id", id_text x) ∷ (codes "kind", codes "\"whole\"") ∷ (codes "number", decimal n) ∷ (codes "parts", ids_text parts) ∷ (codes "size", decimal size) ∷ []) in
    let id = id_len x is.told.0 in
    let number = number_len n small in
    let long = number_len size is.told.1 in
    let ids = ids_len parts is.told.2 is.few in
    omega arith
line_len n (ChangesetLine x) small is =
    let object = object_len ((codes "id", id_text x) ∷ (codes "kind", codes "\"changeset\"") ∷ (codes "number", decimal n) ∷ []) in
    let id = id_len x is.told in
    let number = number_len n small in
    omega arith
line_len n (BookmarkLine move) small is =
    let rest : List Member = (codes "from", maybe_id_text move.from) ∷ (codes "kind", codes "\"bookmark\"") ∷ (codes "name", name_text move.name) ∷ (codes "number", decimal n) ∷ (codes "to", maybe_id_text move.to) ∷ [] in
    let object = object_len (caller_members move.caller ++ rest) in
    let caller = caller_len move.caller is.told.3 rest in
    let from = maybe_id_len move.from is.told.1 in
    let to = maybe_id_len move.to is.told.2 in
    let name = name_len move.name is.told.0 in
    let number = number_len n small in
    omega arith
line_len n (LandingLine caller name old draft moment ids) small is =
    let last : List Member = (codes "name", name_text name) ∷ (codes "number", decimal n) ∷ (codes "old", id_text old) ∷ [] in
    let rest : List Member = (codes "draft", id_text draft) ∷ (codes "ids", ids_text ids) ∷ (codes "kind", codes "\"landing\"") ∷ (moment_members moment ++ last) in
    let object = object_len (caller_members caller ++ rest) in
    let who = caller_len caller is.told.5 rest in
    let at = moment_len moment is.told.3 last in
    let one = id_len draft is.told.2 in
    let other = id_len old is.told.1 in
    let all = ids_len ids is.told.4 is.few in
    let named = name_len name is.told.0 in
    let number = number_len n small in
    omega arith
line_len n (PolicyLine caller rules) small is =
    let object = object_len ((codes "caller", name_text caller) ∷ (codes "kind", codes "\"policy\"") ∷ (codes "number", decimal n) ∷ (codes "rules", decimal rules) ∷ []) in
    let name = name_len caller is.told.0 in
    let number = number_len n small in
    let many = number_len rules is.told.1 in
    omega arith

lines_len : (n : ℕ) (lines : List LogLine) → n + length lines < 2 ^ 64 → AllByRecursion IsToldWell lines → lengths (line_texts n lines) ≤ 8001 * length lines
lines_len n [] small all = lit≤ tt
lines_len n (line ∷ lines) small all =
    let one = line_len n line (omega arith) all.0 in
    let rest = lines_len (n + 1) lines (omega arith) all.1 in
    omega arith

pub page_len : (n : ℕ) (lines : List LogLine) (total : ℕ) → n + length lines < 2 ^ 64 → total < 2 ^ 64 → length lines ≤ 100 → AllByRecursion IsToldWell lines → length (log_body n lines total) ≤ 8388608
page_len n lines total small whole few all =
    let entries = list_text (line_texts n lines) in
    let first = four_len (codes ",\"") (codes "entries") (codes "\":") entries in
    let second = four_len (codes ",\"") (codes "total") (codes "\":") (decimal total) in
    let members = length-append (member (codes "entries", entries)) (member (codes "total", decimal total) ++ []) in
    let last = length-append (member (codes "total", decimal total)) [] in
    let body = five_len (codes "{\"code\":\"") (codes "log") (codes "\"") (flat_map member ((codes "entries", entries) ∷ (codes "total", decimal total) ∷ [])) (codes "}") in
    let list = list_len (line_texts n lines) in
    let each = lines_len n lines small all in
    let number = number_len total whole in
    omega arith
