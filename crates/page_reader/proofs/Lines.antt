-- The text of a page, and the value that it is read as.
use Rattle.std.proofs.Common.{◌≡◌, ℕ, ◌+◌, ◌<◌, ◌^◌, refl, List, [], ◌∷◌, length, Some, None, Option, map, sym, ◌∙◌, arith, lit≤, inl, inr}
use Rattle.std.specs.Prelude.{IfSome}
use Rattle.std.specs.List.{AllByRecursion}
use Rattle.json.proofs.Printed.Decimals.{IsNumber-decimal}
use Rattle.serde_json.proofs.Numbers.{number_of-decimal}
use Rattle.hex.specs.Hex.{encode_lower}
use Rattle.serde_json.specs.Data.{array}
use Rattle.serde_json.specs.Read.{read}
use Rattle.serde_json.specs.View.{items_of}
use Rattle.byte_fields.specs.Bytes.{Id}
use Rattle.reply_model.specs.Log.{LogLine, ContentLine, WholeLine, ChangesetLine, BookmarkLine, LandingLine, PolicyLine}
use Rattle.session_model.specs.Bodies.{id_text, line_text, line_texts, log_body}
use Rattle.repo_text.specs.Plain.{IsPlain}
use Rattle.repo_text.specs.Spelling.{Spells, SpellAll, id_data, maybe_id_data}
use Rattle.repo_text.proofs.Plain.{hex_is_plain}
use Rattle.repo_text.proofs.Spelled.{list_spelled, id_spelled, maybe_id_spelled}
use Rattle.repo_text.proofs.LineTexts.{content_line, whole_line, changeset_line, bookmark_line, told_bookmark_line, landing_line, dated_line, told_landing_line, told_dated_line, policy_line, page_spelled}
use Rattle.page_reader.specs.Pages.{IsId, IsTold, Counts, IsPage}
use Rattle.page_reader.specs.Values.{ids_data, bookmark_data, landing_data, line_data, lines_data, page_data}
use Rattle.page_reader.proofs.Ids.{id_bytes}
use Rattle.page_reader.proofs.Reading.{Reads, text_is_read, string_reads, items_read}

id_plain : (x : Id) → IsId x → IsPlain (encode_lower x)
id_plain x is = hex_is_plain x (id_bytes x is)

maybe_id_plain : (x : Option Id) → IfSome x IsId → IfSome x (λ y. IsPlain (encode_lower y))
maybe_id_plain None is = tt
maybe_id_plain (Some x) is = id_plain x is

ids_spelled : (xs : List Id) → AllByRecursion IsId xs → SpellAll (map id_data xs) (map id_text xs)
ids_spelled [] all = tt
ids_spelled (x ∷ xs) all = (id_spelled x (id_plain x all.0), ids_spelled xs all.1)

bookmark_spelled : (n : ℕ) (caller : Option (List ℕ)) (name : List ℕ) (from to : Option Id) → IsTold (BookmarkLine (record { name = name; from = from; to = to; caller = caller }))
    → Spells (bookmark_data n caller name from to) (line_text n (BookmarkLine (record { name = name; from = from; to = to; caller = caller })))
bookmark_spelled n None name from to told =
    bookmark_line n name name from to (maybe_id_data from) (maybe_id_data to) refl told.0 (maybe_id_spelled from (maybe_id_plain from told.1)) (maybe_id_spelled to (maybe_id_plain to told.2))
bookmark_spelled n (Some caller) name from to told =
    told_bookmark_line n caller caller name name from to (maybe_id_data from) (maybe_id_data to) refl told.3 refl told.0 (maybe_id_spelled from (maybe_id_plain from told.1)) (maybe_id_spelled to (maybe_id_plain to told.2))

landing_spelled : (n : ℕ) (caller : Option (List ℕ)) (name : List ℕ) (old draft : Id) (moment : Option ℕ) (ids : List Id) → IsTold (LandingLine caller name old draft moment ids)
    → Spells (landing_data n caller name old draft moment ids) (line_text n (LandingLine caller name old draft moment ids))
landing_spelled n None name old draft None ids told =
    landing_line n name name old draft ids (id_data old) (id_data draft) (ids_data ids) refl told.0 (id_spelled old (id_plain old told.1)) (id_spelled draft (id_plain draft told.2)) (list_spelled (map id_data ids) (map id_text ids) (ids_spelled ids told.4))
landing_spelled n None name old draft (Some moment) ids told =
    dated_line n name name old draft moment ids (id_data old) (id_data draft) (ids_data ids) refl told.0 (id_spelled old (id_plain old told.1)) (id_spelled draft (id_plain draft told.2)) (list_spelled (map id_data ids) (map id_text ids) (ids_spelled ids told.4))
landing_spelled n (Some caller) name old draft None ids told =
    told_landing_line n caller caller name name old draft ids (id_data old) (id_data draft) (ids_data ids) refl told.5 refl told.0 (id_spelled old (id_plain old told.1)) (id_spelled draft (id_plain draft told.2)) (list_spelled (map id_data ids) (map id_text ids) (ids_spelled ids told.4))
landing_spelled n (Some caller) name old draft (Some moment) ids told =
    told_dated_line n caller caller name name old draft moment ids (id_data old) (id_data draft) (ids_data ids) refl told.5 refl told.0 (id_spelled old (id_plain old told.1)) (id_spelled draft (id_plain draft told.2)) (list_spelled (map id_data ids) (map id_text ids) (ids_spelled ids told.4))

line_spelled : (n : ℕ) (line : LogLine) → IsTold line → Spells (line_data n line) (line_text n line)
line_spelled n (ContentLine x size) told = content_line n x size (id_plain x told.0)
line_spelled n (WholeLine x size parts) told = whole_line n x size parts (ids_data parts) (id_plain x told.0) (list_spelled (map id_data parts) (map id_text parts) (ids_spelled parts told.2))
line_spelled n (ChangesetLine x) told = changeset_line n x (id_plain x told)
line_spelled n (BookmarkLine move) told = bookmark_spelled n move.caller move.name move.from move.to told
line_spelled n (LandingLine caller name old draft moment ids) told = landing_spelled n caller name old draft moment ids told
line_spelled n (PolicyLine caller rules) told = policy_line n caller caller rules refl told.0

lines_spelled : (n : ℕ) (lines : List LogLine) → AllByRecursion IsTold lines → SpellAll (lines_data n lines) (line_texts n lines)
lines_spelled n [] told = tt
lines_spelled n (line ∷ lines) told = (line_spelled n line told.0, lines_spelled (n + 1) lines told.1)

pub page_is_spelled : (n : ℕ) (lines : List LogLine) (total : ℕ) → AllByRecursion IsTold lines → Spells (page_data n lines total) (log_body n lines total)
page_is_spelled n lines total told = page_spelled n total lines (array (items_of (lines_data n lines))) (list_spelled (lines_data n lines) (line_texts n lines) (lines_spelled n lines told))

-- ---- each value is read from its own JSON

bookmark_reads : (n : ℕ) (caller : Option (List ℕ)) (name : List ℕ) (from to : Option Id) → n < 2 ^ 64 → Reads 2 (bookmark_data n caller name from to)
bookmark_reads n None name None None small = record { is = rw (number_of-decimal n small) refl; numbers = (tt, (tt, (tt, (IsNumber-decimal n small, (tt, tt))))); shallow = lit≤ tt }
bookmark_reads n None name None (Some y) small = record { is = rw (number_of-decimal n small) refl; numbers = (tt, (tt, (tt, (IsNumber-decimal n small, (tt, tt))))); shallow = lit≤ tt }
bookmark_reads n None name (Some x) None small = record { is = rw (number_of-decimal n small) refl; numbers = (tt, (tt, (tt, (IsNumber-decimal n small, (tt, tt))))); shallow = lit≤ tt }
bookmark_reads n None name (Some x) (Some y) small = record { is = rw (number_of-decimal n small) refl; numbers = (tt, (tt, (tt, (IsNumber-decimal n small, (tt, tt))))); shallow = lit≤ tt }
bookmark_reads n (Some caller) name None None small = record { is = rw (number_of-decimal n small) refl; numbers = (tt, (tt, (tt, (tt, (IsNumber-decimal n small, (tt, tt)))))); shallow = lit≤ tt }
bookmark_reads n (Some caller) name None (Some y) small = record { is = rw (number_of-decimal n small) refl; numbers = (tt, (tt, (tt, (tt, (IsNumber-decimal n small, (tt, tt)))))); shallow = lit≤ tt }
bookmark_reads n (Some caller) name (Some x) None small = record { is = rw (number_of-decimal n small) refl; numbers = (tt, (tt, (tt, (tt, (IsNumber-decimal n small, (tt, tt)))))); shallow = lit≤ tt }
bookmark_reads n (Some caller) name (Some x) (Some y) small = record { is = rw (number_of-decimal n small) refl; numbers = (tt, (tt, (tt, (tt, (IsNumber-decimal n small, (tt, tt)))))); shallow = lit≤ tt }

ids_read : (ids : List Id) → AllByRecursion (Reads 0) (map id_data ids)
ids_read [] = tt
ids_read (x ∷ ids) = (string_reads (encode_lower x), ids_read ids)

landing_reads : (n : ℕ) (caller : Option (List ℕ)) (name : List ℕ) (old draft : Id) (moment : Option ℕ) (ids : List Id) → n < 2 ^ 64 → IfSome moment (λ m. m < 2 ^ 64) → Reads 2 (landing_data n caller name old draft moment ids)
landing_reads n None name old draft None ids small told =
    let items = items_read 0 (map id_data ids) (ids_read ids) in
    let deep = items.shallow in
    record { is = rw (items.is, number_of-decimal n small) refl; numbers = (tt, (items.numbers, (tt, (tt, (IsNumber-decimal n small, (tt, tt)))))); shallow = omega arith }
landing_reads n None name old draft (Some moment) ids small told =
    let items = items_read 0 (map id_data ids) (ids_read ids) in
    let deep = items.shallow in
    record { is = rw (items.is, number_of-decimal n small, number_of-decimal moment told) refl; numbers = (tt, (items.numbers, (tt, (IsNumber-decimal moment told, (tt, (IsNumber-decimal n small, (tt, tt))))))); shallow = omega arith }
landing_reads n (Some caller) name old draft None ids small told =
    let items = items_read 0 (map id_data ids) (ids_read ids) in
    let deep = items.shallow in
    record { is = rw (items.is, number_of-decimal n small) refl; numbers = (tt, (tt, (items.numbers, (tt, (tt, (IsNumber-decimal n small, (tt, tt))))))); shallow = omega arith }
landing_reads n (Some caller) name old draft (Some moment) ids small told =
    let items = items_read 0 (map id_data ids) (ids_read ids) in
    let deep = items.shallow in
    record { is = rw (items.is, number_of-decimal n small, number_of-decimal moment told) refl; numbers = (tt, (tt, (items.numbers, (tt, (IsNumber-decimal moment told, (tt, (IsNumber-decimal n small, (tt, tt)))))))); shallow = omega arith }

line_reads : (n : ℕ) (line : LogLine) → n < 2 ^ 64 → IsTold line → Reads 2 (line_data n line)
line_reads n (ContentLine x size) small told = record {
  is = rw (number_of-decimal n small, number_of-decimal size told.1) refl;
  numbers = (tt, (tt, (IsNumber-decimal n small, (IsNumber-decimal size told.1, tt))));
  shallow = lit≤ tt;
}
line_reads n (WholeLine x size parts) small told =
    let items = items_read 0 (map id_data parts) (ids_read parts) in
    let deep = items.shallow in
    record {
      is = rw (items.is, number_of-decimal n small, number_of-decimal size told.1) refl;
      numbers = (tt, (tt, (IsNumber-decimal n small, (items.numbers, (IsNumber-decimal size told.1, tt)))));
      shallow = omega arith;
    }
line_reads n (ChangesetLine x) small told = record {
  is = rw (number_of-decimal n small) refl;
  numbers = (tt, (tt, (IsNumber-decimal n small, tt)));
  shallow = lit≤ tt;
}
line_reads n (BookmarkLine move) small told = bookmark_reads n move.caller move.name move.from move.to small
line_reads n (LandingLine caller name old draft moment ids) small told = landing_reads n caller name old draft moment ids small told.3
line_reads n (PolicyLine caller rules) small told = record {
  is = rw (number_of-decimal n small, number_of-decimal rules told.1) refl;
  numbers = (tt, (tt, (IsNumber-decimal n small, (IsNumber-decimal rules told.1, tt))));
  shallow = lit≤ tt;
}

pub lines_read : (n : ℕ) (lines : List LogLine) → n + length lines < 2 ^ 64 → AllByRecursion IsTold lines → AllByRecursion (Reads 2) (lines_data n lines)
lines_read n [] small told = tt
lines_read n (line ∷ lines) small told = (line_reads n line (omega arith) told.0, lines_read (n + 1) lines (omega arith) told.1)

page_reads : (n : ℕ) (lines : List LogLine) (total : ℕ) → n + length lines < 2 ^ 64 → total < 2 ^ 64 → AllByRecursion IsTold lines → Reads 127 (page_data n lines total)
page_reads n lines total small whole told =
    let items = items_read 2 (lines_data n lines) (lines_read n lines small told) in
    let deep = items.shallow in
    record {
      is = rw (items.is, number_of-decimal total whole) refl;
      numbers = (tt, (items.numbers, (IsNumber-decimal total whole, tt)));
      shallow = omega arith;
    }

-- a page's text is read as its value
pub page_is_read : (from : ℕ) (text : List ℕ) (lines : List LogLine) (total : ℕ) → from < 2 ^ 64 → IsPage from text lines total → read text ≡ Some (page_data from lines total)
page_is_read from text lines total small page =
    text_is_read text (page_data from lines total) (page_reads from lines total (fits page.counts) page.small page.told) (record { no_float = spelled.no_float; text_is = spelled.text_is ∙ sym page.text_is })
  where
    spelled : Spells (page_data from lines total) (log_body from lines total)
    spelled = page_is_spelled from lines total page.told

    fits : Counts from (length lines) total → from + length lines < 2 ^ 64
    fits (inl some) = let le = some.2 in let t = page.small in omega arith
    fits (inr none) = let zero = none.0 in omega arith
