-- Pages of the log, as their text says them.
--     IsId x      32 bytes;  IsTold line      what a log may tell of an entry: its ids, names and numbers are such
--     Counts from count total      a page has 1 to 100 entries, all of them below the total; or it has none, and the total isn't above its first number
--     IsPage from text lines total      the text is the body that tells of these entries, of which the first has the number `from`, and of this total
--     IsNoPage from text      it tells of none
use Rattle.std.specs.Prelude.{◌≡◌, ℕ, ◌+◌, ◌<◌, ◌≤◌, ◌^◌, ◌⊎◌, List, length, IfSome, IsTrue}
use Rattle.std.specs.List.{AllByRecursion}
use Rattle.byte_fields.specs.Bytes.{Id, is_bytes}
use Rattle.history_model.specs.Bookmark.{is_name}
use Rattle.reply_model.specs.Log.{LogLine, ContentLine, WholeLine, ChangesetLine, BookmarkLine, LandingLine, PolicyLine}
use Rattle.session_model.specs.Bodies.{log_body}

abbrev pub IsId : Id → Type 0
IsId x = IsTrue (is_bytes 32 x)

abbrev pub IsTold : LogLine → Type 0
IsTold (ContentLine x size) = IsId x × (size < 2 ^ 64)
IsTold (WholeLine x size parts) = IsId x × (size < 2 ^ 64) × AllByRecursion IsId parts
IsTold (ChangesetLine x) = IsId x
IsTold (BookmarkLine move) = IsTrue (is_name move.name) × IfSome move.from IsId × IfSome move.to IsId × IfSome move.caller (λ name. IsTrue (is_name name))
IsTold (LandingLine caller name old draft moment ids) = IsTrue (is_name name) × IsId old × IsId draft × IfSome moment (λ m. m < 2 ^ 64) × AllByRecursion IsId ids × IfSome caller (λ c. IsTrue (is_name c))
IsTold (PolicyLine caller rules) = IsTrue (is_name caller) × (rules < 2 ^ 64)

abbrev pub most_entries : ℕ
most_entries = 100

abbrev pub Counts : ℕ → ℕ → ℕ → Type 0
Counts from count total = ((0 < count) × (count ≤ most_entries) × (from + count ≤ total)) ⊎ ((count ≡ 0) × (total ≤ from))

pub record IsPage (from : ℕ) (text : List ℕ) (lines : List LogLine) (total : ℕ) : Type 0 where
  pub text_is : text ≡ log_body from lines total
  pub told : AllByRecursion IsTold lines
  pub counts : Counts from (length lines) total
  pub small : total < 2 ^ 64

abbrev pub IsNoPage : ℕ → List ℕ → Type 0
IsNoPage from text = (lines : List LogLine) (total : ℕ) → ¬ (IsPage from text lines total)
