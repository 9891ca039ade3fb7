-- The heads of bookmarks, as the log tells them one entry after another.
--     IsEntered cmp line before after      a bookmark that was moved, or landed on, has its new head; the others keep theirs
use Rattle.std.specs.Prelude.{◌≡◌, ◌-◌, List, ℕ, length, slice_get}
use Rattle.std.specs.BTreeMap.{BTreeMap, Updates}
use Rattle.std.specs.declared.cmp.Ordering.{Ordering}
use Rattle.byte_fields.specs.Bytes.{Id}
use Rattle.reply_model.specs.Log.{LogLine, ContentLine, WholeLine, ChangesetLine, BookmarkLine, LandingLine, PolicyLine}

-- cmp: the order of names
abbrev pub IsEntered : (List ℕ → List ℕ → Ordering) → LogLine → BTreeMap (List ℕ) Id → BTreeMap (List ℕ) Id → Type 0
IsEntered cmp (ContentLine id size) before after = after ≡ before
IsEntered cmp (WholeLine id size parts) before after = after ≡ before
IsEntered cmp (ChangesetLine id) before after = after ≡ before
IsEntered cmp (BookmarkLine move) before after = Updates cmp before after move.name move.to
IsEntered cmp (LandingLine caller name old draft moment ids) before after = Updates cmp before after name (slice_get ids (length ids - 1))
IsEntered cmp (PolicyLine caller rules) before after = after ≡ before
