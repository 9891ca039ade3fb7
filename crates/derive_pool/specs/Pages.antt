-- What is told to derivers of a page of the log.
--     told_id line      the changeset that an entry tells of: an uploaded one, or the last of a landed stack
--     next_after from answer      where the next page begins, once the page from this number on is answered so, or the last number of 64 bits
--     ReadsPages replies header number before from answers after next      pages are read one after another, from this number on, and are answered so
use Rattle.std.specs.Prelude.{◌≡◌, ℕ, ◌+◌, ◌^◌, min, length, List, [], ◌∷◌, Option, None, Some, ◌-◌, slice_get}
use Rattle.byte_fields.specs.Bytes.{Id}
use Rattle.reply_model.specs.Log.{LogLine, ContentLine, WholeLine, ChangesetLine, BookmarkLine, LandingLine, PolicyLine, lines_of}
use Rattle.history_model.specs.History.{Entry}
use Rattle.history_model.specs.Journal.{Header}
use Rattle.reply_model.specs.Reply.{Seen, SeenHead, SeenBytes, SeenLog, SeenIds, SeenCopies, LogFrom}
use Rattle.reply_model.specs.After.{Relation, Looks, Answer, Grants, Refuses, Shows, Lacks, Roots, DiskFault, ReadFault, BadBytes, NodeCollision, Memory}

abbrev pub told_id : LogLine → Option Id
told_id (ContentLine id length) = None
told_id (WholeLine id length parts) = None
told_id (ChangesetLine id) = Some id
told_id (BookmarkLine move) = None
told_id (LandingLine caller name old draft moment ids) = slice_get ids (length ids - 1)
told_id (PolicyLine caller rules) = None

abbrev pub after_seen : ℕ → Seen → ℕ
after_seen from (SeenHead head) = from
after_seen from (SeenBytes bytes) = from
after_seen from (SeenLog page total) = min (from + length (lines_of page)) (2 ^ 64 - 1)
after_seen from (SeenIds ids) = from
after_seen from (SeenCopies copies) = from

abbrev pub next_after : ℕ → Answer → ℕ
next_after from (Grants granted) = from
next_after from (Refuses refusal) = from
next_after from (Shows seen) = after_seen from seen
next_after from (Lacks absent) = from
next_after from (Roots fsnode unode deleted) = from
next_after from DiskFault = from
next_after from ReadFault = from
next_after from (BadBytes wanted found) = from
next_after from (NodeCollision id) = from
next_after from Memory = from

-- replies: how a seat of this number is answered; before, after: what the seat has seen
abbrev pub ReadsPages : Relation → Header → ℕ → List Entry → ℕ → List Answer → List Entry → ℕ → Type 0
ReadsPages replies header number before from [] after next = (after ≡ before) × (next ≡ from)
ReadsPages replies header number before from (answer ∷ answers) after next = (between : List Entry) × replies header before number (Looks (LogFrom from)) answer between × ReadsPages replies header number between (next_after from answer) answers after next
