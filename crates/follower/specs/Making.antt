-- What an entry of a server's log makes here.
--     caller_in line, parts_in line      who asks for the entry of which a page tells this, and of what it is joined
--     call_of line fetched      the call that makes it, with the bytes that were fetched for it
--     count h      how many entries are stored;  with_done h done      the history once these are entered, by no seat
--     Makes header h line fetched body      the call makes this entry, of which the log tells the same
--     MadeFor header h line fetched extra      the call is answered by the rules, and makes these entries, one at most
--     IsOther opening h line fetched extra      so it makes another one, or none, or is refused, but not for want of room;  IsFull header h line fetched      it is refused for want of room
--     IsMadeFor header h extra      there are none, or the call for an entry of a log made them
--     Remains extra h done after sealed      the entries after the history are these that were done and then the extra ones, which aren't sealed and of which nothing stands on the disk
--     HasGrown header h after n      so many entries later there is less room, if there are some
use Rattle.std.specs.Prelude.{◌≡◌, ◌≢◌, ℕ, ◌+◌, ◌<◌, ◌≤◌, ◌⊎◌, Bool, true, false, List, [], ◌++◌, length, map, unwrap_or, Option, None, Some}
use Rattle.std.specs.List.{concat}
use Rattle.std.specs.Option.{option_and_then, option_to_list}
use Rattle.byte_fields.specs.Bytes.{Id}
use Rattle.history_model.specs.History.{Body, Entry, bodies, is_down}
use Rattle.history_model.specs.Journal.{Header, size}
use Rattle.reply_model.specs.Log.{LogLine, ContentLine, WholeLine, ChangesetLine, BookmarkLine, LandingLine, PolicyLine, line_of}
use Rattle.reply_model.specs.Opening.{nobody}
use Rattle.reply_model.specs.Reply.{PutContent, PutChangeset, SetBookmark, LandDraft, SetPolicy, Granted}
use Rattle.reply_model.specs.Reply as reply
use Rattle.bookmark_lock.specs.Opening.{Opening}
use Rattle.reply_model.specs.After.{Call, Asks, Joins, Answer, Grants, Refuses, Shows, Lacks, Roots, DiskFault, ReadFault, BadBytes, NodeCollision, Memory, Made, Answers, entry_by, nothing}

abbrev pub call_of : LogLine → List ℕ → Call
call_of (ContentLine x size) fetched = Asks (PutContent fetched)
call_of (WholeLine x size parts) fetched = Joins (concat parts)
call_of (ChangesetLine x) fetched = Asks (PutChangeset fetched)
call_of (BookmarkLine move) fetched = Asks (SetBookmark (unwrap_or move.caller nobody) move.name move.from move.to)
call_of (LandingLine caller name old draft moment ids) fetched = Asks (LandDraft (unwrap_or caller nobody) name draft (unwrap_or moment 0))
call_of (PolicyLine caller rules) fetched = Asks (SetPolicy caller fetched)

-- who asks for it, and of what contents it is joined
abbrev pub caller_in : LogLine → List ℕ
caller_in (ContentLine x size) = nobody
caller_in (WholeLine x size parts) = nobody
caller_in (ChangesetLine x) = nobody
caller_in (BookmarkLine move) = unwrap_or move.caller nobody
caller_in (LandingLine caller name old draft moment ids) = unwrap_or caller nobody
caller_in (PolicyLine caller rules) = caller

abbrev pub parts_in : LogLine → List Id
parts_in (ContentLine x size) = []
parts_in (WholeLine x size parts) = parts
parts_in (ChangesetLine x) = []
parts_in (BookmarkLine move) = []
parts_in (LandingLine caller name old draft moment ids) = []
parts_in (PolicyLine caller rules) = []

abbrev pub made_line : Made → Option LogLine
made_line made = option_and_then line_of made.entry

pub record Makes (header : Header) (h : List Entry) (line : LogLine) (fetched : List ℕ) (body : Body) : Type 0 where
  pub granted : Granted
  pub answers : Answers header h (call_of line fetched) (Grants granted) (record { entry = Some body; fault = None })
  pub told : line_of body ≡ Some line

abbrev pub IsWantOfRoom : reply.Refusal → Type 0
IsWantOfRoom refusal = (size length : ℕ) × (refusal ≡ reply.Full size length)

-- an answer to the call that isn't what the page tells
abbrev pub IsAnother : Bool → LogLine → Made → Answer → Type 0
IsAnother honest line made (Grants granted) = made_line made ≢ Some line
IsAnother honest line made (Refuses refusal) = ¬ (IsWantOfRoom refusal)
-- the disk gave other bytes of contents that are to be joined, which an honest one never does
IsAnother honest line made (BadBytes wanted found) = honest ≡ false
IsAnother honest line made (Shows seen) = ⊥
IsAnother honest line made (Lacks absent) = ⊥
IsAnother honest line made (Roots fs un gone) = ⊥
IsAnother honest line made DiskFault = ⊥
IsAnother honest line made ReadFault = ⊥
IsAnother honest line made (NodeCollision x) = ⊥
IsAnother honest line made Memory = ⊥

pub record MadeFor (header : Header) (h : List Entry) (line : LogLine) (fetched : List ℕ) (extra : List Body) : Type 0 where
  pub answer : Answer
  pub made : Made
  pub answers : Answers header h (call_of line fetched) answer made
  pub extra_is : extra ≡ option_to_list made.entry

pub record IsOther (opening : Opening) (h : List Entry) (line : LogLine) (fetched : List ℕ) (extra : List Body) : Type 0 where
  pub answered : MadeFor opening.header h line fetched extra
  pub another : IsAnother opening.honest line answered.made answered.answer

pub record IsFull (header : Header) (h : List Entry) (line : LogLine) (fetched : List ℕ) : Type 0 where
  pub refusal : reply.Refusal
  pub answers : Answers header h (call_of line fetched) (Refuses refusal) nothing
  pub room : IsWantOfRoom refusal

-- ---- what is left

abbrev pub count : List Entry → ℕ
count h = length (bodies h)

abbrev pub with_done : List Entry → List Body → List Entry
with_done h done = h ++ map (entry_by 0) done

abbrev pub IsMadeFor : Header → List Entry → List Body → Type 0
IsMadeFor header h extra = (extra ≡ []) ⊎ ((line : LogLine) × (fetched : List ℕ) × MadeFor header h line fetched extra)

pub record Remains (extra : List Body) (h : List Entry) (done : List Body) (after : List Entry) (sealed : ℕ) : Type 0 where
  pub entries : bodies after ≡ bodies h ++ (done ++ extra)
  pub apart : sealed ≤ count h + length done
  -- where a breaking fault is held, the disk may hold the whole history
  pub whole : is_down after ≡ true → extra ≡ []

abbrev pub HasGrown : Header → List Entry → List Entry → ℕ → Type 0
HasGrown header h after n = ((n ≡ 0) × (after ≡ h)) ⊎ ((size h < size after) × (size after ≤ header.capacity))
