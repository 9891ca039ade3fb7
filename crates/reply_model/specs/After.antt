-- What a seat knows after a call. A seat's front is the history that it has seen.
--     Made      what a call made: an entry, or a fault, or nothing
--     Answers header h call answer made      the call may be answered so at h, if it makes this there
--     Relation      how a repository answers a call of a seat: the header, the history that the seat has seen, its number, the call, the answer, and the history that it has seen then
--     Replies header h who call answer new      the repository of one thread answers the call so at h, and then has the history new
--     IsNode ks bytes      a node of the definitions' manifests of some known changeset
--     NodesCollide ks x      two different ones of them have the digest x
--     SeesMore old who new      the seat has seen more, and made no entry
--     calm_by who h      the entries that a seat made, but for its breaking faults
--     stands_of who made      what a call made that stands at its place: the entry, and a fault that isn't breaking
--     IsAtOnce answer      the answer waits for no other turn
--     Grows old who before made new      the front before a call and after it, and the history between at which the call is answered
--     After header old who call answer new      the front before a call that is answered so, and after it
use Rattle.std.specs.Prelude.{Contains, ◌≡◌, ◌≢◌, ℕ, not, Bool, true, false, IsTrue, IsSome, List, [], ◌∷◌, ◌++◌, map, filter, Option, None, Some, option_map, option_to_list, Result, Ok, Err}
use mathlib.Core.List.{IsPrefix}
use Rattle.sha2.specs.Sha256.{sha256}
use Rattle.byte_fields.specs.Bytes.{Id}
use Rattle.history_model.specs.History.{Body, Fault, Entry, Known, is_breaking, entries_by, is_down, known, is_known, content_len, whole_parts}
use Rattle.history_model.specs.Past.{past}
use Rattle.history_model.specs.Journal.{Header}
use Rattle.reply_model.specs.Reply.{Ask, Refusal, Granted, judge, PutWhole, are_pieces, parts_of, Question, HeadOf, ContentOf, ChangesetOf, LogFrom, FsnodeOf, UnodeOf, HistoryOf, CopiesOf, PathLogOf, DeletedOf, PolicyOf, Seen, Absent, AbsentChangeset, Sees}
use Rattle.history_model.specs.Tree.{files_of}
use Rattle.manifest_model.specs.Fsnode.{fsnode, fsnode_id}
use Rattle.manifest_model.specs.Unode.{unode_id}
use Rattle.manifest_model.specs.Merged.{unode_at}
use Rattle.manifest_model.specs.Deleted.{deleted, deleted_id}
use Rattle.manifest_model.specs.Manifests.{nodes_of}

pub data Call : Type 0 where
  -- a change, a read, and a request to derive a changeset's manifests
  Asks : Ask → Call
  -- contents are to be joined, of which these are the ids. What is read of them isn't asked
  Joins : (body : List ℕ) → Call
  Looks : Question → Call
  Derives : (id : Id) → Call

pub data Answer : Type 0 where
  Grants : Granted → Answer
  Refuses : Refusal → Answer
  Shows : Seen → Answer
  Lacks : Absent → Answer
  -- the ids of a changeset's root fsnode, root unode and root deleted node
  Roots : (fsnode unode deleted : Id) → Answer
  DiskFault : Answer
  ReadFault : Answer
  -- a content's bytes on the disk have another id than is wanted
  BadBytes : (wanted found : Id) → Answer
  -- two different nodes have this id
  NodeCollision : (id : Id) → Answer
  Memory : Answer

abbrev pub IsNode : List Known → List ℕ → Type 0
IsNode ks bytes = (x : Id) × IsTrue (is_known ks x) × Contains (nodes_of ks x) bytes

abbrev pub NodesCollide : List Known → Id → Type 0
NodesCollide ks x = (a b : List ℕ) × IsNode ks a × IsNode ks b × (a ≢ b) × (sha256 a ≡ x) × (sha256 b ≡ x)

abbrev pub AsksManifest : Question → Type 0
AsksManifest (HeadOf name) = ⊥
AsksManifest (ContentOf x) = ⊥
AsksManifest (ChangesetOf x) = ⊥
AsksManifest (LogFrom n) = ⊥
AsksManifest (FsnodeOf x d) = Unit {0}
AsksManifest (UnodeOf x p) = Unit {0}
AsksManifest (HistoryOf x p) = Unit {0}
AsksManifest (CopiesOf x) = ⊥
AsksManifest (PathLogOf x p) = Unit {0}
AsksManifest (DeletedOf x d) = Unit {0}
AsksManifest (PolicyOf number) = ⊥

abbrev pub ReadsManifest : Call → Type 0
ReadsManifest (Asks ask) = ⊥
ReadsManifest (Joins body) = ⊥
ReadsManifest (Looks question) = AsksManifest question
ReadsManifest (Derives x) = Unit {0}

-- the entry that a call made, and the fault that it met, breaking or not
pub record Made : Type 0 where
  pub entry : Option Body
  pub fault : Option Bool

abbrev pub nothing : Made
nothing = record { entry = None; fault = None }

abbrev pub only_fault : Bool → Made
only_fault breaking = record { entry = None; fault = Some breaking }

-- what is asked where these contents are joined, with bytes that were read of them. Where a refusal comes before they are read, any bytes will do
abbrev pub IsJoining : Result (List Id) Refusal → List Entry → List (List ℕ) → Type 0
IsJoining (Ok parts) h pieces = are_pieces h parts pieces ≡ true
IsJoining (Err refusal) h pieces = Unit {0}

-- these contents may be read
abbrev pub MayRead : Header → List Entry → List ℕ → List Id → Type 0
MayRead header h body parts = (is_down h ≡ false) × (parts_of header h body ≡ Ok parts)

abbrev pub Answers : Header → List Entry → Call → Answer → Made → Type 0
-- the answers of the repository of one thread
Answers header h (Asks ask) (Grants granted) made = (made.fault ≡ None) × (judge header h ask ≡ Ok (record { granted = granted; made = made.entry }))
Answers header h (Asks ask) (Refuses refusal) made = (made ≡ nothing) × (judge header h ask ≡ Err refusal)
Answers header h (Joins body) (Grants granted) made = (made.fault ≡ None) × (pieces : List (List ℕ)) × IsJoining (parts_of header h body) h pieces × (judge header h (PutWhole body pieces) ≡ Ok (record { granted = granted; made = made.entry }))
Answers header h (Joins body) (Refuses refusal) made = (made ≡ nothing) × (pieces : List (List ℕ)) × IsJoining (parts_of header h body) h pieces × (judge header h (PutWhole body pieces) ≡ Err refusal)
Answers header h (Looks question) (Shows seen) made = (made ≡ nothing) × Sees h question (Ok seen)
Answers header h (Looks question) (Lacks absent) made = (made ≡ nothing) × Sees h question (Err absent)
Answers header h (Derives x) (Roots fs un gone) made =
    (made ≡ nothing) × IsTrue (is_known (known h) x) × (fs ≡ fsnode_id (fsnode (files_of (known h) x) [])) × (un ≡ unode_id (unode_at (past (known h) x) []))
    × (gone ≡ deleted_id (deleted (past (known h) x) []))
Answers header h (Derives x) (Lacks absent) made = (made ≡ nothing) × (absent ≡ AbsentChangeset x) × (is_known (known h) x ≡ false)
-- The disk failed. What a change made, if it made an entry, stands, and wasn't sealed with what stood before it. The read of a known content met another fault
Answers header h (Asks ask) DiskFault made = (made.fault ≡ Some true) × (granted : Granted) × (judge header h ask ≡ Ok (record { granted = granted; made = made.entry }))
Answers header h (Joins body) DiskFault made = (made.fault ≡ Some true) × (pieces : List (List ℕ)) × (granted : Granted) × IsJoining (parts_of header h body) h pieces × (judge header h (PutWhole body pieces) ≡ Ok (record { granted = granted; made = made.entry }))
Answers header h (Looks (ContentOf x)) ReadFault made = (made ≡ only_fault false) × IsSome (content_len h x)
Answers header h (Joins body) ReadFault made = (made ≡ only_fault false) × (parts : List Id) × MayRead header h body parts
-- the disk gave other bytes, of a whole or of one of its parts
Answers header h (Looks (ContentOf x)) (BadBytes wanted found) made = (made ≡ nothing) × IsSome (content_len h x) × Contains (x ∷ whole_parts h x) wanted × (found ≢ wanted)
Answers header h (Joins body) (BadBytes wanted found) made = (made ≡ nothing) × (parts : List Id) × MayRead header h body parts × Contains parts wanted × (found ≢ wanted)
-- want of memory
Answers header h call Memory made = made ≡ nothing
-- manifests whose nodes can't be told apart
Answers header h call (NodeCollision x) made = (made ≡ nothing) × ReadsManifest call × NodesCollide (known h) x
-- no other answer is given
Answers _ _ _ _ _ = ⊥

-- ---- fronts

abbrev pub entry_by : ℕ → Body → Entry
entry_by who body = record { who = who; body = body }

-- the call's entry and then its fault
abbrev pub entries_of : ℕ → Made → List Entry
entries_of who made = map (entry_by who) (option_to_list made.entry ++ option_to_list (option_map Fault made.fault))

abbrev pub Relation : Type 1
Relation = Header → List Entry → ℕ → Call → Answer → List Entry → Type 0

-- at h itself
pub record Replies (header : Header) (h : List Entry) (who : ℕ) (call : Call) (answer : Answer) (new : List Entry) : Type 0 where
  pub made : Made
  pub answers : Answers header h call answer made
  pub new_is : new ≡ h ++ entries_of who made

pub record SeesMore (old : List Entry) (who : ℕ) (new : List Entry) : Type 0 where
  pub begins : IsPrefix old new
  pub own : entries_by who new ≡ entries_by who old

abbrev pub calm_by : ℕ → List Entry → List Entry
calm_by who h = filter (λ e. not (is_breaking e.body)) (entries_by who h)

-- a breaking fault may come later
abbrev pub calm_fault : Option Bool → Option Body
calm_fault None = None
calm_fault (Some true) = None
calm_fault (Some false) = Some (Fault false)

abbrev pub stands_of : ℕ → Made → List Entry
stands_of who made = map (entry_by who) (option_to_list made.entry ++ option_to_list (calm_fault made.fault))

-- The new front is a history that the old front begins, in which the seat made at most one entry more, its breaking faults left aside: first the history before it, in which the seat made no other, then the entry, and then what others made while the seat waited for it to be sealed. After a fault that isn't breaking nothing comes.
pub record Grows (old : List Entry) (who : ℕ) (before : List Entry) (made : Made) (new : List Entry) : Type 0 where
  pub begins : IsPrefix old before
  pub own : calm_by who before ≡ calm_by who old
  pub stands : IsPrefix (before ++ stands_of who made) new
  pub only : calm_by who new ≡ calm_by who (before ++ stands_of who made)
  pub last : made.fault ≡ Some false → new ≡ before ++ stands_of who made
  pub failed : made.fault ≡ Some true → is_down new ≡ true

-- what is granted, and what the disk failed, waited to be sealed
abbrev pub IsAtOnce : Answer → Type 0
IsAtOnce (Grants granted) = ⊥
IsAtOnce (Refuses refusal) = Unit {0}
IsAtOnce (Shows seen) = Unit {0}
IsAtOnce (Lacks absent) = Unit {0}
IsAtOnce (Roots fs un gone) = Unit {0}
IsAtOnce DiskFault = ⊥
IsAtOnce ReadFault = Unit {0}
IsAtOnce (BadBytes wanted found) = Unit {0}
IsAtOnce (NodeCollision x) = Unit {0}
IsAtOnce Memory = Unit {0}

-- The answer is one at some history on the way from the old front to the new one. One that waits for no other turn is an answer at the new front itself, but for the fault that it made.
pub record After (header : Header) (old : List Entry) (who : ℕ) (call : Call) (answer : Answer) (new : List Entry) : Type 0 where
  pub before : List Entry
  pub made : Made
  pub grows : Grows old who before made new
  pub answers : Answers header before call answer made
  pub at_once : IsAtOnce answer → new ≡ before ++ stands_of who made
