-- How a repository answers the calls of one seat, whether it is served alone or beside others.
--     grant_for ask, IsGrant kind granted      what kind of thing a change is granted
--     Fits call granted, Shown question seen      the call is granted what it asks for, and the read shows it
--     kind_of question, IsOfKind kind seen      what kind of thing a read shows
--     MakesNothing answer      the call made neither an entry nor a fault
--     IsReplying replies      what is so of each such relation
--     Honestly honest replies      an honest disk's content is never answered by bytes of another id
use Rattle.std.specs.Prelude.{◌≢◌, ℕ, ◌-◌, ◌≤◌, Bool, IsTrue, List, length}
use Rattle.byte_fields.specs.Bytes.{Id}
use Rattle.history_model.specs.History.{Entry}
use Rattle.history_model.specs.Journal.{Header}
use Rattle.reply_model.specs.After.{Relation, Call, Asks, Joins, Looks, Derives, Answer, Grants, Refuses, Shows, Lacks, Roots, DiskFault, ReadFault, BadBytes, NodeCollision, Memory}
use Rattle.reply_model.specs.Reply.{most_stack, Ask, PutContent, PutWhole, PutChangeset, SetBookmark, LandDraft, SetPolicy, Granted, ContentPut, WholePut, ChangesetPut, BookmarkSet, Landed, PolicySet, Question, HeadOf, ContentOf, ChangesetOf, LogFrom, FsnodeOf, UnodeOf, HistoryOf, CopiesOf, PathLogOf, DeletedOf, PolicyOf, Seen, SeenHead, SeenBytes, SeenLog, SeenIds, SeenCopies}

-- what a change is granted: a content, a whole, a changeset, a move, a landing, or a policy
pub data GrantKind : Type 0 where
  ContentGrant : GrantKind
  WholeGrant : GrantKind
  ChangesetGrant : GrantKind
  BookmarkGrant : GrantKind
  LandingGrant : GrantKind
  PolicyGrant : GrantKind

abbrev pub grant_for : Ask → GrantKind
grant_for (PutContent bytes) = ContentGrant
grant_for (PutWhole body pieces) = WholeGrant
grant_for (PutChangeset bytes) = ChangesetGrant
grant_for (SetBookmark caller name from to) = BookmarkGrant
grant_for (LandDraft caller name draft moment) = LandingGrant
grant_for (SetPolicy caller text) = PolicyGrant

abbrev pub IsGrant : GrantKind → Granted → Type 0
IsGrant ContentGrant (ContentPut x) = Unit {0}
IsGrant ContentGrant (WholePut x n) = ⊥
IsGrant ContentGrant (ChangesetPut x) = ⊥
IsGrant ContentGrant BookmarkSet = ⊥
IsGrant ContentGrant (Landed old ids) = ⊥
IsGrant ContentGrant (PolicySet n) = ⊥
IsGrant WholeGrant (ContentPut x) = ⊥
IsGrant WholeGrant (WholePut x n) = Unit {0}
IsGrant WholeGrant (ChangesetPut x) = ⊥
IsGrant WholeGrant BookmarkSet = ⊥
IsGrant WholeGrant (Landed old ids) = ⊥
IsGrant WholeGrant (PolicySet n) = ⊥
IsGrant ChangesetGrant (ContentPut x) = ⊥
IsGrant ChangesetGrant (WholePut x n) = ⊥
IsGrant ChangesetGrant (ChangesetPut x) = Unit {0}
IsGrant ChangesetGrant BookmarkSet = ⊥
IsGrant ChangesetGrant (Landed old ids) = ⊥
IsGrant ChangesetGrant (PolicySet n) = ⊥
IsGrant BookmarkGrant (ContentPut x) = ⊥
IsGrant BookmarkGrant (WholePut x n) = ⊥
IsGrant BookmarkGrant (ChangesetPut x) = ⊥
IsGrant BookmarkGrant BookmarkSet = Unit {0}
IsGrant BookmarkGrant (Landed old ids) = ⊥
IsGrant BookmarkGrant (PolicySet n) = ⊥
IsGrant LandingGrant (ContentPut x) = ⊥
IsGrant LandingGrant (WholePut x n) = ⊥
IsGrant LandingGrant (ChangesetPut x) = ⊥
IsGrant LandingGrant BookmarkSet = ⊥
IsGrant LandingGrant (Landed old ids) = length ids ≤ most_stack
IsGrant LandingGrant (PolicySet n) = ⊥
IsGrant PolicyGrant (ContentPut x) = ⊥
IsGrant PolicyGrant (WholePut x n) = ⊥
IsGrant PolicyGrant (ChangesetPut x) = ⊥
IsGrant PolicyGrant BookmarkSet = ⊥
IsGrant PolicyGrant (Landed old ids) = ⊥
IsGrant PolicyGrant (PolicySet n) = Unit {0}

-- no other call is granted anything
abbrev pub Fits : Call → Granted → Type 0
Fits (Asks ask) granted = IsGrant (grant_for ask) granted
Fits (Joins body) granted = IsGrant WholeGrant granted
Fits (Looks question) granted = ⊥
Fits (Derives id) granted = ⊥

abbrev pub IsHead : Seen → Type 0
IsHead (SeenHead head) = Unit {0}
IsHead (SeenBytes bytes) = ⊥
IsHead (SeenLog page total) = ⊥
IsHead (SeenIds ids) = ⊥
IsHead (SeenCopies copies) = ⊥

abbrev pub AreBytes : Seen → Type 0
AreBytes (SeenHead head) = ⊥
AreBytes (SeenBytes bytes) = Unit {0}
AreBytes (SeenLog page total) = ⊥
AreBytes (SeenIds ids) = ⊥
AreBytes (SeenCopies copies) = ⊥

-- a page from this number on has no more entries than there are
abbrev pub IsPageFrom : ℕ → Seen → Type 0
IsPageFrom n (SeenHead head) = ⊥
IsPageFrom n (SeenBytes bytes) = ⊥
IsPageFrom n (SeenLog page total) = length page ≤ total - n
IsPageFrom n (SeenIds ids) = ⊥
IsPageFrom n (SeenCopies copies) = ⊥

abbrev pub AreIds : Seen → Type 0
AreIds (SeenHead head) = ⊥
AreIds (SeenBytes bytes) = ⊥
AreIds (SeenLog page total) = ⊥
AreIds (SeenIds ids) = Unit {0}
AreIds (SeenCopies copies) = ⊥

abbrev pub AreCopies : Seen → Type 0
AreCopies (SeenHead head) = ⊥
AreCopies (SeenBytes bytes) = ⊥
AreCopies (SeenLog page total) = ⊥
AreCopies (SeenIds ids) = ⊥
AreCopies (SeenCopies copies) = Unit {0}

-- what a read shows: a head, bytes, a page of the log from a number on, ids, or copies
pub data SeenKind : Type 0 where
  HeadKind : SeenKind
  BytesKind : SeenKind
  PageKind : ℕ → SeenKind
  IdsKind : SeenKind
  CopiesKind : SeenKind

abbrev pub kind_of : Question → SeenKind
kind_of (HeadOf name) = HeadKind
kind_of (ContentOf x) = BytesKind
kind_of (ChangesetOf x) = BytesKind
kind_of (LogFrom n) = PageKind n
kind_of (FsnodeOf x d) = BytesKind
kind_of (UnodeOf x p) = BytesKind
kind_of (HistoryOf x p) = IdsKind
kind_of (CopiesOf x) = CopiesKind
kind_of (PathLogOf x p) = IdsKind
kind_of (DeletedOf x p) = BytesKind
kind_of (PolicyOf number) = BytesKind

abbrev pub IsOfKind : SeenKind → Seen → Type 0
IsOfKind HeadKind seen = IsHead seen
IsOfKind BytesKind seen = AreBytes seen
IsOfKind (PageKind n) seen = IsPageFrom n seen
IsOfKind IdsKind seen = AreIds seen
IsOfKind CopiesKind seen = AreCopies seen

abbrev pub Shown : Question → Seen → Type 0
Shown question seen = IsOfKind (kind_of question) seen

abbrev pub MakesNothing : Answer → Type 0
MakesNothing (Grants g) = ⊥
MakesNothing (Refuses refusal) = Unit {0}
MakesNothing (Shows seen) = Unit {0}
MakesNothing (Lacks absent) = Unit {0}
MakesNothing (Roots fs un gone) = Unit {0}
MakesNothing DiskFault = ⊥
MakesNothing ReadFault = ⊥
MakesNothing (BadBytes wanted found) = Unit {0}
MakesNothing (NodeCollision x) = Unit {0}
MakesNothing Memory = Unit {0}

pub record IsReplying (replies : Relation) : Type 0 where
  pub fits : (header : Header) (h : List Entry) (who : ℕ) (call : Call) (granted : Granted) (new : List Entry) → replies header h who call (Grants granted) new → Fits call granted
  pub shown : (header : Header) (h : List Entry) (who : ℕ) (question : Question) (seen : Seen) (new : List Entry) → replies header h who (Looks question) (Shows seen) new → Shown question seen
  -- want of memory might stand in place of an answer that made nothing
  pub memory : (header : Header) (h : List Entry) (who : ℕ) (call : Call) (answer : Answer) (new : List Entry) → MakesNothing answer → replies header h who call answer new → replies header h who call Memory new

-- as these replies are, and where the disk is honest no content is answered by the bytes of another
pub record Honestly (honest : Bool) (replies : Relation) (header : Header) (h : List Entry) (who : ℕ) (call : Call) (answer : Answer) (new : List Entry) : Type 0 where
  pub answered : replies header h who call answer new
  pub true_bytes : IsTrue honest → (wanted found : Id) → answer ≢ BadBytes wanted found
