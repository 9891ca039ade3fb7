-- What a request asks for, and the response to each answer.
--     asked q      the call that a request asks for, or the calls of a list, or the response to one that asks for nothing
--     granted call g, refused refusal      the response to a change that is granted and that is refused
--     seen question s, absent a      the response to a read that shows something, and to one that doesn't
--     change_response call answer, read_response question answer      the response to each answer
--     response call answer      the response to the answer of any call that a request asks for
--     list_response call at answer      the response to a list of calls that ended with this one, at this place, which was answered so
use Rattle.std.specs.Prelude.{ℕ, if◌then◌else◌, List, [], ◌∷◌, length, bytes_eq, codes, decimal, Option, None, Some, Result, Ok, Err}
use Rattle.byte_fields.specs.Bytes.{Id}
use Rattle.changeset_model.specs.Path.{Path}
use Rattle.reply_model.specs.Log.{lines_of}
use Rattle.reply_model.specs.Reply.{◌>>=◌, PutContent, PutChangeset, SetBookmark, LandDraft, SetPolicy, Granted, ContentPut, WholePut, ChangesetPut, BookmarkSet, Landed, PolicySet, Refusal, Down, TooLong, BadEncoding, SelfConflict, BadParts, OldFormat, NoPiece, NotAPiece, NoParent, NoContent, WrongSize, Unresolved, Collision, NoChangeset, Moved, NoBookmark, NoRoot, TooFarBehind, AlreadyIn, StackTooLong, MergeInStack, MergeInRange, Denied, Clash, TooLarge, BadPolicy, Full, Question, HeadOf, ContentOf, ChangesetOf, LogFrom, FsnodeOf, UnodeOf, HistoryOf, CopiesOf, PathLogOf, DeletedOf, PolicyOf, Seen, SeenHead, SeenBytes, SeenLog, SeenIds, SeenCopies, Absent, AbsentContent, AbsentChangeset, NoPath, NotADir, NotAFile, NoPolicy}
use Rattle.reply_model.specs.After.{Call, Asks, Joins, Looks, Derives, Answer, Grants, Refuses, Shows, Lacks, Roots, DiskFault, ReadFault, BadBytes, NodeCollision, Memory}
use Rattle.http_model.specs.Head.{path_of}
use Rattle.http_model.specs.Stream.{Request}
use Rattle.session_model.specs.declared.status.Status.TheVariants.{Fine, BadRequest, Forbidden, NotFound, MethodNotAllowed, Conflict, ContentTooLarge, UnprocessableContent, InternalServerError, InsufficientStorage}
use Rattle.session_model.specs.declared.method.Method.TheVariants.{Put}
use Rattle.session_model.specs.declared.method.Methods.{Methods}
use Rattle.session_model.specs.declared.route_name.RouteName.{RouteName}
use Rattle.session_model.specs.declared.route_name.RouteName.TheVariants.{Contents, Content, Wholes, Changesets, Changeset, ChangesetList, Head, Move, Land, Stack, Policy, NumberedPolicy, Log, RootFsnode, Fsnode, RootUnode, Unode, RootDeleted, Deleted, History, PathLog, Copies}
use Rattle.session_model.specs.Methods.{method_text, methods_text, has_method, methods_of}
use Rattle.session_model.specs.Responses.{Response, Json}
use Rattle.session_model.specs.Bodies.{coded, id_text, maybe_id_text, maybe_number_text, path_text, content_body, whole_body, changeset_body, bookmark_body, landed_body, policy_body, log_body, history_body, path_log_body, copies_body, json, of_code, octets, memory}
use Rattle.session_model.specs.Routes.{Route, value, is_target, route_of}
use Rattle.session_model.specs.Parameters.{name_parameter, id_parameter, maybe_id_parameter, number_parameter, path_parameter, caller_named}
use Rattle.session_model.specs.Stacks.{stack_of, puts, lands, placed}

-- ---- requests

pub data Asked : Type 0 where
  Calls : Call → Asked
  -- one after another, until one isn't granted
  Lists : List Call → Asked
  Fails : Response → Asked

-- a read of what has the id in the path
abbrev pub by_id : (Id → Question) → (ℕ → List ℕ) → Result Asked Response
by_id question value = do
  x ← id_parameter (value 0)
  Ok (Calls (Looks (question x)))

-- of the root of a changeset's tree
abbrev pub at_root : (Id → Path → Question) → (ℕ → List ℕ) → Result Asked Response
at_root question value = by_id (λ x. question x []) value

-- of a path in a changeset's tree
abbrev pub at_path : (Id → Path → Question) → (ℕ → List ℕ) → Result Asked Response
at_path question value = do
  x ← id_parameter (value 0)
  p ← path_parameter (value 1)
  Ok (Calls (Looks (question x p)))

abbrev pub sets_policy : Request → Result Asked Response
sets_policy q = do
  caller ← caller_named q.caller
  Ok (Calls (Asks (SetPolicy caller q.body)))

-- The parameters from left to right, and then who asks: the first that is refused decides. A request doesn't tell when: a landing's moment is left open, and 0 stands in its place.
abbrev pub by_name : RouteName → (ℕ → List ℕ) → Request → Result Asked Response
by_name Contents value q = Ok (Calls (Asks (PutContent q.body)))
by_name Content value q = by_id ContentOf value
by_name Wholes value q = Ok (Calls (Joins q.body))
by_name Changesets value q = Ok (Calls (Asks (PutChangeset q.body)))
by_name Changeset value q = by_id ChangesetOf value
by_name ChangesetList value q = do
  changesets ← stack_of q.body
  Ok (Lists (puts changesets))
by_name Head value q = do
  m ← name_parameter (value 0)
  Ok (Calls (Looks (HeadOf m)))
by_name Move value q = do
  m ← name_parameter (value 0)
  before ← maybe_id_parameter (value 1)
  after ← maybe_id_parameter (value 2)
  caller ← caller_named q.caller
  Ok (Calls (Asks (SetBookmark caller m before after)))
by_name Land value q = do
  m ← name_parameter (value 0)
  d ← id_parameter (value 1)
  caller ← caller_named q.caller
  Ok (Calls (Asks (LandDraft caller m d 0)))
by_name Stack value q = do
  m ← name_parameter (value 0)
  caller ← caller_named q.caller
  changesets ← stack_of q.body
  Ok (Lists (lands caller m changesets))
by_name Policy value q = if bytes_eq q.method (method_text Put) then sets_policy q else Ok (Calls (Looks (PolicyOf None)))
by_name NumberedPolicy value q = do
  n ← number_parameter (value 0)
  Ok (Calls (Looks (PolicyOf (Some n))))
by_name Log value q = do
  n ← number_parameter (value 0)
  Ok (Calls (Looks (LogFrom n)))
by_name RootFsnode value q = at_root FsnodeOf value
by_name Fsnode value q = at_path FsnodeOf value
by_name RootUnode value q = at_root UnodeOf value
by_name Unode value q = at_path UnodeOf value
by_name RootDeleted value q = at_root DeletedOf value
by_name Deleted value q = at_path DeletedOf value
by_name History value q = at_path HistoryOf value
by_name PathLog value q = at_path PathLogOf value
by_name Copies value q = by_id CopiesOf value

abbrev pub by_route : Route → Request → Result Asked Response
by_route route q = by_name route.name (value route) q

abbrev pub asked_or : Result Asked Response → Asked
asked_or (Ok asked) = asked
asked_or (Err r) = Fails r

-- the route has other methods
abbrev pub not_allowed : Methods → Response
not_allowed methods = record { status = MethodNotAllowed; media = Json; allow = Some (methods_text methods); body = coded (codes "method") [] }

abbrev pub on_route : Option Route → Request → Asked
on_route None q = Fails (of_code NotFound (codes "no-route"))
on_route (Some route) q = if has_method (methods_of route.name) q.method then asked_or (by_route route q) else Fails (not_allowed (methods_of route.name))

abbrev pub asked : Request → Asked
asked q = let path = path_of q.target in if is_target path then on_route (route_of path) q else Fails (of_code BadRequest (codes "bad-target"))

-- ---- responses to changes

-- no change is granted what another one asks for
abbrev pub granted : Call → Granted → Response
granted (Asks (PutContent bytes)) (ContentPut x) = json Fine (content_body x (length bytes))
granted (Joins body) (WholePut x size) = json Fine (whole_body x size)
granted (Asks (PutChangeset bytes)) (ChangesetPut x) = json Fine (changeset_body x)
granted (Asks (SetBookmark caller name from to)) BookmarkSet = json Fine (bookmark_body to name)
granted (Asks (LandDraft caller name draft moment)) (Landed old ids) = json Fine (landed_body old ids)
granted (Asks (SetPolicy caller text)) (PolicySet number) = json Fine (policy_body number)
granted _ _ = of_code Fine []

abbrev pub refused : Refusal → Response
refused Down = of_code InternalServerError (codes "down")
refused (TooLong n) = json ContentTooLarge (coded (codes "too-long") ((codes "length", decimal n) ∷ []))
refused (BadEncoding at) = json UnprocessableContent (coded (codes "bad-encoding") ((codes "place", decimal at) ∷ []))
refused (SelfConflict short long) = json UnprocessableContent (coded (codes "self-conflict") ((codes "long", path_text long) ∷ (codes "short", path_text short) ∷ []))
refused (BadParts n) = json BadRequest (coded (codes "bad-parts") ((codes "length", decimal n) ∷ []))
refused OldFormat = of_code Conflict (codes "old-format")
refused (NoPiece x) = json UnprocessableContent (coded (codes "no-piece") ((codes "id", id_text x) ∷ []))
refused (NotAPiece x) = json UnprocessableContent (coded (codes "not-a-piece") ((codes "id", id_text x) ∷ []))
refused (NoParent x) = json UnprocessableContent (coded (codes "no-parent") ((codes "id", id_text x) ∷ []))
refused (NoContent p x) = json UnprocessableContent (coded (codes "missing-content") ((codes "id", id_text x) ∷ (codes "path", path_text p) ∷ []))
refused (WrongSize p wanted found) = json UnprocessableContent (coded (codes "wrong-size") ((codes "found", decimal found) ∷ (codes "path", path_text p) ∷ (codes "wanted", decimal wanted) ∷ []))
refused (Unresolved p) = json UnprocessableContent (coded (codes "unresolved") ((codes "path", path_text p) ∷ []))
refused (Collision x) = json Conflict (coded (codes "collision") ((codes "id", id_text x) ∷ []))
refused (NoChangeset x) = json NotFound (coded (codes "no-changeset") ((codes "id", id_text x) ∷ []))
refused (Moved found) = json Conflict (coded (codes "moved") ((codes "found", maybe_id_text found) ∷ []))
refused NoBookmark = of_code NotFound (codes "no-bookmark")
refused NoRoot = of_code Conflict (codes "no-root")
refused (TooFarBehind n) = json ContentTooLarge (coded (codes "too-far-behind") ((codes "distance", decimal n) ∷ []))
refused AlreadyIn = of_code Conflict (codes "already-in")
refused (StackTooLong n) = json ContentTooLarge (coded (codes "stack-too-long") ((codes "count", decimal n) ∷ []))
refused (MergeInStack x) = json Conflict (coded (codes "merge-in-stack") ((codes "id", id_text x) ∷ []))
refused (MergeInRange x) = json Conflict (coded (codes "merge-in-range") ((codes "id", id_text x) ∷ []))
refused (Denied p rule) = json Forbidden (coded (codes "denied") ((codes "path", path_text p) ∷ (codes "rule", maybe_number_text rule) ∷ []))
refused (Clash left right) = json Conflict (coded (codes "clash") ((codes "left", path_text left) ∷ (codes "right", path_text right) ∷ []))
refused (TooLarge n) = json ContentTooLarge (coded (codes "too-large") ((codes "length", decimal n) ∷ []))
refused (BadPolicy line) = json UnprocessableContent (coded (codes "bad-policy") ((codes "line", decimal line) ∷ []))
refused (Full size n) = json InsufficientStorage (coded (codes "full") ((codes "length", decimal n) ∷ (codes "size", decimal size) ∷ []))

-- the disk gave no bytes of a content, or those of another one
abbrev pub read_fault : Response
read_fault = of_code InternalServerError (codes "read-fault")

abbrev pub bad_bytes : Id → Id → Response
bad_bytes wanted found = json InternalServerError (coded (codes "bad-bytes") ((codes "found", id_text found) ∷ (codes "wanted", id_text wanted) ∷ []))

abbrev pub change_response : Call → Answer → Response
change_response call (Grants g) = granted call g
change_response call (Refuses refusal) = refused refusal
change_response call DiskFault = of_code InternalServerError (codes "disk-fault")
-- of contents that are joined
change_response call ReadFault = read_fault
change_response call (BadBytes wanted found) = bad_bytes wanted found
change_response call Memory = memory
-- no other answer is given to a change
change_response call (Shows s) = memory
change_response call (Lacks a) = memory
change_response call (Roots fs un gone) = memory
change_response call (NodeCollision x) = memory

-- ---- responses to reads

-- no read shows what another one asks for
abbrev pub seen : Question → Seen → Response
seen (HeadOf name) (SeenHead None) = of_code NotFound (codes "no-bookmark")
seen (HeadOf name) (SeenHead (Some x)) = json Fine (bookmark_body (Some x) name)
seen (ContentOf x) (SeenBytes bytes) = octets bytes
seen (ChangesetOf x) (SeenBytes bytes) = octets bytes
seen (LogFrom n) (SeenLog page total) = json Fine (log_body n (lines_of page) total)
seen (FsnodeOf x d) (SeenBytes bytes) = octets bytes
seen (UnodeOf x p) (SeenBytes bytes) = octets bytes
seen (HistoryOf x p) (SeenIds ids) = json Fine (history_body ids)
seen (CopiesOf x) (SeenCopies copies) = json Fine (copies_body copies)
seen (PathLogOf x p) (SeenIds ids) = json Fine (path_log_body ids)
seen (DeletedOf x d) (SeenBytes bytes) = octets bytes
seen (PolicyOf number) (SeenBytes bytes) = octets bytes
seen _ _ = of_code Fine []

abbrev pub absent : Absent → Response
absent (AbsentContent x) = json NotFound (coded (codes "no-content") ((codes "id", id_text x) ∷ []))
absent (AbsentChangeset x) = json NotFound (coded (codes "no-changeset") ((codes "id", id_text x) ∷ []))
absent NoPath = of_code NotFound (codes "no-path")
absent NotADir = of_code NotFound (codes "not-a-dir")
absent NotAFile = of_code NotFound (codes "not-a-file")
absent NoPolicy = of_code NotFound (codes "no-policy")

abbrev pub read_response : Question → Answer → Response
read_response question (Shows s) = seen question s
read_response question (Lacks a) = absent a
read_response question ReadFault = read_fault
read_response question (BadBytes wanted found) = bad_bytes wanted found
read_response question (NodeCollision x) = json Conflict (coded (codes "collision") ((codes "id", id_text x) ∷ []))
read_response question Memory = memory
-- no other answer is given to a read
read_response question (Grants g) = memory
read_response question (Refuses refusal) = memory
read_response question (Roots fs un gone) = memory
read_response question DiskFault = memory

-- ---- responses to calls

abbrev pub response : Call → Answer → Response
response (Asks ask) answer = change_response (Asks ask) answer
response (Joins body) answer = change_response (Joins body) answer
response (Looks question) answer = read_response question answer
-- no request asks for it
response (Derives x) answer = memory

-- what isn't granted tells at which place of the list it was. Where memory ran out, the response is fixed
abbrev pub list_response : Call → ℕ → Answer → Response
list_response call at (Grants g) = granted call g
list_response call at (Refuses refusal) = placed at (refused refusal)
list_response call at DiskFault = placed at (of_code InternalServerError (codes "disk-fault"))
list_response call at ReadFault = placed at read_fault
list_response call at (BadBytes wanted found) = placed at (bad_bytes wanted found)
list_response call at Memory = memory
-- no other answer is given to a change
list_response call at (Shows s) = memory
list_response call at (Lacks a) = memory
list_response call at (Roots fs un gone) = memory
list_response call at (NodeCollision x) = memory
