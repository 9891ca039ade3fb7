-- The repository of one thread: what each call answers at a history, and the entry that it makes.
--     judge header h ask      of a change: what it is granted and the entry, if it makes one, or the first refusal that applies
--     told h caller, denied_at h caller ps      the caller that an entry tells;  of these paths the first that isn't allowed, by the policy that is held
--     seen_changeset h x, seen_log h n, seen_fsnode h x d, seen_unode h x p, seen_history h x p      of a read: what is seen, or what is absent
--     Sees h question result      of every read. A content may be any bytes of its length whose SHA-256 (FIPS 180-4) is its id
use Rattle.std.specs.Prelude.{◌≡◌, ℕ, ◌*◌, Bool, true, false, not, ◌&&◌, ◌||◌, ◌==◌, nat_lt, nat_le, zero, suc, ◌/◌, ◌%◌, ◌^◌, if◌then◌else◌, List, [], ◌∷◌, ◌++◌, length, take, drop, map, find, bytes_eq, Option, None, Some, option_map, ok_or, Result, Ok, Err, MatchOption, is_some, is_none}
use Rattle.std.specs.Result.{result_err}
use Rattle.std.specs.List.{list_any, list_all, concat}
use Rattle.std.specs.Option.{option_eq, option_to_list}
use Rattle.sha2.specs.Sha256.{sha256}
use Rattle.byte_fields.specs.Bytes.{Id, first_some, IsContent, are_bytes, is_bytes}
use Rattle.changeset_model.specs.Path.{Path}
use Rattle.changeset_model.specs.Version.{is_second}
use Rattle.changeset_model.specs.Changeset.{File, CopySource, Changeset, spelling, id_of, sets_of, copies_of, touched_paths, most_content}
use Rattle.changeset_model.specs.Decoding.{DecodeFault, decoded}
use Rattle.changeset_model.specs.Decoding as reading
use Rattle.history_model.specs.History.{Body, Content, Whole, Change, Book, Land, Policy, Entry, stored, is_down, Known, with_id, known, is_known, changeset_of, content_len, is_whole, holds_policy, policy_of, policy_at}
use Rattle.history_model.specs.Past.{past}
use Rattle.history_model.specs.Merge.{unresolved}
use Rattle.history_model.specs.Tree.{files_of, is_file, is_dir}
use Rattle.history_model.specs.Bookmark.{is_name, head}
use Rattle.history_model.specs.Pushrebase.{fork, clash, rewrite, moment_of}
use Rattle.history_model.specs.Journal.{Header, payload_len, most_payload, size, is_full}
use Rattle.policy_model.specs.Rules.{Denial, bookmark_place, policy_place}
use Rattle.policy_model.specs.Grammar.{parse}
use Rattle.policy_model.specs.Held.{denied_under}
use Rattle.manifest_model.specs.Fsnode.{fsnode, fsnode_bytes}
use Rattle.manifest_model.specs.Unode.{unode_bytes}
use Rattle.manifest_model.specs.Merged.{unode_at, history_of}
use Rattle.manifest_model.specs.Deleted.{has_deleted, deleted, deleted_bytes, path_log}

-- ---- changes

pub data Ask : Type 0 where
  PutContent : (bytes : List ℕ) → Ask
  -- the ids of contents, one after another, and the bytes that were read of them
  PutWhole : (body : List ℕ) (pieces : List (List ℕ)) → Ask
  PutChangeset : (bytes : List ℕ) → Ask
  SetBookmark : (caller name : List ℕ) (from to : Option Id) → Ask
  LandDraft : (caller name : List ℕ) (draft : Id) (moment : ℕ) → Ask
  SetPolicy : (caller text : List ℕ) → Ask

-- as many ids, of 32 bytes each
abbrev pub split_ids : ℕ → List ℕ → List Id
split_ids zero bytes = []
split_ids (suc n) bytes = take 32 bytes ∷ split_ids n (drop 32 bytes)

abbrev pub ids_in : List ℕ → List Id
ids_in body = split_ids (length body / 32) body

-- bytes of the digest and the length of the content with this id
abbrev pub is_piece : List Entry → Id → List ℕ → Bool
is_piece h x bytes = are_bytes bytes && bytes_eq (sha256 bytes) x && option_eq (λ n m. n == m) (content_len h x) (Some (length bytes))

abbrev pub are_pieces : List Entry → List Id → List (List ℕ) → Bool
are_pieces h [] [] = true
are_pieces h [] (piece ∷ pieces) = false
are_pieces h (x ∷ xs) [] = false
are_pieces h (x ∷ xs) (piece ∷ pieces) = is_piece h x piece && are_pieces h xs pieces

-- what may be asked at h: bytes, names that follow the rule, ids of 32 bytes, a moment of 64 bits, and pieces that were read of the contents
abbrev pub is_ask : List Entry → Ask → Bool
is_ask h (PutContent bytes) = are_bytes bytes
is_ask h (PutWhole body pieces) = are_bytes body && are_pieces h (ids_in body) pieces
is_ask h (PutChangeset bytes) = are_bytes bytes
is_ask h (SetBookmark caller name from to) = is_name caller && is_name name && list_all (is_bytes 32) (option_to_list from ++ option_to_list to)
is_ask h (LandDraft caller name draft moment) = is_name caller && is_name name && is_bytes 32 draft && nat_lt moment (2 ^ 64)
is_ask h (SetPolicy caller text) = is_name caller && are_bytes text

pub data Refusal : Type 0 where
  Down : Refusal
  TooLong : (length : ℕ) → Refusal
  BadEncoding : (at : ℕ) → Refusal
  SelfConflict : (short long : Path) → Refusal
  BadParts : (length : ℕ) → Refusal
  OldFormat : Refusal
  NoPiece : (id : Id) → Refusal
  NotAPiece : (id : Id) → Refusal
  NoParent : (id : Id) → Refusal
  NoContent : (path : Path) (id : Id) → Refusal
  WrongSize : (path : Path) (wanted found : ℕ) → Refusal
  Unresolved : (path : Path) → Refusal
  Collision : (id : Id) → Refusal
  NoChangeset : (id : Id) → Refusal
  Moved : (found : Option Id) → Refusal
  NoBookmark : Refusal
  NoRoot : Refusal
  TooFarBehind : (distance : ℕ) → Refusal
  AlreadyIn : Refusal
  StackTooLong : (count : ℕ) → Refusal
  MergeInStack : (id : Id) → Refusal
  MergeInRange : (id : Id) → Refusal
  -- the policy doesn't allow the caller this path, by the rule of this number, from 0, or as no rule speaks of it
  Denied : (path : Path) (rule : Option ℕ) → Refusal
  Clash : (left right : Path) → Refusal
  TooLarge : (length : ℕ) → Refusal
  -- the number of the first line, from 0, that breaks the grammar of a policy
  BadPolicy : (line : ℕ) → Refusal
  Full : (size length : ℕ) → Refusal

pub data Granted : Type 0 where
  ContentPut : (id : Id) → Granted
  WholePut : (id : Id) (size : ℕ) → Granted
  ChangesetPut : (id : Id) → Granted
  BookmarkSet : Granted
  -- the head before, and the ids of the new changesets
  Landed : (old : Id) (ids : List Id) → Granted
  -- the number of its entry in the log
  PolicySet : (number : ℕ) → Granted

-- what a change is granted, and the entry that it makes, if it makes one
pub record Judged : Type 0 where
  pub granted : Granted
  pub made : Option Body

infixl 10 ◌>>=◌
abbrev pub ◌>>=◌ : {A B E : Type 0} → Result A E → (A → Result B E) → Result B E
(Ok x) >>= f = f x
(Err e) >>= f = Err e

abbrev pub refuse_if : {E : Type 0} → Bool → E → Result (Unit {0}) E
refuse_if test e = if test then Err e else Ok tt

abbrev pub refuse_some : {X E : Type 0} → Option X → (X → E) → Result (Unit {0}) E
refuse_some None e = Ok tt
refuse_some (Some x) e = Err (e x)

-- it was so already
abbrev pub unchanged : Granted → Result Judged Refusal
unchanged granted = Ok (record { granted = granted; made = None })

-- the entry is made, if there is room for it
abbrev pub entered : Header → List Entry → Granted → Body → Result Judged Refusal
entered header h granted body = do
  _ ← refuse_if (is_full header h (payload_len body)) (Full (size h) (payload_len body))
  Ok (record { granted = granted; made = Some body })

abbrev pub put_content : Header → List Entry → List ℕ → Result Judged Refusal
put_content header h bytes = do
  _ ← refuse_if (nat_lt most_content (length bytes)) (TooLong (length bytes))
  if is_some (content_len h (sha256 bytes))
      then unchanged (ContentPut (sha256 bytes))
      else entered header h (ContentPut (sha256 bytes)) (Content (sha256 bytes) (length bytes))

abbrev pub most_parts : ℕ
most_parts = 64

-- one id or more, and no part of one
abbrev pub is_parts_len : ℕ → Bool
is_parts_len n = (n % 32 == 0) && nat_le 32 n && nat_le n (32 * most_parts)

-- the contents that are to be joined, which the refusals before they are read leave
abbrev pub parts_of : Header → List Entry → List ℕ → Result (List Id) Refusal
parts_of header h body = do
  _ ← refuse_if (not (is_parts_len (length body))) (BadParts (length body))
  _ ← refuse_if (not (is_second header.version)) OldFormat
  _ ← refuse_some (find (λ x. is_none (content_len h x)) (ids_in body)) NoPiece
  _ ← refuse_some (find (is_whole h) (ids_in body)) NotAPiece
  Ok (ids_in body)

abbrev pub put_whole : Header → List Entry → List ℕ → List (List ℕ) → Result Judged Refusal
put_whole header h body pieces = do
  parts ← parts_of header h body
  if is_some (content_len h (sha256 (concat pieces)))
      then unchanged (WholePut (sha256 (concat pieces)) (length (concat pieces)))
      else entered header h (WholePut (sha256 (concat pieces)) (length (concat pieces))) (Whole (sha256 (concat pieces)) (length (concat pieces)) parts)

abbrev pub upload_refusal : DecodeFault → Refusal
upload_refusal (reading.TooLong n) = TooLong n
upload_refusal (reading.BadEncoding at) = BadEncoding at
upload_refusal (reading.SelfConflict short long) = SelfConflict short long

abbrev pub accepted : Result Changeset DecodeFault → Result Changeset Refusal
accepted (Ok c) = Ok c
accepted (Err fault) = Err (upload_refusal fault)

-- what is wrong with the content that a set names
abbrev pub content_refusal : Path × File → Option ℕ → Option Refusal
content_refusal e None = Some (NoContent e.0 e.1.content)
content_refusal e (Some found) = if found == e.1.size then None else Some (WrongSize e.0 e.1.size found)

-- another changeset than this one is known by its id
abbrev pub collides : List Known → Changeset → Bool
collides ks c = list_any (λ k. bytes_eq k.id (id_of c) && not (bytes_eq (spelling k.changeset) (spelling c))) ks

-- where a merge leaves its parents' trees against one another
abbrev pub unresolved_of : List Known → Changeset → List Id → Option Path
unresolved_of ks c [] = None
unresolved_of ks c (p ∷ []) = None
unresolved_of ks c (p ∷ q ∷ ps) = unresolved c (files_of ks p) (files_of ks q)

abbrev pub put_changeset : Header → List Entry → List ℕ → Result Judged Refusal
put_changeset header h bytes = do
  c ← accepted (decoded bytes)
  _ ← refuse_some (find (λ p. not (is_known (known h) p)) c.parents) NoParent
  _ ← refuse_some (first_some (λ e. content_refusal e (content_len h e.1.content)) (sets_of c)) (λ refusal. refusal)
  _ ← refuse_some (unresolved_of (known h) c c.parents) Unresolved
  _ ← refuse_if (collides (known h) c) (Collision (id_of c))
  if is_known (known h) (id_of c)
      then unchanged (ChangesetPut (id_of c))
      else entered header h (ChangesetPut (id_of c)) (Change c)

-- an entry tells its caller where a policy is held
abbrev pub told : List Entry → List ℕ → Option (List ℕ)
told h caller = if holds_policy h then Some caller else None

abbrev pub denial : Denial → Refusal
denial d = Denied d.path d.rule

abbrev pub denied_at : List Entry → List ℕ → List Path → Option Denial
denied_at h caller ps = denied_under (policy_of h) caller ps

abbrev pub set_bookmark : Header → List Entry → List ℕ → List ℕ → Option Id → Option Id → Result Judged Refusal
set_bookmark header h caller name from to = do
  _ ← refuse_some (find (λ x. not (is_known (known h) x)) (option_to_list to)) NoChangeset
  _ ← refuse_if (not (option_eq bytes_eq (head h name) from)) (Moved (head h name))
  _ ← refuse_some (denied_at h caller (bookmark_place name ∷ [])) denial
  if option_eq bytes_eq from to then unchanged BookmarkSet else entered header h BookmarkSet (Book (record { name = name; from = from; to = to; caller = told h caller }))

-- the first of these that is, by its id, another changeset than one known or one before it
abbrev pub first_collision : List Known → List Changeset → Option Id
first_collision ks [] = None
first_collision ks (c ∷ cs) = if collides ks c then Some (id_of c) else first_collision (ks ++ with_id c ∷ []) cs

abbrev pub most_range : ℕ
most_range = 10_000

abbrev pub most_stack : ℕ
most_stack = 100

-- the landing of a rewritten stack
abbrev pub enter_landing : Header → List Entry → Option (List ℕ) → List ℕ → Id → Id → List Changeset → Option ℕ → Result Judged Refusal
enter_landing header h caller name old draft new moment =
    let body = Land (record { name = name; old = old; draft = draft; new = new; moment = moment; caller = caller }) in do
      _ ← refuse_if (nat_lt most_payload (payload_len body)) (TooLarge (payload_len body))
      _ ← refuse_some (first_collision (known h) new) Collision
      entered header h (Landed old (map id_of new)) body

abbrev pub is_merge : Changeset → Bool
is_merge c = nat_lt 1 (length c.parents)

abbrev pub land : Header → List Entry → List ℕ → List ℕ → Id → ℕ → Result Judged Refusal
land header h caller name draft moment = do
  old ← ok_or (head h name) NoBookmark
  _ ← refuse_if (not (is_known (known h) draft)) (NoChangeset draft)
  f ← ok_or (fork (known h) old draft) NoRoot
  _ ← refuse_if (nat_lt most_range (length f.range)) (TooFarBehind (length f.range))
  _ ← refuse_if (length f.stack == 0) AlreadyIn
  _ ← refuse_if (nat_lt most_stack (length f.stack)) (StackTooLong (length f.stack))
  _ ← refuse_some (option_map id_of (find is_merge f.stack)) MergeInStack
  _ ← refuse_some (option_map id_of (find is_merge f.range)) MergeInRange
  _ ← refuse_some (denied_at h caller (touched_paths f.stack)) denial
  _ ← refuse_some (clash (touched_paths f.stack) (touched_paths f.range)) (λ pair. Clash pair.0 pair.1)
  enter_landing header h (told h caller) name old draft (rewrite f.stack old moment) (moment_of f.stack moment)

-- the number of an entry is that of the stored entries before it
abbrev pub set_policy : Header → List Entry → List ℕ → List ℕ → Result Judged Refusal
set_policy header h caller text = do
  _ ← refuse_if (not (is_second header.version)) OldFormat
  _ ← refuse_some (result_err (parse text)) BadPolicy
  _ ← refuse_some (denied_at h caller (policy_place ∷ [])) denial
  entered header h (PolicySet (length (stored h))) (Policy caller text)

abbrev pub by_ask : Header → List Entry → Ask → Result Judged Refusal
by_ask header h (PutContent bytes) = put_content header h bytes
by_ask header h (PutWhole body pieces) = put_whole header h body pieces
by_ask header h (PutChangeset bytes) = put_changeset header h bytes
by_ask header h (SetBookmark caller name from to) = set_bookmark header h caller name from to
by_ask header h (LandDraft caller name draft moment) = land header h caller name draft moment
by_ask header h (SetPolicy caller text) = set_policy header h caller text

abbrev pub judge : Header → List Entry → Ask → Result Judged Refusal
judge header h ask = do
  _ ← refuse_if (is_down h) Down
  by_ask header h ask

-- ---- reads

pub data Question : Type 0 where
  HeadOf : (name : List ℕ) → Question
  ContentOf : (id : Id) → Question
  ChangesetOf : (id : Id) → Question
  LogFrom : (number : ℕ) → Question
  FsnodeOf : (id : Id) (dir : Path) → Question
  UnodeOf : (id : Id) (path : Path) → Question
  HistoryOf : (id : Id) (path : Path) → Question
  CopiesOf : (id : Id) → Question
  PathLogOf : (id : Id) (path : Path) → Question
  DeletedOf : (id : Id) (path : Path) → Question
  -- the last one, or the one that is the stored entry of this number, from 0
  PolicyOf : (number : Option ℕ) → Question

pub data Seen : Type 0 where
  SeenHead : Option Id → Seen
  SeenBytes : List ℕ → Seen
  -- a page of stored entries, and how many there are in all
  SeenLog : (page : List Entry) (total : ℕ) → Seen
  SeenIds : List Id → Seen
  -- the paths that a changeset sets as copies, by rising paths, each with what it was copied from
  SeenCopies : List (Path × CopySource) → Seen

pub data Absent : Type 0 where
  AbsentContent : (id : Id) → Absent
  AbsentChangeset : (id : Id) → Absent
  NoPath : Absent
  NotADir : Absent
  NotAFile : Absent
  NoPolicy : Absent

abbrev pub page_len : ℕ
page_len = 100

-- the changeset is known, and a file or a directory is at the path
abbrev pub present : List Known → Id → Path → Result (Unit {0}) Absent
present ks x p = do
  _ ← refuse_if (not (is_known ks x)) (AbsentChangeset x)
  refuse_if (not (is_file (files_of ks x) p || is_dir (files_of ks x) p)) NoPath

abbrev pub seen_changeset : List Entry → Id → Result Seen Absent
seen_changeset h x = do
  c ← ok_or (changeset_of (known h) x) (AbsentChangeset x)
  Ok (SeenBytes (spelling c))

abbrev pub seen_log : List Entry → ℕ → Seen
seen_log h n = SeenLog (take page_len (drop n (stored h))) (length (stored h))

abbrev pub seen_fsnode : List Entry → Id → Path → Result Seen Absent
seen_fsnode h x d = do
  _ ← present (known h) x d
  _ ← refuse_if (is_file (files_of (known h) x) d) NotADir
  Ok (SeenBytes (fsnode_bytes (fsnode (files_of (known h) x) d)))

abbrev pub seen_unode : List Entry → Id → Path → Result Seen Absent
seen_unode h x p = do
  _ ← present (known h) x p
  Ok (SeenBytes (unode_bytes (unode_at (past (known h) x) p)))

abbrev pub seen_history : List Entry → Id → Path → Result Seen Absent
seen_history h x p = do
  _ ← present (known h) x p
  _ ← refuse_if (is_dir (files_of (known h) x) p) NotAFile
  Ok (SeenIds (history_of (known h) x p))

abbrev pub seen_copies : List Entry → Id → Result Seen Absent
seen_copies h x = do
  c ← ok_or (changeset_of (known h) x) (AbsentChangeset x)
  Ok (SeenCopies (copies_of c))

abbrev pub seen_path_log : List Entry → Id → Path → Result Seen Absent
seen_path_log h x p = do
  _ ← refuse_if (not (is_known (known h) x)) (AbsentChangeset x)
  _ ← refuse_if (length (path_log (past (known h) x) p) == 0) NoPath
  Ok (SeenIds (path_log (past (known h) x) p))

abbrev pub seen_deleted : List Entry → Id → Path → Result Seen Absent
seen_deleted h x d = do
  _ ← refuse_if (not (is_known (known h) x)) (AbsentChangeset x)
  _ ← refuse_if (not (has_deleted (past (known h) x) d)) NoPath
  Ok (SeenBytes (deleted_bytes (deleted (past (known h) x) d)))

abbrev pub policy_asked : List Entry → Option ℕ → Option (List ℕ)
policy_asked h None = policy_of h
policy_asked h (Some number) = policy_at h number

abbrev pub seen_policy : List Entry → Option ℕ → Result Seen Absent
seen_policy h number = do
  text ← ok_or (policy_asked h number) NoPolicy
  Ok (SeenBytes text)

-- the history fixes each answer but a content's bytes
abbrev pub Sees : List Entry → Question → Result Seen Absent → Type 0
Sees h (HeadOf name) result = result ≡ Ok (SeenHead (head h name))
Sees h (ContentOf x) result =
    MatchOption (content_len h x) (result ≡ Err (AbsentContent x)) (λ n. (bytes : List ℕ) × (result ≡ Ok (SeenBytes bytes)) × IsContent x n bytes)
Sees h (ChangesetOf x) result = result ≡ seen_changeset h x
Sees h (LogFrom n) result = result ≡ Ok (seen_log h n)
Sees h (FsnodeOf x d) result = result ≡ seen_fsnode h x d
Sees h (UnodeOf x p) result = result ≡ seen_unode h x p
Sees h (HistoryOf x p) result = result ≡ seen_history h x p
Sees h (CopiesOf x) result = result ≡ seen_copies h x
Sees h (PathLogOf x p) result = result ≡ seen_path_log h x p
Sees h (DeletedOf x d) result = result ≡ seen_deleted h x d
Sees h (PolicyOf number) result = result ≡ seen_policy h number
