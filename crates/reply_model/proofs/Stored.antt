-- The stored entries of a history tell of it what the history tells, but for its faults.
use Rattle.std.proofs.Common.{◌≡◌, ℕ, ◌+◌, Bool, true, false, cond, not, List, [], ◌∷◌, ◌++◌, map, length, refl, sym, ap, subst, ◌∙◌}
use Rattle.std.specs.List.{list_any, concat}
use Rattle.changeset_model.specs.Version.{is_second}
use Rattle.std.specs.Prelude.{flat_map, ◌&&◌, option_map, is_none, Option, None, Some, Ok, ◌==◌, nat_lt, is_some, find, bytes_eq, ok_or, sum_by}
use mathlib.Core.Bool.{true≢false}
use Rattle.std.specs.Option.{option_or, option_flatten, option_eq, option_to_list}
use Rattle.std.proofs.lemmas.List.{map-append, append-nil}
use Rattle.sha2.specs.Sha256.{sha256}
use Rattle.byte_fields.specs.Bytes.{Id, first_some, last_some, are_bytes}
use Rattle.changeset_model.specs.Changeset.{Changeset, id_of, sets_of, touched_paths, most_content}
use Rattle.changeset_model.specs.Decoding.{decoded}
use Rattle.history_model.specs.History.{Body, Content, Whole, Change, Book, Land, Policy, Fault, Entry, with_id, each_id_once, is_stored, unnumbered, bodies, stored, is_down, changesets_in, known, is_known, length_in, content_len, is_whole_with, is_policy, policy_text, policy_of}
use Rattle.history_model.specs.Bookmark.{moved_to, head}
use Rattle.history_model.specs.Pushrebase.{fork, clash, rewrite, moment_of}
use Rattle.history_model.specs.Journal.{Header, record_len, payload_len, most_payload, size}
use Rattle.policy_model.specs.Rules.{bookmark_place, policy_place}
use Rattle.policy_model.specs.Grammar.{parse}
use Rattle.policy_model.specs.Held.{denied_under}
use Rattle.std.specs.Result.{result_err}
use Rattle.reply_model.specs.Reply.{Ask, PutContent, PutWhole, PutChangeset, SetBookmark, LandDraft, is_ask, are_pieces, ids_in, is_parts_len, BadParts, OldFormat, NoPiece, NotAPiece, parts_of, put_whole, WholePut, Down, TooLong, Full, NoParent, Unresolved, unresolved_of, MergeInStack, MergeInRange, is_merge, told, Collision, NoChangeset, Moved, NoBookmark, NoRoot, TooFarBehind, AlreadyIn, StackTooLong, Clash, TooLarge, Granted, ContentPut, ChangesetPut, BookmarkSet, Landed, Judged, ◌>>=◌, refuse_if, refuse_some, unchanged, entered, put_content, accepted, content_refusal, collides, put_changeset, set_bookmark, first_collision, most_range, most_stack, enter_landing, land, by_ask, judge, SetPolicy, denial, BadPolicy, PolicySet, set_policy}
use Rattle.reply_model.specs.Legal.{MayFollow, GoesOn, IsLegal}
use Rattle.reply_model.proofs.Histories.{bodies-append}
use Rattle.reply_model.proofs.Parents.{or_none}

-- ---- what is told of each entry

-- a fault tells nothing
abbrev TellsNothing : {X : Type 0} → X → (Body → X) → Type 0
TellsNothing none f = (breaking : Bool) → f (Fault breaking) ≡ none

flat_by : {X : Type 0} (f : Body → List X) → TellsNothing [] f → (b : Body) (h : List Entry) → flat_map (λ e. f e.body) (stored h) ≡ flat_map (λ e. f e.body) h → flat_map (λ e. f e.body) (map unnumbered (cond (is_stored b) (b ∷ bodies h) (bodies h))) ≡ f b ++ flat_map (λ e. f e.body) h
flat_by f none (Fault breaking) h ih = ih ∙ ap (λ xs. xs ++ flat_map (λ e. f e.body) h) (sym (none breaking))
flat_by f none b h ih = ap (λ xs. f b ++ xs) ih

flat_map-stored : {X : Type 0} (f : Body → List X) → TellsNothing [] f → (h : List Entry) → flat_map (λ e. f e.body) (stored h) ≡ flat_map (λ e. f e.body) h
flat_map-stored f none [] = refl
flat_map-stored f none (e ∷ h) = flat_by f none e.body h (flat_map-stored f none h)

first_by : {X : Type 0} (f : Body → Option X) → TellsNothing None f → (b : Body) (h : List Entry) → first_some (λ e. f e.body) (stored h) ≡ first_some (λ e. f e.body) h → first_some (λ e. f e.body) (map unnumbered (cond (is_stored b) (b ∷ bodies h) (bodies h))) ≡ option_or (f b) (first_some (λ e. f e.body) h)
first_by f none (Fault breaking) h ih = ih ∙ ap (λ o. option_or o (first_some (λ e. f e.body) h)) (sym (none breaking))
first_by f none b h ih = ap (λ o. option_or (f b) o) ih

first_some-stored : {X : Type 0} (f : Body → Option X) → TellsNothing None f → (h : List Entry) → first_some (λ e. f e.body) (stored h) ≡ first_some (λ e. f e.body) h
first_some-stored f none [] = refl
first_some-stored f none (e ∷ h) = first_by f none e.body h (first_some-stored f none h)

last_by : {X : Type 0} (f : Body → Option X) → TellsNothing None f → (b : Body) (h : List Entry) → last_some (λ e. f e.body) (stored h) ≡ last_some (λ e. f e.body) h → last_some (λ e. f e.body) (map unnumbered (cond (is_stored b) (b ∷ bodies h) (bodies h))) ≡ option_or (last_some (λ e. f e.body) h) (f b)
last_by f none (Fault breaking) h ih = ih ∙ or_none (last_some (λ e. f e.body) h) ∙ ap (λ o. option_or (last_some (λ e. f e.body) h) o) (sym (none breaking))
last_by f none b h ih = ap (λ o. option_or o (f b)) ih

last_some-stored : {X : Type 0} (f : Body → Option X) → TellsNothing None f → (h : List Entry) → last_some (λ e. f e.body) (stored h) ≡ last_some (λ e. f e.body) h
last_some-stored f none [] = refl
last_some-stored f none (e ∷ h) = last_by f none e.body h (last_some-stored f none h)

-- ---- what a call reads of a history

pub known-stored : (h : List Entry) → known (stored h) ≡ known h
known-stored h = ap (λ cs. each_id_once (map with_id cs)) (flat_map-stored changesets_in (λ breaking. refl) h)

pub content_len-stored : (h : List Entry) (x : Id) → content_len (stored h) x ≡ content_len h x
content_len-stored h x = first_some-stored (length_in x) (λ breaking. refl) h

pub head-stored : (h : List Entry) (name : List ℕ) → head (stored h) name ≡ head h name
head-stored h name = ap option_flatten (last_some-stored (moved_to name) (λ breaking. refl) h)

bodies_by : (b : Body) (h : List Entry) → bodies (stored h) ≡ bodies h → bodies (map unnumbered (cond (is_stored b) (b ∷ bodies h) (bodies h))) ≡ cond (is_stored b) (b ∷ bodies h) (bodies h)
bodies_by (Fault breaking) h ih = ih
bodies_by b h ih = ap (λ bs. b ∷ bs) ih

pub bodies-stored : (h : List Entry) → bodies (stored h) ≡ bodies h
bodies-stored [] = refl
bodies-stored (e ∷ h) = bodies_by e.body h (bodies-stored h)

pub size-stored : (h : List Entry) → size (stored h) ≡ size h
size-stored h = ap (λ bs. 17 + sum_by record_len bs) (bodies-stored h)

down_by : (b : Body) (h : List Entry) → is_down (stored h) ≡ false → is_down (map unnumbered (cond (is_stored b) (b ∷ bodies h) (bodies h))) ≡ false
down_by (Fault breaking) h ih = ih
down_by b h ih = ih

pub is_down-stored : (h : List Entry) → is_down (stored h) ≡ false
is_down-stored [] = refl
is_down-stored (e ∷ h) = down_by e.body h (is_down-stored h)

-- ---- what a change is granted

entered-stored : (header : Header) (h : List Entry) (granted : Granted) (body : Body) → entered header (stored h) granted body ≡ entered header h granted body
entered-stored header h granted body =
    ap (λ size. refuse_if (nat_lt header.capacity (size + 5 + payload_len body)) (Full size (payload_len body)) >>= λ _. Ok (record { granted = granted; made = Some body })) (size-stored h)

put_content-stored : (header : Header) (h : List Entry) (bytes : List ℕ) → put_content header (stored h) bytes ≡ put_content header h bytes
put_content-stored header h bytes =
    (λ i. refuse_if (nat_lt most_content (length bytes)) (TooLong (length bytes)) >>= λ _.
    cond (is_some (content_len-stored h (sha256 bytes) i)) (unchanged (ContentPut (sha256 bytes))) (entered-stored header h (ContentPut (sha256 bytes)) (Content (sha256 bytes) (length bytes)) i))

parts_of-stored : (header : Header) (h : List Entry) (body : List ℕ) → parts_of header (stored h) body ≡ parts_of header h body
parts_of-stored header h body =
    (λ i. refuse_if (not (is_parts_len (length body))) (BadParts (length body)) >>= λ _.
    refuse_if (not (is_second header.version)) OldFormat >>= λ _.
    refuse_some (find (λ x. is_none (content_len-stored h x i)) (ids_in body)) NoPiece >>= λ _.
    refuse_some (find (λ x. list_any (is_whole_with x) (bodies-stored h i)) (ids_in body)) NotAPiece >>= λ _.
    Ok (ids_in body))

put_whole-stored : (header : Header) (h : List Entry) (body : List ℕ) (pieces : List (List ℕ)) → put_whole header (stored h) body pieces ≡ put_whole header h body pieces
put_whole-stored header h body pieces =
    let x = sha256 (concat pieces) in
    let n = length (concat pieces) in
    (λ i. parts_of-stored header h body i >>= λ parts.
    cond (is_some (content_len-stored h x i)) (unchanged (WholePut x n)) (entered-stored header h (WholePut x n) (Whole x n parts) i))

told-stored : (h : List Entry) (caller : List ℕ) → told (stored h) caller ≡ told h caller
told-stored h caller = ap (λ bs. cond (list_any is_policy bs) (Some caller) None) (bodies-stored h)

policy_of-stored : (h : List Entry) → policy_of (stored h) ≡ policy_of h
policy_of-stored h = last_some-stored policy_text (λ breaking. refl) h

put_changeset-stored : (header : Header) (h : List Entry) (bytes : List ℕ) → put_changeset header (stored h) bytes ≡ put_changeset header h bytes
put_changeset-stored header h bytes =
    (λ i. accepted (decoded bytes) >>= λ c.
    refuse_some (find (λ p. not (is_known (known-stored h i) p)) c.parents) NoParent >>= λ _.
    refuse_some (first_some (λ e. content_refusal e (content_len-stored h e.1.content i)) (sets_of c)) (λ refusal. refusal) >>= λ _.
    refuse_some (unresolved_of (known-stored h i) c c.parents) Unresolved >>= λ _.
    refuse_if (collides (known-stored h i) c) (Collision (id_of c)) >>= λ _.
    cond (is_known (known-stored h i) (id_of c)) (unchanged (ChangesetPut (id_of c))) (entered-stored header h (ChangesetPut (id_of c)) (Change c) i))

set_bookmark-stored : (header : Header) (h : List Entry) (caller name : List ℕ) (from to : Option Id) → set_bookmark header (stored h) caller name from to ≡ set_bookmark header h caller name from to
set_bookmark-stored header h caller name from to =
    (λ i. refuse_some (find (λ x. not (is_known (known-stored h i) x)) (option_to_list to)) NoChangeset >>= λ _.
    refuse_if (not (option_eq bytes_eq (head-stored h name i) from)) (Moved (head-stored h name i)) >>= λ _.
    refuse_some (denied_under (policy_of-stored h i) caller (bookmark_place name ∷ [])) denial >>= λ _.
    cond (option_eq bytes_eq from to) (unchanged BookmarkSet) (entered-stored header h BookmarkSet (Book (record { name = name; from = from; to = to; caller = told-stored h caller i })) i))

enter_landing-stored : (header : Header) (h : List Entry) (caller : Option (List ℕ)) (name : List ℕ) (old draft : Id) (new : List Changeset) (moment : Option ℕ) → enter_landing header (stored h) caller name old draft new moment ≡ enter_landing header h caller name old draft new moment
enter_landing-stored header h caller name old draft new moment =
    let body : Body = Land (record { name = name; old = old; draft = draft; new = new; moment = moment; caller = caller }) in
    (λ i. refuse_if (nat_lt most_payload (payload_len body)) (TooLarge (payload_len body)) >>= λ _.
    refuse_some (first_collision (known-stored h i) new) Collision >>= λ _.
    entered-stored header h (Landed old (map id_of new)) body i)

land-stored : (header : Header) (h : List Entry) (caller name : List ℕ) (draft : Id) (moment : ℕ) → land header (stored h) caller name draft moment ≡ land header h caller name draft moment
land-stored header h caller name draft moment =
    (λ i. ok_or (head-stored h name i) NoBookmark >>= λ old.
    refuse_if (not (is_known (known-stored h i) draft)) (NoChangeset draft) >>= λ _.
    ok_or (fork (known-stored h i) old draft) NoRoot >>= λ f.
    refuse_if (nat_lt most_range (length f.range)) (TooFarBehind (length f.range)) >>= λ _.
    refuse_if (length f.stack == 0) AlreadyIn >>= λ _.
    refuse_if (nat_lt most_stack (length f.stack)) (StackTooLong (length f.stack)) >>= λ _.
    refuse_some (option_map id_of (find is_merge f.stack)) MergeInStack >>= λ _.
    refuse_some (option_map id_of (find is_merge f.range)) MergeInRange >>= λ _.
    refuse_some (denied_under (policy_of-stored h i) caller (touched_paths f.stack)) denial >>= λ _.
    refuse_some (clash (touched_paths f.stack) (touched_paths f.range)) (λ pair. Clash pair.0 pair.1) >>= λ _.
    enter_landing-stored header h (told-stored h caller i) name old draft (rewrite f.stack old moment) (moment_of f.stack moment) i)

stored-stored : (h : List Entry) → stored (stored h) ≡ stored h
stored-stored h = ap (map unnumbered) (bodies-stored h)

set_policy-stored : (header : Header) (h : List Entry) (caller text : List ℕ) → set_policy header (stored h) caller text ≡ set_policy header h caller text
set_policy-stored header h caller text =
    (λ i. refuse_if (not (is_second header.version)) OldFormat >>= λ _.
    refuse_some (result_err (parse text)) BadPolicy >>= λ _.
    refuse_some (denied_under (policy_of-stored h i) caller (policy_place ∷ [])) denial >>= λ _.
    entered-stored header h (PolicySet (length (stored-stored h i))) (Policy caller text) i)

by_ask-stored : (header : Header) (h : List Entry) (ask : Ask) → by_ask header (stored h) ask ≡ by_ask header h ask
by_ask-stored header h (PutContent bytes) = put_content-stored header h bytes
by_ask-stored header h (PutWhole body pieces) = put_whole-stored header h body pieces
by_ask-stored header h (PutChangeset bytes) = put_changeset-stored header h bytes
by_ask-stored header h (SetBookmark caller name from to) = set_bookmark-stored header h caller name from to
by_ask-stored header h (LandDraft caller name draft moment) = land-stored header h caller name draft moment
by_ask-stored header h (SetPolicy caller text) = set_policy-stored header h caller text

-- what a history without a breaking fault grants, its stored entries grant
pub judge-stored : (header : Header) (h : List Entry) (ask : Ask) → is_down h ≡ false → judge header (stored h) ask ≡ judge header h ask
judge-stored header h ask up = (λ i. refuse_if ((is_down-stored h ∙ sym up) i) Down >>= λ _. by_ask-stored header h ask i)

are_pieces-stored : (h : List Entry) (xs : List Id) (pieces : List (List ℕ)) → are_pieces (stored h) xs pieces ≡ are_pieces h xs pieces
are_pieces-stored h [] [] = refl
are_pieces-stored h [] (piece ∷ pieces) = refl
are_pieces-stored h (x ∷ xs) [] = refl
are_pieces-stored h (x ∷ xs) (piece ∷ pieces) = (λ i. (are_bytes piece && bytes_eq (sha256 piece) x && option_eq (λ n m. n == m) (content_len-stored h x i) (Some (length piece))) && are_pieces-stored h xs pieces i)

pub is_ask-stored : (h : List Entry) (ask : Ask) → is_ask (stored h) ask ≡ is_ask h ask
is_ask-stored h (PutContent bytes) = refl
is_ask-stored h (PutWhole body pieces) = ap (λ b. are_bytes body && b) (are_pieces-stored h (ids_in body) pieces)
is_ask-stored h (PutChangeset bytes) = refl
is_ask-stored h (SetBookmark caller name from to) = refl
is_ask-stored h (LandDraft caller name draft moment) = refl
is_ask-stored h (SetPolicy caller text) = refl

-- ---- legality

up_where_granted : (header : Header) (h : List Entry) (ask : Ask) (judged : Judged) (b : Bool) → is_down h ≡ b → (refuse_if b Down >>= λ _. by_ask header h ask) ≡ Ok judged → is_down h ≡ false
up_where_granted header h ask judged true e granted = absurd cc
up_where_granted header h ask judged false e granted = e

-- a change is granted only where no breaking fault is held
pub granted_is_up : (header : Header) (h : List Entry) (ask : Ask) (judged : Judged) → judge header h ask ≡ Ok judged → is_down h ≡ false
granted_is_up header h ask judged granted = up_where_granted header h ask judged (is_down h) refl granted

pub follows_stored : (header : Header) (h : List Entry) (body : Body) → is_stored body ≡ true → MayFollow header h body → MayFollow header (stored h) body
follows_stored header h (Fault breaking) s m = absurd (true≢false (sym s))
follows_stored header h (Content x n) s m = (m.0, m.1, is_ask-stored h m.0 ∙ m.2, judge-stored header h m.0 (granted_is_up header h m.0 _ m.3) ∙ m.3)
follows_stored header h (Whole x n parts) s m = (m.0, m.1, is_ask-stored h m.0 ∙ m.2, judge-stored header h m.0 (granted_is_up header h m.0 _ m.3) ∙ m.3)
follows_stored header h (Policy caller text) s m = (m.0, m.1, is_ask-stored h m.0 ∙ m.2, judge-stored header h m.0 (granted_is_up header h m.0 _ m.3) ∙ m.3)
follows_stored header h (Change c) s m = (m.0, m.1, is_ask-stored h m.0 ∙ m.2, judge-stored header h m.0 (granted_is_up header h m.0 _ m.3) ∙ m.3)
follows_stored header h (Book move) s m = (m.0, m.1, is_ask-stored h m.0 ∙ m.2, judge-stored header h m.0 (granted_is_up header h m.0 _ m.3) ∙ m.3)
follows_stored header h (Land landing) s m = (m.0, m.1, is_ask-stored h m.0 ∙ m.2, judge-stored header h m.0 (granted_is_up header h m.0 _ m.3) ∙ m.3)

pub stored-push : (before : List Entry) (e : Entry) → stored (before ++ e ∷ []) ≡ stored before ++ map unnumbered (cond (is_stored e.body) (e.body ∷ []) [])
stored-push before e = ap (map unnumbered) (bodies-append before (e ∷ [])) ∙ map-append unnumbered (bodies before) (bodies (e ∷ []))

goes_by : (header : Header) (before later : List Entry) (b : Body) → MayFollow header before b → GoesOn header (stored before ++ map unnumbered (cond (is_stored b) (b ∷ []) [])) (stored later) → GoesOn header (stored before) (map unnumbered (cond (is_stored b) (b ∷ bodies later) (bodies later)))
goes_by header before later (Fault breaking) m rest = subst (λ h. GoesOn header h (stored later)) (append-nil (stored before)) rest
goes_by header before later (Content x n) m rest = (follows_stored header before (Content x n) refl m, rest)
goes_by header before later (Whole x n parts) m rest = (follows_stored header before (Whole x n parts) refl m, rest)
goes_by header before later (Policy caller text) m rest = (follows_stored header before (Policy caller text) refl m, rest)
goes_by header before later (Change c) m rest = (follows_stored header before (Change c) refl m, rest)
goes_by header before later (Book move) m rest = (follows_stored header before (Book move) refl m, rest)
goes_by header before later (Land landing) m rest = (follows_stored header before (Land landing) refl m, rest)

goes_stored : (header : Header) (before h : List Entry) → GoesOn header before h → GoesOn header (stored before) (stored h)
goes_stored header before [] g = tt
goes_stored header before (e ∷ later) g =
    goes_by header before later e.body g.0 (subst (λ h. GoesOn header h (stored later)) (stored-push before e) (goes_stored header (before ++ e ∷ []) later g.1))

-- the stored entries of a legal history are a legal history
pub IsLegal-stored : (header : Header) (h : List Entry) → IsLegal header h → IsLegal header (stored h)
IsLegal-stored header h legal = goes_stored header [] h legal
