-- What a change makes is a stored entry, which may follow.
use Rattle.std.proofs.Common.{◌≡◌, ℕ, Bool, true, false, cond, List, [], ◌∷◌, map, length, refl, sym, ap, subst}
use Rattle.std.specs.Prelude.{Option, Some, Result, Ok, Err, is_some, find, bytes_eq, nat_lt, ok_or, ◌==◌, not, option_map, unwrap_or}
use mathlib.Core.Bool.{true≢false}
use Rattle.std.specs.List.{concat}
use Rattle.std.specs.Option.{option_eq, option_to_list}
use Rattle.sha2.specs.Sha256.{sha256}
use Rattle.byte_fields.specs.Bytes.{Id, first_some}
use Rattle.changeset_model.specs.Changeset.{Changeset, id_of, sets_of, touched_paths}
use Rattle.changeset_model.specs.Decoding.{decoded}
use Rattle.history_model.specs.History.{Body, Content, Whole, Change, Book, Land, Policy, Fault, Entry, is_stored, is_down, known, is_known, content_len, stored}
use Rattle.history_model.specs.Bookmark.{head}
use Rattle.history_model.specs.Pushrebase.{fork, clash, rewrite, moment_of}
use Rattle.history_model.specs.Journal.{Header, payload_len, most_payload, size, is_full}
use Rattle.policy_model.specs.Rules.{bookmark_place, policy_place}
use Rattle.policy_model.specs.Grammar.{parse}
use Rattle.std.specs.Result.{result_err}
use Rattle.changeset_model.specs.Version.{is_second}
use Rattle.reply_model.specs.Reply.{is_ask, Down, OldFormat, NoParent, Unresolved, unresolved_of, MergeInStack, MergeInRange, is_merge, told, parts_of, put_whole, WholePut, PutWhole, content_refusal, collides, Collision, NoChangeset, Moved, TooLarge, first_collision, NoBookmark, NoRoot, TooFarBehind, AlreadyIn, StackTooLong, Clash, most_range, most_stack, Ask, PutContent, PutChangeset, SetBookmark, LandDraft, Refusal, Granted, ContentPut, ChangesetPut, BookmarkSet, Landed, Judged, ◌>>=◌, Full, refuse_if, refuse_some, unchanged, entered, put_content, accepted, put_changeset, set_bookmark, enter_landing, land, by_ask, judge, SetPolicy, denial, denied_at, BadPolicy, PolicySet, set_policy}
use Rattle.reply_model.specs.Legal.{MayFollow}

abbrev pub MakesStored : Result Judged Refusal → Type 0
MakesStored (Ok judged) = (body : Body) → judged.made ≡ Some body → is_stored body ≡ true
MakesStored (Err refusal) = Unit {0}

record Stores (r : Result Judged Refusal) : Type 0 where
  each : MakesStored r

through : {A : Type 0} (r : Result A Refusal) (f : A → Result Judged Refusal) → ((x : A) → Stores (f x)) → Stores (r >>= f)
through (Ok x) f all = all x
through (Err e) f all = record { each = tt }

none_made : (granted : Granted) → Stores (unchanged granted)
none_made granted = record { each = λ body e. absurd cc }

entered_stored : (header : Header) (h : List Entry) (granted : Granted) (body : Body) → is_stored body ≡ true → Stores (entered header h granted body)
entered_stored header h granted body s =
    through (refuse_if (is_full header h (payload_len body)) (Full (size h) (payload_len body))) (λ _. Ok (record { granted = granted; made = Some body }))
    (λ _. record { each = λ other e. subst (λ b. is_stored b ≡ true) (ap (λ o. unwrap_or o body) e) s })

either : (b : Bool) (x y : Result Judged Refusal) → Stores x → Stores y → Stores (cond b x y)
either true x y p q = p
either false x y p q = q

put_content_stored : (header : Header) (h : List Entry) (bytes : List ℕ) → Stores (put_content header h bytes)
put_content_stored header h bytes =
    through _ (λ _. cond (is_some (content_len h (sha256 bytes))) (unchanged (ContentPut (sha256 bytes))) (entered header h (ContentPut (sha256 bytes)) (Content (sha256 bytes) (length bytes))))
    (λ _. either (is_some (content_len h (sha256 bytes))) _ _ (none_made (ContentPut (sha256 bytes))) (entered_stored header h (ContentPut (sha256 bytes)) (Content (sha256 bytes) (length bytes)) refl))

put_changeset_stored : (header : Header) (h : List Entry) (bytes : List ℕ) → Stores (put_changeset header h bytes)
put_changeset_stored header h bytes =
    through (accepted (decoded bytes)) _ (λ c.
    through (refuse_some (find (λ p. not (is_known (known h) p)) c.parents) NoParent) _ (λ _.
    through (refuse_some (first_some (λ e. content_refusal e (content_len h e.1.content)) (sets_of c)) (λ refusal. refusal)) _ (λ _.
    through (refuse_some (unresolved_of (known h) c c.parents) Unresolved) _ (λ _.
    through (refuse_if (collides (known h) c) (Collision (id_of c))) _ (λ _.
    either (is_known (known h) (id_of c)) _ _ (none_made (ChangesetPut (id_of c))) (entered_stored header h (ChangesetPut (id_of c)) (Change c) refl))))))

put_whole_stored : (header : Header) (h : List Entry) (body : List ℕ) (pieces : List (List ℕ)) → Stores (put_whole header h body pieces)
put_whole_stored header h body pieces =
    let x = sha256 (concat pieces) in
    let n = length (concat pieces) in
    through (parts_of header h body) _ (λ parts.
    either (is_some (content_len h x)) _ _ (none_made (WholePut x n)) (entered_stored header h (WholePut x n) (Whole x n parts) refl))

set_bookmark_stored : (header : Header) (h : List Entry) (caller name : List ℕ) (from to : Option Id) → Stores (set_bookmark header h caller name from to)
set_bookmark_stored header h caller name from to =
    through (refuse_some (find (λ x. not (is_known (known h) x)) (option_to_list to)) NoChangeset) _ (λ _.
    through (refuse_if (not (option_eq bytes_eq (head h name) from)) (Moved (head h name))) _ (λ _.
    through (refuse_some (denied_at h caller (bookmark_place name ∷ [])) denial) _ (λ _.
    either (option_eq bytes_eq from to) _ _ (none_made BookmarkSet) (entered_stored header h BookmarkSet (Book (record { name = name; from = from; to = to; caller = told h caller })) refl))))

enter_landing_stored : (header : Header) (h : List Entry) (caller : Option (List ℕ)) (name : List ℕ) (old draft : Id) (new : List Changeset) (moment : Option ℕ) → Stores (enter_landing header h caller name old draft new moment)
enter_landing_stored header h caller name old draft new moment =
    let body : Body = Land (record { name = name; old = old; draft = draft; new = new; moment = moment; caller = caller }) in
    through (refuse_if (nat_lt most_payload (payload_len body)) (TooLarge (payload_len body))) _ (λ _.
    through (refuse_some (first_collision (known h) new) Collision) _ (λ _.
    entered_stored header h (Landed old (map id_of new)) body refl))

land_stored : (header : Header) (h : List Entry) (caller name : List ℕ) (draft : Id) (moment : ℕ) → Stores (land header h caller name draft moment)
land_stored header h caller name draft moment =
    through (ok_or (head h name) NoBookmark) _ (λ old.
    through (refuse_if (not (is_known (known h) draft)) (NoChangeset draft)) _ (λ _.
    through (ok_or (fork (known h) old draft) NoRoot) _ (λ f.
    through (refuse_if (nat_lt most_range (length f.range)) (TooFarBehind (length f.range))) _ (λ _.
    through (refuse_if (length f.stack == 0) AlreadyIn) _ (λ _.
    through (refuse_if (nat_lt most_stack (length f.stack)) (StackTooLong (length f.stack))) _ (λ _.
    through (refuse_some (option_map id_of (find is_merge f.stack)) MergeInStack) _ (λ _.
    through (refuse_some (option_map id_of (find is_merge f.range)) MergeInRange) _ (λ _.
    through (refuse_some (denied_at h caller (touched_paths f.stack)) denial) _ (λ _.
    through (refuse_some (clash (touched_paths f.stack) (touched_paths f.range)) (λ pair. Clash pair.0 pair.1)) _ (λ _.
    enter_landing_stored header h (told h caller) name old draft (rewrite f.stack old moment) (moment_of f.stack moment)))))))))))

set_policy_stored : (header : Header) (h : List Entry) (caller text : List ℕ) → Stores (set_policy header h caller text)
set_policy_stored header h caller text =
    through (refuse_if (not (is_second header.version)) OldFormat) _ (λ _.
    through (refuse_some (result_err (parse text)) BadPolicy) _ (λ _.
    through (refuse_some (denied_at h caller (policy_place ∷ [])) denial) _ (λ _.
    entered_stored header h (PolicySet (length (stored h))) (Policy caller text) refl)))

by_ask_stored : (header : Header) (h : List Entry) (ask : Ask) → Stores (by_ask header h ask)
by_ask_stored header h (PutContent bytes) = put_content_stored header h bytes
by_ask_stored header h (PutWhole body pieces) = put_whole_stored header h body pieces
by_ask_stored header h (PutChangeset bytes) = put_changeset_stored header h bytes
by_ask_stored header h (SetBookmark caller name from to) = set_bookmark_stored header h caller name from to
by_ask_stored header h (LandDraft caller name draft moment) = land_stored header h caller name draft moment
by_ask_stored header h (SetPolicy caller text) = set_policy_stored header h caller text

pub judge_stored : (header : Header) (h : List Entry) (ask : Ask) → MakesStored (judge header h ask)
judge_stored header h ask = (through (refuse_if (is_down h) Down) _ (λ _. by_ask_stored header h ask)).each

pub follows_granted : (header : Header) (h : List Entry) (ask : Ask) (granted : Granted) (body : Body) → is_ask h ask ≡ true → is_stored body ≡ true → judge header h ask ≡ Ok (record { granted = granted; made = Some body }) → MayFollow header h body
follows_granted header h ask granted (Fault breaking) a s e = absurd (true≢false (sym s))
follows_granted header h ask granted (Content x n) a s e = (ask, granted, a, e)
follows_granted header h ask granted (Whole x n parts) a s e = (ask, granted, a, e)
follows_granted header h ask granted (Policy caller text) a s e = (ask, granted, a, e)
follows_granted header h ask granted (Change c) a s e = (ask, granted, a, e)
follows_granted header h ask granted (Book move) a s e = (ask, granted, a, e)
follows_granted header h ask granted (Land landing) a s e = (ask, granted, a, e)
