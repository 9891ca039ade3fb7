-- What a change is granted, and the entry that it makes.
use Rattle.std.proofs.Common.{◌≡◌, ◌≢◌, ◌<◌, ℕ, true, false, Bool, cond, List, [], ◌∷◌, map, length, refl, subst, arith}
use Rattle.std.specs.Prelude.{Option, None, Some, option_map, Result, Ok, Err, is_some, find, bytes_eq, nat_lt, ok_or, ◌==◌, not}
use Rattle.std.specs.List.{concat}
use Rattle.std.specs.Option.{option_eq, option_to_list}
use Rattle.std.specs.Result.{result_err}
use Rattle.std.proofs.lemmas.Bool.{eqb-false}
use Rattle.sha2.specs.Sha256.{sha256}
use Rattle.byte_fields.specs.Bytes.{Id, first_some}
use Rattle.changeset_model.specs.Changeset.{Changeset, id_of, sets_of, touched_paths}
use Rattle.changeset_model.specs.Decoding.{decoded}
use Rattle.changeset_model.specs.Version.{is_second}
use Rattle.history_model.specs.History.{Body, Content, Whole, Change, Book, Land, Policy, Fault, Entry, stored, is_down, known, is_known, content_len}
use Rattle.history_model.specs.Bookmark.{head}
use Rattle.history_model.specs.Pushrebase.{fork, clash, rewrite, moment_of}
use Rattle.history_model.specs.Journal.{Header, payload_len, most_payload, size, is_full}
use Rattle.policy_model.specs.Grammar.{parse}
use Rattle.policy_model.specs.Rules.{bookmark_place, policy_place}
use Rattle.reply_model.specs.Reply.{denial, denied_at, parts_of, OldFormat, BadPolicy, WholePut, PolicySet, SetPolicy, put_whole, set_policy, told, is_merge, unresolved_of, Down, NoParent, Unresolved, MergeInStack, MergeInRange, content_refusal, collides, Collision, NoChangeset, Moved, TooLarge, first_collision, NoBookmark, NoRoot, TooFarBehind, AlreadyIn, StackTooLong, Clash, most_range, most_stack, Ask, PutContent, PutWhole, PutChangeset, SetBookmark, LandDraft, Refusal, Granted, ContentPut, ChangesetPut, BookmarkSet, Landed, Judged, ◌>>=◌, Full, refuse_if, refuse_some, unchanged, entered, put_content, accepted, put_changeset, set_bookmark, enter_landing, land, by_ask, judge}
use Rattle.run_gen.specs.Calls.{heads_in, landings_in}
use Rattle.run_gen.specs.Grants.{FitsAsk}
use Rattle.opening_laws.proofs.Made.{not_refused as passed}

-- no bookmark has no head after it that had one before it
abbrev pub KeepsHead : Body → Type 0
KeepsHead (Content x n) = Unit {0}
KeepsHead (Whole x n parts) = Unit {0}
KeepsHead (Change c) = Unit {0}
KeepsHead (Book move) = ⊥
KeepsHead (Land landing) = 0 < length landing.new
KeepsHead (Policy caller text) = Unit {0}
KeepsHead (Fault breaking) = Unit {0}

abbrev pub KeptBy : Option Body → Type 0
KeptBy None = Unit {0}
KeptBy (Some body) = KeepsHead body

abbrev pub KeptIn : Ask → Option Body → Type 0
KeptIn (PutContent bytes) made = KeptBy made
KeptIn (PutWhole body pieces) made = KeptBy made
KeptIn (PutChangeset bytes) made = KeptBy made
KeptIn (SetBookmark caller name from to) made = Unit {0}
KeptIn (LandDraft caller name draft moment) made = KeptBy made
KeptIn (SetPolicy caller text) made = KeptBy made

pub record Suits (ask : Ask) (granted : Granted) (made : Option Body) : Type 0 where
  pub landings : landings_in (option_to_list made) ≡ length (heads_in granted)
  pub kept : KeptIn ask made
  pub fits : FitsAsk ask granted

abbrev SuitsIn : Ask → Result Judged Refusal → Type 0
SuitsIn ask (Ok judged) = Suits ask judged.granted judged.made
SuitsIn ask (Err refusal) = Unit {0}

record Granting (ask : Ask) (r : Result Judged Refusal) : Type 0 where
  each : SuitsIn ask r

through : {A : Type 0} (ask : Ask) (r : Result A Refusal) (f : A → Result Judged Refusal) → ((x : A) → r ≡ Ok x → Granting ask (f x)) → Granting ask (r >>= f)
through ask (Ok x) f all = all x refl
through ask (Err e) f all = record { each = tt }

one : (ask : Ask) (granted : Granted) → Suits ask granted None → Granting ask (unchanged granted)
one ask granted suits = record { each = suits }

entering : (header : Header) (h : List Entry) (ask : Ask) (granted : Granted) (body : Body) → Suits ask granted (Some body) → Granting ask (entered header h granted body)
entering header h ask granted body suits =
    through ask (refuse_if (is_full header h (payload_len body)) (Full (size h) (payload_len body))) (λ _. Ok (record { granted = granted; made = Some body })) (λ _ _. record { each = suits })

either : (ask : Ask) (b : Bool) (x y : Result Judged Refusal) → Granting ask x → Granting ask y → Granting ask (cond b x y)
either ask true x y p q = p
either ask false x y p q = q

content_suits : (header : Header) (h : List Entry) (bytes : List ℕ) → Granting (PutContent bytes) (put_content header h bytes)
content_suits header h bytes =
    let ask : Ask = PutContent bytes in
    let granted : Granted = ContentPut (sha256 bytes) in
    let body : Body = Content (sha256 bytes) (length bytes) in
    through ask _ (λ _. cond (is_some (content_len h (sha256 bytes))) (unchanged granted) (entered header h granted body))
    (λ _ _. either ask (is_some (content_len h (sha256 bytes))) _ _ (one ask granted (record { landings = refl; kept = tt; fits = refl })) (entering header h ask granted body (record { landings = refl; kept = tt; fits = refl })))

whole_suits : (header : Header) (h : List Entry) (body : List ℕ) (pieces : List (List ℕ)) → Granting (PutWhole body pieces) (put_whole header h body pieces)
whole_suits header h body pieces =
    let ask : Ask = PutWhole body pieces in
    let x : Id = sha256 (concat pieces) in
    let n : ℕ = length (concat pieces) in
    through ask (parts_of header h body) _ (λ parts _.
    either ask (is_some (content_len h x)) _ _ (one ask (WholePut x n) (record { landings = refl; kept = tt; fits = refl }))
    (entering header h ask (WholePut x n) (Whole x n parts) (record { landings = refl; kept = tt; fits = refl })))

changeset_suits : (header : Header) (h : List Entry) (bytes : List ℕ) → Granting (PutChangeset bytes) (put_changeset header h bytes)
changeset_suits header h bytes =
    let ask : Ask = PutChangeset bytes in
    through ask (accepted (decoded bytes)) _ (λ c _.
    through ask (refuse_some (find (λ p. not (is_known (known h) p)) c.parents) NoParent) _ (λ _ _.
    through ask (refuse_some (first_some (λ e. content_refusal e (content_len h e.1.content)) (sets_of c)) (λ refusal. refusal)) _ (λ _ _.
    through ask (refuse_some (unresolved_of (known h) c c.parents) Unresolved) _ (λ _ _.
    through ask (refuse_if (collides (known h) c) (Collision (id_of c))) _ (λ _ _.
    either ask (is_known (known h) (id_of c)) _ _ (one ask (ChangesetPut (id_of c)) (record { landings = refl; kept = tt; fits = refl }))
    (entering header h ask (ChangesetPut (id_of c)) (Change c) (record { landings = refl; kept = tt; fits = refl })))))))

bookmark_suits : (header : Header) (h : List Entry) (caller name : List ℕ) (from to : Option Id) → Granting (SetBookmark caller name from to) (set_bookmark header h caller name from to)
bookmark_suits header h caller name from to =
    let ask : Ask = SetBookmark caller name from to in
    through ask (refuse_some (find (λ x. not (is_known (known h) x)) (option_to_list to)) NoChangeset) _ (λ _ _.
    through ask (refuse_if (not (option_eq bytes_eq (head h name) from)) (Moved (head h name))) _ (λ _ _.
    through ask (refuse_some (denied_at h caller (bookmark_place name ∷ [])) denial) _ (λ _ _.
    either ask (option_eq bytes_eq from to) _ _ (one ask BookmarkSet (record { landings = refl; kept = tt; fits = refl }))
    (entering header h ask BookmarkSet (Book (record { name = name; from = from; to = to; caller = told h caller })) (record { landings = refl; kept = tt; fits = refl })))))

policy_suits : (header : Header) (h : List Entry) (caller text : List ℕ) → Granting (SetPolicy caller text) (set_policy header h caller text)
policy_suits header h caller text =
    let ask : Ask = SetPolicy caller text in
    through ask (refuse_if (not (is_second header.version)) OldFormat) _ (λ _ _.
    through ask (refuse_some (result_err (parse text)) BadPolicy) _ (λ _ _.
    through ask (refuse_some (denied_at h caller (policy_place ∷ [])) denial) _ (λ _ _.
    entering header h ask (PolicySet (length (stored h))) (Policy caller text) (record { landings = refl; kept = tt; fits = refl }))))

some_rewritten : (stack : List Changeset) (head : Id) (moment : ℕ) → length stack ≢ 0 → 0 < length (rewrite stack head moment)
some_rewritten [] head moment some = absurd (some refl)
some_rewritten (c ∷ cs) head moment some = omega arith

landing_suits : (header : Header) (h : List Entry) (caller name : List ℕ) (told_as : Option (List ℕ)) (old draft : Id) (new : List Changeset) (moment : ℕ) (dated : Option ℕ) → 0 < length new → Granting (LandDraft caller name draft moment) (enter_landing header h told_as name old draft new dated)
landing_suits header h caller name told_as old draft new moment dated some =
    let ask : Ask = LandDraft caller name draft moment in
    let body : Body = Land (record { name = name; old = old; draft = draft; new = new; moment = dated; caller = told_as }) in
    through ask (refuse_if (nat_lt most_payload (payload_len body)) (TooLarge (payload_len body))) _ (λ _ _.
    through ask (refuse_some (first_collision (known h) new) Collision) _ (λ _ _.
    entering header h ask (Landed old (map id_of new)) body (record { landings = refl; kept = some; fits = tt })))

land_suits : (header : Header) (h : List Entry) (caller name : List ℕ) (draft : Id) (moment : ℕ) → Granting (LandDraft caller name draft moment) (land header h caller name draft moment)
land_suits header h caller name draft moment =
    let ask : Ask = LandDraft caller name draft moment in
    through ask (ok_or (head h name) NoBookmark) _ (λ old _.
    through ask (refuse_if (not (is_known (known h) draft)) (NoChangeset draft)) _ (λ _ _.
    through ask (ok_or (fork (known h) old draft) NoRoot) _ (λ f _.
    through ask (refuse_if (nat_lt most_range (length f.range)) (TooFarBehind (length f.range))) _ (λ _ _.
    through ask (refuse_if (length f.stack == 0) AlreadyIn) _ (λ x e.
    through ask (refuse_if (nat_lt most_stack (length f.stack)) (StackTooLong (length f.stack))) _ (λ _ _.
    through ask (refuse_some (option_map id_of (find is_merge f.stack)) MergeInStack) _ (λ _ _.
    through ask (refuse_some (option_map id_of (find is_merge f.range)) MergeInRange) _ (λ _ _.
    through ask (refuse_some (denied_at h caller (touched_paths f.stack)) denial) _ (λ _ _.
    through ask (refuse_some (clash (touched_paths f.stack) (touched_paths f.range)) (λ pair. Clash pair.0 pair.1)) _ (λ _ _.
    landing_suits header h caller name (told h caller) old draft (rewrite f.stack old moment) moment (moment_of f.stack moment) (some_rewritten f.stack old moment (eqb-false (length f.stack) 0 (passed (length f.stack == 0) AlreadyIn x e)))))))))))))

asked_suits : (header : Header) (h : List Entry) (ask : Ask) → Granting ask (by_ask header h ask)
asked_suits header h (PutContent bytes) = content_suits header h bytes
asked_suits header h (PutWhole body pieces) = whole_suits header h body pieces
asked_suits header h (PutChangeset bytes) = changeset_suits header h bytes
asked_suits header h (SetBookmark caller name from to) = bookmark_suits header h caller name from to
asked_suits header h (LandDraft caller name draft moment) = land_suits header h caller name draft moment
asked_suits header h (SetPolicy caller text) = policy_suits header h caller text

judging : (header : Header) (h : List Entry) (ask : Ask) → Granting ask (judge header h ask)
judging header h ask = through ask (refuse_if (is_down h) Down) (λ _. by_ask header h ask) (λ _ _. asked_suits header h ask)

pub judged_suits : (header : Header) (h : List Entry) (ask : Ask) (granted : Granted) (made : Option Body) → judge header h ask ≡ Ok (record { granted = granted; made = made }) → Suits ask granted made
judged_suits header h ask granted made is = subst (SuitsIn ask) is (judging header h ask).each
