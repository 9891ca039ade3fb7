-- A change is granted what it asks for.
use Rattle.std.proofs.Common.{◌≡◌, ◌≤◌, ℕ, true, false, Bool, cond, List, [], ◌∷◌, map, length, refl, sym, subst, arith}
use Rattle.std.specs.Prelude.{Option, Some, Result, Ok, Err, is_some, find, bytes_eq, nat_lt, ok_or, ◌==◌, not, option_map}
use Rattle.std.specs.Option.{option_eq, option_to_list}
use Rattle.std.specs.Result.{result_err}
use Rattle.std.specs.List.{concat}
use Rattle.std.proofs.lemmas.Bool.{ltb-false}
use Rattle.std.proofs.lemmas.List.{length-map}
use Rattle.sha2.specs.Sha256.{sha256}
use Rattle.byte_fields.specs.Bytes.{Id, first_some}
use Rattle.changeset_model.specs.Changeset.{Changeset, id_of, sets_of, touched_paths}
use Rattle.changeset_model.specs.Decoding.{decoded}
use Rattle.history_model.specs.History.{Body, Content, Whole, Change, Book, Land, Policy, Entry, stored, is_down, known, is_known, content_len}
use Rattle.changeset_model.specs.Version.{is_second}
use Rattle.history_model.specs.Bookmark.{head}
use Rattle.history_model.specs.Pushrebase.{fork, clash, rewrite, on_parent, moment_of}
use Rattle.history_model.specs.Journal.{Header, payload_len, most_payload, size, is_full}
use Rattle.policy_model.specs.Rules.{bookmark_place, policy_place}
use Rattle.policy_model.specs.Grammar.{parse}
use Rattle.reply_model.specs.Reply.{Down, NoParent, Unresolved, unresolved_of, MergeInStack, MergeInRange, is_merge, told, denial, denied_at, OldFormat, BadPolicy, parts_of, content_refusal, collides, Collision, NoChangeset, Moved, TooLarge, first_collision, NoBookmark, NoRoot, TooFarBehind, AlreadyIn, StackTooLong, Clash, most_range, most_stack, Ask, PutContent, PutWhole, PutChangeset, SetBookmark, LandDraft, SetPolicy, Refusal, Granted, ContentPut, WholePut, ChangesetPut, BookmarkSet, Landed, PolicySet, Judged, ◌>>=◌, Full, refuse_if, refuse_some, unchanged, entered, put_content, put_whole, accepted, put_changeset, set_bookmark, enter_landing, land, set_policy, by_ask, judge}
use Rattle.repo_calls.specs.Replying.{GrantKind, ContentGrant, WholeGrant, ChangesetGrant, BookmarkGrant, LandingGrant, PolicyGrant, grant_for, IsGrant}

abbrev GrantIn : GrantKind → Result Judged Refusal → Type 0
GrantIn kind (Ok judged) = IsGrant kind judged.granted
GrantIn kind (Err refusal) = Unit {0}

record Granting (kind : GrantKind) (r : Result Judged Refusal) : Type 0 where
  each : GrantIn kind r

through : {A : Type 0} (kind : GrantKind) (r : Result A Refusal) (f : A → Result Judged Refusal) → ((x : A) → r ≡ Ok x → Granting kind (f x)) → Granting kind (r >>= f)
through kind (Ok x) f all = all x refl
through kind (Err e) f all = record { each = tt }

one : (kind : GrantKind) (granted : Granted) → IsGrant kind granted → Granting kind (unchanged granted)
one kind granted fits = record { each = fits }

entering : (header : Header) (h : List Entry) (kind : GrantKind) (granted : Granted) (body : Body) → IsGrant kind granted → Granting kind (entered header h granted body)
entering header h kind granted body fits =
    through kind (refuse_if (is_full header h (payload_len body)) (Full (size h) (payload_len body))) (λ _. Ok (record { granted = granted; made = Some body })) (λ _ _. record { each = fits })

either : (kind : GrantKind) (b : Bool) (x y : Result Judged Refusal) → Granting kind x → Granting kind y → Granting kind (cond b x y)
either kind true x y p q = p
either kind false x y p q = q

content_fits : (header : Header) (h : List Entry) (bytes : List ℕ) → Granting ContentGrant (put_content header h bytes)
content_fits header h bytes =
    through ContentGrant _ (λ _. cond (is_some (content_len h (sha256 bytes))) (unchanged (ContentPut (sha256 bytes))) (entered header h (ContentPut (sha256 bytes)) (Content (sha256 bytes) (length bytes))))
    (λ _ _. either ContentGrant (is_some (content_len h (sha256 bytes))) _ _ (one _ (ContentPut (sha256 bytes)) tt) (entering header h ContentGrant (ContentPut (sha256 bytes)) (Content (sha256 bytes) (length bytes)) tt))

whole_fits : (header : Header) (h : List Entry) (body : List ℕ) (pieces : List (List ℕ)) → Granting WholeGrant (put_whole header h body pieces)
whole_fits header h body pieces =
    let x : Id = sha256 (concat pieces) in
    let n : ℕ = length (concat pieces) in
    through WholeGrant (parts_of header h body) _ (λ parts _.
    either WholeGrant (is_some (content_len h x)) _ _ (one _ (WholePut x n) tt) (entering header h WholeGrant (WholePut x n) (Whole x n parts) tt))

changeset_fits : (header : Header) (h : List Entry) (bytes : List ℕ) → Granting ChangesetGrant (put_changeset header h bytes)
changeset_fits header h bytes =
    let kind : GrantKind = ChangesetGrant in
    through kind (accepted (decoded bytes)) _ (λ c _.
    through kind (refuse_some (find (λ p. not (is_known (known h) p)) c.parents) NoParent) _ (λ _ _.
    through kind (refuse_some (first_some (λ e. content_refusal e (content_len h e.1.content)) (sets_of c)) (λ refusal. refusal)) _ (λ _ _.
    through kind (refuse_some (unresolved_of (known h) c c.parents) Unresolved) _ (λ _ _.
    through kind (refuse_if (collides (known h) c) (Collision (id_of c))) _ (λ _ _.
    either kind (is_known (known h) (id_of c)) _ _ (one kind (ChangesetPut (id_of c)) tt) (entering header h kind (ChangesetPut (id_of c)) (Change c) tt))))))

bookmark_fits : (header : Header) (h : List Entry) (caller name : List ℕ) (from to : Option Id) → Granting BookmarkGrant (set_bookmark header h caller name from to)
bookmark_fits header h caller name from to =
    let kind : GrantKind = BookmarkGrant in
    through kind (refuse_some (find (λ x. not (is_known (known h) x)) (option_to_list to)) NoChangeset) _ (λ _ _.
    through kind (refuse_if (not (option_eq bytes_eq (head h name) from)) (Moved (head h name))) _ (λ _ _.
    through kind (refuse_some (denied_at h caller (bookmark_place name ∷ [])) denial) _ (λ _ _.
    either kind (option_eq bytes_eq from to) _ _ (one kind BookmarkSet tt) (entering header h kind BookmarkSet (Book (record { name = name; from = from; to = to; caller = told h caller })) tt))))

policy_fits : (header : Header) (h : List Entry) (caller text : List ℕ) → Granting PolicyGrant (set_policy header h caller text)
policy_fits header h caller text =
    let kind : GrantKind = PolicyGrant in
    through kind (refuse_if (not (is_second header.version)) OldFormat) _ (λ _ _.
    through kind (refuse_some (result_err (parse text)) BadPolicy) _ (λ _ _.
    through kind (refuse_some (denied_at h caller (policy_place ∷ [])) denial) _ (λ _ _.
    entering header h kind (PolicySet (length (stored h))) (Policy caller text) tt)))

pub length-rewrite : (stack : List Changeset) (head : Id) (moment : ℕ) → length (rewrite stack head moment) ≡ length stack
length-rewrite [] head moment = refl
length-rewrite (c ∷ cs) head moment = let rest = length-rewrite cs (id_of (on_parent head moment c)) moment in omega arith

passed : (b : Bool) (e : Refusal) (x : Unit {0}) → refuse_if b e ≡ Ok x → b ≡ false
passed true e x same = absurd cc
passed false e x same = refl

landing_fits : (header : Header) (h : List Entry) (caller : Option (List ℕ)) (name : List ℕ) (old draft : Id) (new : List Changeset) (moment : Option ℕ) → length new ≤ most_stack → Granting LandingGrant (enter_landing header h caller name old draft new moment)
landing_fits header h caller name old draft new moment few =
    let kind : GrantKind = LandingGrant in
    let body : Body = Land (record { name = name; old = old; draft = draft; new = new; moment = moment; caller = caller }) in
    let ids : length (map id_of new) ≤ most_stack = subst (λ n. n ≤ most_stack) (sym (length-map new id_of)) few in
    through kind (refuse_if (nat_lt most_payload (payload_len body)) (TooLarge (payload_len body))) _ (λ _ _.
    through kind (refuse_some (first_collision (known h) new) Collision) _ (λ _ _.
    entering header h kind (Landed old (map id_of new)) body ids))

land_fits : (header : Header) (h : List Entry) (caller name : List ℕ) (draft : Id) (moment : ℕ) → Granting LandingGrant (land header h caller name draft moment)
land_fits header h caller name draft moment =
    let kind : GrantKind = LandingGrant in
    through kind (ok_or (head h name) NoBookmark) _ (λ old _.
    through kind (refuse_if (not (is_known (known h) draft)) (NoChangeset draft)) _ (λ _ _.
    through kind (ok_or (fork (known h) old draft) NoRoot) _ (λ f _.
    through kind (refuse_if (nat_lt most_range (length f.range)) (TooFarBehind (length f.range))) _ (λ _ _.
    through kind (refuse_if (length f.stack == 0) AlreadyIn) _ (λ _ _.
    through kind (refuse_if (nat_lt most_stack (length f.stack)) (StackTooLong (length f.stack))) _ (λ x e.
    through kind (refuse_some (option_map id_of (find is_merge f.stack)) MergeInStack) _ (λ _ _.
    through kind (refuse_some (option_map id_of (find is_merge f.range)) MergeInRange) _ (λ _ _.
    through kind (refuse_some (denied_at h caller (touched_paths f.stack)) denial) _ (λ _ _.
    through kind (refuse_some (clash (touched_paths f.stack) (touched_paths f.range)) (λ pair. Clash pair.0 pair.1)) _ (λ _ _.
    let few : length f.stack ≤ most_stack = ltb-false most_stack (length f.stack) (passed (nat_lt most_stack (length f.stack)) (StackTooLong (length f.stack)) x e) in
    landing_fits header h (told h caller) name old draft (rewrite f.stack old moment) (moment_of f.stack moment) (subst (λ n. n ≤ most_stack) (sym (length-rewrite f.stack old moment)) few)))))))))))

ask_fits : (header : Header) (h : List Entry) (ask : Ask) → Granting (grant_for ask) (by_ask header h ask)
ask_fits header h (PutContent bytes) = content_fits header h bytes
ask_fits header h (PutWhole body pieces) = whole_fits header h body pieces
ask_fits header h (PutChangeset bytes) = changeset_fits header h bytes
ask_fits header h (SetBookmark caller name from to) = bookmark_fits header h caller name from to
ask_fits header h (LandDraft caller name draft moment) = land_fits header h caller name draft moment
ask_fits header h (SetPolicy caller text) = policy_fits header h caller text

pub judged_fits : (header : Header) (h : List Entry) (ask : Ask) (granted : Granted) (made : Option Body) → judge header h ask ≡ Ok (record { granted = granted; made = made }) → IsGrant (grant_for ask) granted
judged_fits header h ask granted made e = subst (GrantIn (grant_for ask)) e (through (grant_for ask) (refuse_if (is_down h) Down) _ (λ _ _. ask_fits header h ask)).each
