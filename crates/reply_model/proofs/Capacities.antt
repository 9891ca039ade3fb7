-- The capacity matters in one refusal alone.
use Rattle.std.proofs.Common.{◌≡◌, ◌⊎◌, ℕ, Bool, true, false, cond, List, [], ◌∷◌, map, length, inl, inr, refl}
use Rattle.std.specs.Prelude.{Option, Some, Result, Ok, Err, is_some, find, bytes_eq, nat_lt, ok_or, ◌==◌, not, option_map}
use Rattle.std.specs.List.{concat}
use Rattle.std.specs.Option.{option_eq, option_to_list}
use Rattle.std.specs.Result.{result_err}
use Rattle.sha2.specs.Sha256.{sha256}
use Rattle.byte_fields.specs.Bytes.{Id, first_some}
use Rattle.changeset_model.specs.Version.{Version, is_second}
use Rattle.changeset_model.specs.Changeset.{Changeset, id_of, sets_of, touched_paths, most_content}
use Rattle.changeset_model.specs.Decoding.{decoded}
use Rattle.history_model.specs.History.{Body, Content, Whole, Change, Book, Land, Policy, Entry, is_down, stored, known, is_known, content_len}
use Rattle.history_model.specs.Bookmark.{head}
use Rattle.history_model.specs.Pushrebase.{fork, clash, rewrite, moment_of}
use Rattle.history_model.specs.Journal.{Header, payload_len, most_payload, size, is_full}
use Rattle.policy_model.specs.Rules.{bookmark_place, policy_place}
use Rattle.policy_model.specs.Grammar.{parse}
use Rattle.reply_model.specs.Reply.{Ask, PutContent, PutWhole, PutChangeset, SetBookmark, LandDraft, SetPolicy, Refusal, Down, TooLong, OldFormat, NoParent, content_refusal, Unresolved, unresolved_of, collides, Collision, NoChangeset, Moved, NoBookmark, NoRoot, TooFarBehind, AlreadyIn, StackTooLong, MergeInStack, MergeInRange, is_merge, Clash, TooLarge, BadPolicy, Full, Granted, ContentPut, WholePut, ChangesetPut, BookmarkSet, Landed, PolicySet, Judged, ◌>>=◌, refuse_if, refuse_some, entered, accepted, parts_of, told, denial, denied_at, first_collision, most_range, most_stack, by_ask, judge}

-- refused as there is no room for what it would enter
abbrev pub WasFull : List Entry → Result Judged Refusal → Type 0
WasFull h r = (len : ℕ) × (r ≡ Err (Full (size h) len))

record Alike (h : List Entry) (r s : Result Judged Refusal) : Type 0 where
  either : (r ≡ s) ⊎ (WasFull h r ⊎ WasFull h s)

same : (h : List Entry) (r : Result Judged Refusal) → Alike h r r
same h r = record { either = inl refl }

through : {A : Type 0} (h : List Entry) (r : Result A Refusal) (f g : A → Result Judged Refusal) → ((x : A) → Alike h (f x) (g x)) → Alike h (r >>= f) (r >>= g)
through h (Ok x) f g each = each x
through h (Err e) f g each = record { either = inl refl }

choose : (h : List Entry) (b : Bool) (x y z : Result Judged Refusal) → Alike h y z → Alike h (cond b x y) (cond b x z)
choose h true x y z a = same h x
choose h false x y z a = a

module _ (capacity other : ℕ) (version : Version) (h : List Entry) where
  abbrev here : Header
  here = record { capacity = capacity; version = version }

  abbrev there : Header
  there = record { capacity = other; version = version }

  enters : (granted : Granted) (body : Body) → Alike h (entered here h granted body) (entered there h granted body)
  enters granted body = by (is_full here h (payload_len body)) (is_full there h (payload_len body))
    where
      by : (a b : Bool) → Alike h (refuse_if a (Full (size h) (payload_len body)) >>= λ _. Ok (record { granted = granted; made = Some body })) (refuse_if b (Full (size h) (payload_len body)) >>= λ _. Ok (record { granted = granted; made = Some body }))
      by true b = record { either = inr (inl (payload_len body, refl)) }
      by false true = record { either = inr (inr (payload_len body, refl)) }
      by false false = record { either = inl refl }

  asks_alike : (ask : Ask) → Alike h (by_ask here h ask) (by_ask there h ask)
  asks_alike (PutContent bytes) =
      through h (refuse_if (nat_lt most_content (length bytes)) (TooLong (length bytes))) _ _ (λ _.
      choose h (is_some (content_len h (sha256 bytes))) _ _ _ (enters (ContentPut (sha256 bytes)) (Content (sha256 bytes) (length bytes))))
  asks_alike (PutWhole body pieces) =
      let x = sha256 (concat pieces) in
      let n = length (concat pieces) in
      through h (parts_of here h body) _ _ (λ parts.
      choose h (is_some (content_len h x)) _ _ _ (enters (WholePut x n) (Whole x n parts)))
  asks_alike (PutChangeset bytes) =
      through h (accepted (decoded bytes)) _ _ (λ c.
      through h (refuse_some (find (λ p. not (is_known (known h) p)) c.parents) NoParent) _ _ (λ _.
      through h (refuse_some (first_some (λ e. content_refusal e (content_len h e.1.content)) (sets_of c)) (λ refusal. refusal)) _ _ (λ _.
      through h (refuse_some (unresolved_of (known h) c c.parents) Unresolved) _ _ (λ _.
      through h (refuse_if (collides (known h) c) (Collision (id_of c))) _ _ (λ _.
      choose h (is_known (known h) (id_of c)) _ _ _ (enters (ChangesetPut (id_of c)) (Change c)))))))
  asks_alike (SetBookmark caller name from to) =
      through h (refuse_some (find (λ x. not (is_known (known h) x)) (option_to_list to)) NoChangeset) _ _ (λ _.
      through h (refuse_if (not (option_eq bytes_eq (head h name) from)) (Moved (head h name))) _ _ (λ _.
      through h (refuse_some (denied_at h caller (bookmark_place name ∷ [])) denial) _ _ (λ _.
      choose h (option_eq bytes_eq from to) _ _ _ (enters BookmarkSet (Book (record { name = name; from = from; to = to; caller = told h caller }))))))
  asks_alike (LandDraft caller name draft moment) =
      through h (ok_or (head h name) NoBookmark) _ _ (λ old.
      through h (refuse_if (not (is_known (known h) draft)) (NoChangeset draft)) _ _ (λ _.
      through h (ok_or (fork (known h) old draft) NoRoot) _ _ (λ f.
      through h (refuse_if (nat_lt most_range (length f.range)) (TooFarBehind (length f.range))) _ _ (λ _.
      through h (refuse_if (length f.stack == 0) AlreadyIn) _ _ (λ _.
      through h (refuse_if (nat_lt most_stack (length f.stack)) (StackTooLong (length f.stack))) _ _ (λ _.
      through h (refuse_some (option_map id_of (find is_merge f.stack)) MergeInStack) _ _ (λ _.
      through h (refuse_some (option_map id_of (find is_merge f.range)) MergeInRange) _ _ (λ _.
      through h (refuse_some (denied_at h caller (touched_paths f.stack)) denial) _ _ (λ _.
      through h (refuse_some (clash (touched_paths f.stack) (touched_paths f.range)) (λ pair. Clash pair.0 pair.1)) _ _ (λ _.
      through h (refuse_if (nat_lt most_payload (payload_len (landed old (rewrite f.stack old moment) (moment_of f.stack moment)))) (TooLarge (payload_len (landed old (rewrite f.stack old moment) (moment_of f.stack moment))))) _ _ (λ _.
      through h (refuse_some (first_collision (known h) (rewrite f.stack old moment)) Collision) _ _ (λ _.
      enters (Landed old (map id_of (rewrite f.stack old moment))) (landed old (rewrite f.stack old moment) (moment_of f.stack moment))))))))))))))
    where
      landed : Id → List Changeset → Option ℕ → Body
      landed old new at = Land (record { name = name; old = old; draft = draft; new = new; moment = at; caller = told h caller })
  asks_alike (SetPolicy caller text) =
      through h (refuse_if (not (is_second version)) OldFormat) _ _ (λ _.
      through h (refuse_some (result_err (parse text)) BadPolicy) _ _ (λ _.
      through h (refuse_some (denied_at h caller (policy_place ∷ [])) denial) _ _ (λ _.
      enters (PolicySet (length (stored h))) (Policy caller text))))

pub judged_alike : (capacity other : ℕ) (version : Version) (h : List Entry) (ask : Ask) → (judge (record { capacity = capacity; version = version }) h ask ≡ judge (record { capacity = other; version = version }) h ask)
    ⊎ (WasFull h (judge (record { capacity = capacity; version = version }) h ask) ⊎ WasFull h (judge (record { capacity = other; version = version }) h ask))
judged_alike capacity other version h ask = (through h (refuse_if (is_down h) Down) _ _ (λ _. asks_alike capacity other version h ask)).either
