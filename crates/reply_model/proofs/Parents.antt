-- In a legal history each parent is known before its child, and each bookmark stands at a known changeset.
use Rattle.std.proofs.Common.{◌≡◌, ℕ, Bool, true, false, cond, not, ◌||◌, List, [], ◌∷◌, ◌++◌, map, length, reverse, refl, sym, ap, subst, ◌∙◌}
use Rattle.std.specs.Prelude.{Option, Some, None, IfSome, Result, Ok, Err, filter, flat_map, find, bytes_eq, option_map, unwrap_or, nat_lt, is_some, ok_or, ◌==◌}
use mathlib.Core.Bool.{true≢false}
use mathlib.Core.List.{reverse-cons}
use Rattle.std.specs.Option.{option_or, option_flatten, option_eq, option_to_list}
use Rattle.std.proofs.lemmas.List.{append_assoc, append-nil, map-append, reverse-append}
use Rattle.std.proofs.lemmas.List.Folds.{list_any-append}
use Rattle.std.proofs.lemmas.Slice.Eq.{bytes_eq-Decides}
use Rattle.sha2.specs.Sha256.{sha256}
use Rattle.byte_fields.specs.Bytes.{Id, first_some, last_of, last_some}
use Rattle.changeset_model.specs.Changeset.{Changeset, id_of, sets_of, touched_paths, most_content}
use Rattle.changeset_model.specs.Decoding.{decoded}
use Rattle.history_model.specs.History.{Body, Content, Whole, Change, Book, Land, Policy, Fault, Entry, Known, with_id, each_id_once, is_down, changesets_in, known, is_known, content_len, stored}
use Rattle.history_model.specs.Chain.{HasParents, IsChain, chain}
use Rattle.std.specs.List.{AllByRecursion, last_or, concat}
use Rattle.byte_fields.proofs.Lists.{weaker}
use Rattle.history_model.proofs.Chains.{chain_is_right}
use Rattle.std.proofs.lemmas.Grind.{flat_map-append}
use Rattle.history_model.specs.Bookmark.{moved_to, head}
use Rattle.history_model.specs.Pushrebase.{Fork, fork, clash, on_parent, rewrite, moment_of}
use Rattle.history_model.specs.Journal.{Header, payload_len, most_payload, size, is_full}
use Rattle.policy_model.specs.Rules.{bookmark_place, policy_place}
use Rattle.policy_model.specs.Grammar.{parse}
use Rattle.std.specs.Result.{result_err}
use Rattle.changeset_model.specs.Version.{is_second}
use Rattle.reply_model.specs.Reply.{Ask, PutContent, PutWhole, PutChangeset, SetBookmark, LandDraft, Refusal, Down, TooLong, Full, NoParent, Unresolved, unresolved_of, MergeInStack, MergeInRange, is_merge, told, parts_of, WholePut, Collision, NoChangeset, Moved, NoBookmark, NoRoot, TooFarBehind, AlreadyIn, StackTooLong, Clash, TooLarge, Granted, ContentPut, ChangesetPut, BookmarkSet, Landed, Judged, ◌>>=◌, refuse_if, refuse_some, unchanged, entered, accepted, content_refusal, collides, first_collision, most_range, most_stack, by_ask, judge, SetPolicy, denial, denied_at, OldFormat, BadPolicy, PolicySet}
use Rattle.reply_model.specs.Legal.{MayFollow, GoesOn, IsLegal}
use Rattle.byte_fields.proofs.Booleans.{not_false as not_not, or_turned as or_swap, same_some as some_same}
use Rattle.byte_fields.proofs.Lists.{option_or-assoc as or_assoc}
use Rattle.history_model.proofs.Landings.{or_left, or_true as or_right}
use Rattle.manifest_model.proofs.Derivations.{or_case}

-- ---- known ids

pub known_left : (ks js : List Known) (x : Id) → is_known ks x ≡ true → is_known (ks ++ js) x ≡ true
known_left ks js x h = list_any-append (λ k. bytes_eq k.id x) ks js ∙ or_left (is_known ks x) (is_known js x) h

pub known_right : (ks js : List Known) (x : Id) → is_known js x ≡ true → is_known (ks ++ js) x ≡ true
known_right ks js x h = list_any-append (λ k. bytes_eq k.id x) ks js ∙ or_right (is_known ks x) (is_known js x) h

-- of a list with one more
pub known_push : {P : Type 0} (ks : List Known) (k : Known) (x : Id) → (is_known ks x ≡ true → P) → (k.id ≡ x → P) → is_known (ks ++ k ∷ []) x ≡ true → P
known_push ks k x f g h =
    or_case (is_known ks x) (bytes_eq k.id x || false) f
    (λ e. or_case (bytes_eq k.id x) false (λ s. g ((bytes_eq-Decides k.id x).0 s)) (λ n. absurd (true≢false (sym n))) e)
    (sym (list_any-append (λ k. bytes_eq k.id x) ks (k ∷ [])) ∙ h)

pub same_id : (x : Id) → bytes_eq x x ≡ true
same_id x = (bytes_eq-Decides x x).1 refl

pub known_last : (ks : List Known) (k : Known) → is_known (ks ++ k ∷ []) k.id ≡ true
known_last ks k = known_right ks (k ∷ []) k.id (or_left (bytes_eq k.id k.id) false (same_id k.id))

-- ---- parents first

-- after these, the parent of each is known before it
abbrev pub ParentsFirst : List Known → List Known → Type 0
ParentsFirst before [] = Unit {0}
ParentsFirst before (k ∷ ks) = AllByRecursion (λ p. is_known before p ≡ true) k.changeset.parents × ParentsFirst (before ++ k ∷ []) ks

pub if_some : (o : Option Id) (P Q : Id → Type 0) → ((x : Id) → P x → Q x) → IfSome o P → IfSome o Q
if_some None P Q f h = tt
if_some (Some x) P Q f h = f x h

more_known : (a b : List Known) → ((x : Id) → is_known a x ≡ true → is_known b x ≡ true) → (ks : List Known) → ParentsFirst a ks → ParentsFirst b ks
more_known a b f [] h = tt
more_known a b f (k ∷ ks) h = (
  weaker _ _ f k.changeset.parents h.0,
  more_known (a ++ k ∷ []) (b ++ k ∷ []) (λ x e. known_push a k x (λ g. known_left b (k ∷ []) x (f x g)) (λ s. subst (λ y. is_known (b ++ k ∷ []) y ≡ true) s (known_last b k)) e) ks h.1,
)

parents_append : (before ks js : List Known) → ParentsFirst before ks → ParentsFirst (before ++ ks) js → ParentsFirst before (ks ++ js)
parents_append before [] js h g = subst (λ b. ParentsFirst b js) (append-nil before) g
parents_append before (k ∷ ks) js h g = (h.0, parents_append (before ++ k ∷ []) ks js h.1 (subst (λ b. ParentsFirst b js) (sym (append_assoc before (k ∷ []) ks)) g))

-- without some whose ids are known before
filter_by : (q : Known → Bool) (before : List Known) (k : Known) (ks : List Known) → (q k ≡ false → is_known before k.id ≡ true) → AllByRecursion (λ p. is_known before p ≡ true) k.changeset.parents → ParentsFirst (before ++ k ∷ []) (filter q ks) → (b : Bool) → q k ≡ b → ParentsFirst before (cond b (k ∷ filter q ks) (filter q ks))
filter_by q before k ks there parent rest true e = (parent, rest)
filter_by q before k ks there parent rest false e =
    more_known (before ++ k ∷ []) before (λ x h. known_push before k x (λ g. g) (λ s. subst (λ y. is_known before y ≡ true) s (there e)) h) (filter q ks) rest

filter_parents : (q : Known → Bool) (before : List Known) (ks : List Known) → ((k : Known) → q k ≡ false → is_known before k.id ≡ true) → ParentsFirst before ks → ParentsFirst before (filter q ks)
filter_parents q before [] there h = tt
filter_parents q before (k ∷ ks) there h =
    filter_by q before k ks (there k) h.0 (filter_parents q (before ++ k ∷ []) ks (λ j e. known_left before (k ∷ []) j.id (there j e)) h.1) (q k) refl

each_parents : (before ks : List Known) → ParentsFirst before ks → ParentsFirst before (each_id_once ks)
each_parents before [] h = tt
each_parents before (k ∷ ks) h = (
  h.0,
  filter_parents (λ later. not (bytes_eq k.id later.id)) (before ++ k ∷ []) (each_id_once ks)
      (λ j e. subst (λ y. is_known (before ++ k ∷ []) y ≡ true) ((bytes_eq-Decides k.id j.id).0 (not_not (bytes_eq k.id j.id) e)) (known_last before k))
      (each_parents (before ++ k ∷ []) ks h.1),
)

pub known_reverse : (ks : List Known) (x : Id) → is_known (reverse ks) x ≡ is_known ks x
known_reverse [] x = refl
known_reverse (k ∷ ks) x =
    ap (λ js. is_known js x) (reverse-cons k ks) ∙ list_any-append (λ k. bytes_eq k.id x) (reverse ks) (k ∷ [])
    ∙ or_swap (is_known (reverse ks) x) (bytes_eq k.id x) ∙ ap (λ b. bytes_eq k.id x || b) (known_reverse ks x)

has_parents : (before ks : List Known) → HasParents (reverse before) → ParentsFirst before ks → HasParents (reverse (before ++ ks))
has_parents before [] h g = subst (λ js. HasParents (reverse js)) (sym (append-nil before)) h
has_parents before (k ∷ ks) h g =
    let one : HasParents (reverse (before ++ k ∷ [])) = subst HasParents (sym (reverse-append before (k ∷ []))) (weaker (λ p. is_known before p ≡ true) (λ p. is_known (reverse before) p ≡ true) (λ p e. known_reverse before p ∙ e) k.changeset.parents g.0, h) in
    subst (λ js. HasParents (reverse js)) (append_assoc before (k ∷ []) ks) (has_parents (before ++ k ∷ []) ks one g.1)

-- ---- what a change makes

-- the ids that an entry builds on are known
abbrev pub Fact : List Known → Body → Type 0
Fact ks (Content x n) = Unit {0}
Fact ks (Whole x n parts) = Unit {0}
Fact ks (Policy caller text) = Unit {0}
Fact ks (Change c) = AllByRecursion (λ p. is_known ks p ≡ true) c.parents
Fact ks (Book move) = IfSome move.to (λ x. is_known ks x ≡ true)
Fact ks (Land landing) = (is_known ks landing.old ≡ true) × (stack : List Changeset) × (moment : ℕ) × (landing.new ≡ rewrite stack landing.old moment)
Fact ks (Fault breaking) = Unit {0}

abbrev MakesFact : List Known → Result Judged Refusal → Type 0
MakesFact ks (Ok judged) = (body : Body) → judged.made ≡ Some body → Fact ks body
MakesFact ks (Err refusal) = Unit {0}

record Sound (ks : List Known) (r : Result Judged Refusal) : Type 0 where
  each : MakesFact ks r

through : {A : Type 0} (ks : List Known) (r : Result A Refusal) (f : A → Result Judged Refusal) → ((x : A) → r ≡ Ok x → Sound ks (f x)) → Sound ks (r >>= f)
through ks (Ok x) f all = all x refl
through ks (Err e) f all = record { each = tt }

sound_none : (ks : List Known) (granted : Granted) → Sound ks (unchanged granted)
sound_none ks granted = record { each = λ body e. absurd cc }

sound_entered : (ks : List Known) (header : Header) (h : List Entry) (granted : Granted) (body : Body) → Fact ks body → Sound ks (entered header h granted body)
sound_entered ks header h granted body fact =
    through ks (refuse_if (is_full header h (payload_len body)) (Full (size h) (payload_len body))) (λ _. Ok (record { granted = granted; made = Some body }))
    (λ _ _. record { each = λ other e. subst (Fact ks) (ap (λ o. unwrap_or o body) e) fact })

either : (ks : List Known) (b : Bool) (x y : Result Judged Refusal) → Sound ks x → Sound ks y → Sound ks (cond b x y)
either ks true x y p q = p
either ks false x y p q = q

pub none_refused : {X : Type 0} (o : Option X) (e : X → Refusal) (u : Unit {0}) → refuse_some o e ≡ Ok u → o ≡ None
none_refused None e u h = refl
none_refused (Some x) e u h = absurd cc

pub was_some : {X : Type 0} (o : Option X) (e : Refusal) (x : X) → ok_or o e ≡ Ok x → o ≡ Some x
was_some None e x h = absurd cc
was_some (Some y) e x h = cc

pub all_known : (ks : List Known) (ps : List Id) → find (λ p. not (is_known ks p)) ps ≡ None → AllByRecursion (λ p. is_known ks p ≡ true) ps
all_known ks [] h = tt
all_known ks (p ∷ ps) h = by (all_known ks ps) (is_known ks p) h
  where
    by : (find (λ p. not (is_known ks p)) ps ≡ None → AllByRecursion (λ p. is_known ks p ≡ true) ps) → (b : Bool) → cond (not b) (Some p) (find (λ p. not (is_known ks p)) ps) ≡ None → (b ≡ true) × AllByRecursion (λ p. is_known ks p ≡ true) ps
    by later true e = (refl, later e)
    by later false e = absurd cc

-- ---- a history and its next entry

abbrev pub brought : List Entry → List Known
brought h = map with_id (flat_map (λ e. changesets_in e.body) h)

filter_known_by : (q : Known → Bool) (k : Known) (ks : List Known) (x : Id) → (is_known (filter q ks) x ≡ true → is_known ks x ≡ true) → (b : Bool) → is_known (cond b (k ∷ filter q ks) (filter q ks)) x ≡ true → is_known (k ∷ ks) x ≡ true
filter_known_by q k ks x later true e = or_case (bytes_eq k.id x) (is_known (filter q ks) x) (or_left (bytes_eq k.id x) (is_known ks x)) (λ g. or_right (bytes_eq k.id x) (is_known ks x) (later g)) e
filter_known_by q k ks x later false e = or_right (bytes_eq k.id x) (is_known ks x) (later e)

pub filter_known : (q : Known → Bool) (ks : List Known) (x : Id) → is_known (filter q ks) x ≡ true → is_known ks x ≡ true
filter_known q [] x h = h
filter_known q (k ∷ ks) x h = filter_known_by q k ks x (filter_known q ks x) (q k) h

pub each_known : (ks : List Known) (x : Id) → is_known (each_id_once ks) x ≡ true → is_known ks x ≡ true
each_known [] x h = h
each_known (k ∷ ks) x h =
    or_case (bytes_eq k.id x) (is_known (filter (λ later. not (bytes_eq k.id later.id)) (each_id_once ks)) x) (or_left (bytes_eq k.id x) (is_known ks x))
    (λ g. or_right (bytes_eq k.id x) (is_known ks x) (each_known ks x (filter_known (λ later. not (bytes_eq k.id later.id)) (each_id_once ks) x g))) h

abbrev pub HeadsKnown : List Entry → Type 0
HeadsKnown h = (name : List ℕ) → IfSome (head h name) (λ x. is_known (brought h) x ≡ true)

pub head_known : (ks : List Known) (o : Option Id) (x : Id) → o ≡ Some x → IfSome o (λ x. is_known ks x ≡ true) → is_known ks x ≡ true
head_known ks o x e h = subst (λ o. IfSome o (λ x. is_known ks x ≡ true)) e h

sound_ask : (header : Header) (h : List Entry) → HeadsKnown h → (ask : Ask) → Sound (brought h) (by_ask header h ask)
sound_ask header h heads (PutContent bytes) =
    through (brought h) (refuse_if (nat_lt most_content (length bytes)) (TooLong (length bytes))) _ (λ _ _.
    either (brought h) (is_some (content_len h (sha256 bytes))) _ _ (sound_none (brought h) (ContentPut (sha256 bytes))) (sound_entered (brought h) header h (ContentPut (sha256 bytes)) (Content (sha256 bytes) (length bytes)) tt))
sound_ask header h heads (PutChangeset bytes) =
    through (brought h) (accepted (decoded bytes)) _ (λ c _.
    through (brought h) (refuse_some (find (λ p. not (is_known (known h) p)) c.parents) NoParent) _ (λ u e.
    through (brought h) (refuse_some (first_some (λ e. content_refusal e (content_len h e.1.content)) (sets_of c)) (λ refusal. refusal)) _ (λ _ _.
    through (brought h) (refuse_some (unresolved_of (known h) c c.parents) Unresolved) _ (λ _ _.
    through (brought h) (refuse_if (collides (known h) c) (Collision (id_of c))) _ (λ _ _.
    either (brought h) (is_known (known h) (id_of c)) _ _ (sound_none (brought h) (ChangesetPut (id_of c))) (sound_entered (brought h) header h (ChangesetPut (id_of c)) (Change c)
    (weaker (λ p. is_known (known h) p ≡ true) (λ p. is_known (brought h) p ≡ true) (each_known (brought h)) c.parents (all_known (known h) c.parents (none_refused _ NoParent u e)))))))))
sound_ask header h heads (PutWhole body pieces) =
    let x = sha256 (concat pieces) in
    let n = length (concat pieces) in
    through (brought h) (parts_of header h body) _ (λ parts _.
    either (brought h) (is_some (content_len h x)) _ _ (sound_none (brought h) (WholePut x n)) (sound_entered (brought h) header h (WholePut x n) (Whole x n parts) tt))
sound_ask header h heads (SetBookmark caller name from to) =
    through (brought h) (refuse_some (find (λ x. not (is_known (known h) x)) (option_to_list to)) NoChangeset) _ (λ u e.
    through (brought h) (refuse_if (not (option_eq bytes_eq (head h name) from)) (Moved (head h name))) _ (λ _ _.
    through (brought h) (refuse_some (denied_at h caller (bookmark_place name ∷ [])) denial) _ (λ _ _.
    either (brought h) (option_eq bytes_eq from to) _ _ (sound_none (brought h) BookmarkSet) (sound_entered (brought h) header h BookmarkSet (Book (record { name = name; from = from; to = to; caller = told h caller }))
    (target to (none_refused _ NoChangeset u e))))))
  where
    target : (to : Option Id) → find (λ x. not (is_known (known h) x)) (option_to_list to) ≡ None → IfSome to (λ x. is_known (brought h) x ≡ true)
    target None e = tt
    target (Some x) e = each_known (brought h) x (all_known (known h) (x ∷ []) e).0
sound_ask header h heads (LandDraft caller name draft moment) =
    through (brought h) (ok_or (head h name) NoBookmark) _ (λ old e.
    through (brought h) (refuse_if (not (is_known (known h) draft)) (NoChangeset draft)) _ (λ _ _.
    through (brought h) (ok_or (fork (known h) old draft) NoRoot) _ (λ f _.
    through (brought h) (refuse_if (nat_lt most_range (length f.range)) (TooFarBehind (length f.range))) _ (λ _ _.
    through (brought h) (refuse_if (length f.stack == 0) AlreadyIn) _ (λ _ _.
    through (brought h) (refuse_if (nat_lt most_stack (length f.stack)) (StackTooLong (length f.stack))) _ (λ _ _.
    through (brought h) (refuse_some (option_map id_of (find is_merge f.stack)) MergeInStack) _ (λ _ _.
    through (brought h) (refuse_some (option_map id_of (find is_merge f.range)) MergeInRange) _ (λ _ _.
    through (brought h) (refuse_some (denied_at h caller (touched_paths f.stack)) denial) _ (λ _ _.
    through (brought h) (refuse_some (clash (touched_paths f.stack) (touched_paths f.range)) (λ pair. Clash pair.0 pair.1)) _ (λ _ _.
    through (brought h) (refuse_if (nat_lt most_payload (payload_len (landed old f))) (TooLarge (payload_len (landed old f)))) _ (λ _ _.
    through (brought h) (refuse_some (first_collision (known h) (rewrite f.stack old moment)) Collision) _ (λ _ _.
    sound_entered (brought h) header h (Landed old (map id_of (rewrite f.stack old moment))) (landed old f)
    (head_known (brought h) (head h name) old (was_some (head h name) NoBookmark old e) (heads name), f.stack, moment, refl)))))))))))))
  where
    landed : Id → Fork → Body
    landed old f = Land (record { name = name; old = old; draft = draft; new = rewrite f.stack old moment; moment = moment_of f.stack moment; caller = told h caller })
sound_ask header h heads (SetPolicy caller text) =
    through (brought h) (refuse_if (not (is_second header.version)) OldFormat) _ (λ _ _.
    through (brought h) (refuse_some (result_err (parse text)) BadPolicy) _ (λ _ _.
    through (brought h) (refuse_some (denied_at h caller (policy_place ∷ [])) denial) _ (λ _ _.
    sound_entered (brought h) header h (PolicySet (length (stored h))) (Policy caller text) tt)))

sound_judge : (header : Header) (h : List Entry) → HeadsKnown h → (ask : Ask) → Sound (brought h) (judge header h ask)
sound_judge header h heads ask = through (brought h) (refuse_if (is_down h) Down) _ (λ _ _. sound_ask header h heads ask)

fact_of : (header : Header) (h : List Entry) → HeadsKnown h → (body : Body) (ask : Ask) (granted : Granted) → judge header h ask ≡ Ok (record { granted = granted; made = Some body }) → Fact (brought h) body
fact_of header h heads body ask granted e = subst (MakesFact (brought h)) e (sound_judge header h heads ask).each body refl

pub fact_of_next : (header : Header) (h : List Entry) → HeadsKnown h → (body : Body) → MayFollow header h body → Fact (brought h) body
fact_of_next header h heads (Content x n) m = tt
fact_of_next header h heads (Whole x n parts) m = tt
fact_of_next header h heads (Policy caller text) m = tt
fact_of_next header h heads (Change c) m = fact_of header h heads (Change c) m.0 m.1 m.3
fact_of_next header h heads (Book move) m = fact_of header h heads (Book move) m.0 m.1 m.3
fact_of_next header h heads (Land landing) m = fact_of header h heads (Land landing) m.0 m.1 m.3
fact_of_next header h heads (Fault breaking) m = tt

-- ---- parents and heads after one more entry

rewrite_parents : (ks : List Known) (stack : List Changeset) (head : Id) (moment : ℕ) → is_known ks head ≡ true → ParentsFirst ks (map with_id (rewrite stack head moment))
rewrite_parents ks [] head moment h = tt
rewrite_parents ks (c ∷ cs) head moment h =
    let new = on_parent head moment c in
    ((h, tt), rewrite_parents (ks ++ with_id new ∷ []) cs (id_of new) moment (known_last ks (with_id new)))

parents_of_next : (ks : List Known) (body : Body) → Fact ks body → ParentsFirst ks (map with_id (changesets_in body))
parents_of_next ks (Content x n) fact = tt
parents_of_next ks (Whole x n parts) fact = tt
parents_of_next ks (Policy caller text) fact = tt
parents_of_next ks (Change c) fact = (fact, tt)
parents_of_next ks (Book move) fact = tt
parents_of_next ks (Land landing) fact = subst (λ new. ParentsFirst ks (map with_id new)) (sym fact.3) (rewrite_parents ks fact.1 landing.old fact.2 fact.0)
parents_of_next ks (Fault breaking) fact = tt

pub brought-push : (h : List Entry) (e : Entry) → brought (h ++ e ∷ []) ≡ brought h ++ map with_id (changesets_in e.body)
brought-push h e =
    ap (map with_id) (flat_map-append (λ e. changesets_in e.body) h (e ∷ []) ∙ ap (λ (t : List Changeset). flat_map (λ e. changesets_in e.body) h ++ t) (append-nil (changesets_in e.body)))
    ∙ map-append with_id (flat_map (λ e. changesets_in e.body) h) (changesets_in e.body)

last_known : (front xs : List Changeset) (o : Option Changeset) → IfSome (option_map id_of o) (λ x. is_known (map with_id front) x ≡ true) → IfSome (option_map id_of (last_or o xs)) (λ x. is_known (map with_id (front ++ xs)) x ≡ true)
last_known front [] o h = subst (λ cs. IfSome (option_map id_of o) (λ x. is_known (map with_id cs) x ≡ true)) (sym (append-nil front)) h
last_known front (c ∷ xs) o h =
    subst (λ cs. IfSome (option_map id_of (last_or (Some c) xs)) (λ x. is_known (map with_id cs) x ≡ true)) (append_assoc front (c ∷ []) xs)
    (last_known (front ++ c ∷ []) xs (Some c) (subst (λ ks. is_known ks (id_of c) ≡ true) (sym (map-append with_id front (c ∷ []))) (known_last (map with_id front) (with_id c))))

pub or_none : {X : Type 0} (o : Option X) → o ≡ option_or o None
or_none None = refl
or_none (Some x) = refl

moved_by : (b : Bool) (to t : Option Id) → cond b (Some to) None ≡ Some t → to ≡ t
moved_by true to t e = some_same to t e
moved_by false to t e = absurd cc

target_known : (ks : List Known) (body : Body) → Fact ks body → (name : List ℕ) (t : Option Id) → moved_to name body ≡ Some t → IfSome t (λ x. is_known (ks ++ map with_id (changesets_in body)) x ≡ true)
target_known ks (Content x n) fact name t e = absurd cc
target_known ks (Whole x n parts) fact name t e = absurd cc
target_known ks (Policy caller text) fact name t e = absurd cc
target_known ks (Change c) fact name t e = absurd cc
target_known ks (Fault breaking) fact name t e = absurd cc
target_known ks (Book move) fact name t e =
    subst (λ t. IfSome t (λ x. is_known (ks ++ []) x ≡ true)) (moved_by (bytes_eq name move.name) move.to t e) (if_some move.to _ _ (known_left ks []) fact)
target_known ks (Land landing) fact name t e =
    subst (λ t. IfSome t (λ x. is_known (ks ++ map with_id landing.new) x ≡ true)) (moved_by (bytes_eq name landing.name) (option_map id_of (last_of landing.new)) t e)
    (if_some (option_map id_of (last_of landing.new)) _ _ (known_right ks (map with_id landing.new)) (last_known [] landing.new None tt))

pub last_some-push : {X Y : Type 0} (f : X → Option Y) (xs : List X) (x : X) → last_some f (xs ++ x ∷ []) ≡ option_or (f x) (last_some f xs)
last_some-push f [] x = or_none (f x)
last_some-push f (y ∷ xs) x = ap (λ o. option_or o (f y)) (last_some-push f xs x) ∙ or_assoc (f x) (last_some f xs) (f y)

head_by : (ks js : List Known) (t : Option (Option Id)) (rest : Option (Option Id)) → ((o : Option Id) → t ≡ Some o → IfSome o (λ x. is_known (ks ++ js) x ≡ true)) → IfSome (option_flatten rest) (λ x. is_known ks x ≡ true) → IfSome (option_flatten (option_or t rest)) (λ x. is_known (ks ++ js) x ≡ true)
head_by ks js (Some o) rest f h = f o refl
head_by ks js None rest f h = if_some (option_flatten rest) _ _ (known_left ks js) h

heads_of_next : (h : List Entry) (e : Entry) → Fact (brought h) e.body → HeadsKnown h → HeadsKnown (h ++ e ∷ [])
heads_of_next h e fact heads name =
    subst (λ ks. IfSome (head (h ++ e ∷ []) name) (λ x. is_known ks x ≡ true)) (sym (brought-push h e))
    (subst (λ o. IfSome (option_flatten o) (λ x. is_known (brought h ++ map with_id (changesets_in e.body)) x ≡ true)) (sym (last_some-push (λ e. moved_to name e.body) h e))
    (head_by (brought h) (map with_id (changesets_in e.body)) (moved_to name e.body) (last_some (λ e. moved_to name e.body) h) (target_known (brought h) e.body fact name) (heads name)))

pub record Grown (h : List Entry) : Type 0 where
  parents : ParentsFirst [] (brought h)
  pub heads : HeadsKnown h

grow : (header : Header) (h later : List Entry) → Grown h → GoesOn header h later → Grown (h ++ later)
grow header h [] g legal = subst Grown (sym (append-nil h)) g
grow header h (e ∷ later) g legal =
    let fact = fact_of_next header h g.heads e.body legal.0 in
    let next : Grown (h ++ e ∷ []) = record {
      parents = subst (ParentsFirst []) (sym (brought-push h e)) (parents_append [] (brought h) (map with_id (changesets_in e.body)) g.parents (parents_of_next (brought h) e.body fact));
      heads = heads_of_next h e fact g.heads;
    }
    in
    subst Grown (append_assoc h (e ∷ []) later) (grow header (h ++ e ∷ []) later next legal.1)

pub grown : (header : Header) (h : List Entry) → IsLegal header h → Grown h
grown header h legal = grow header [] h (record { parents = tt; heads = λ name. tt }) legal

-- in a legal history each parent is known before its child
pub HasParents-known : (header : Header) (h : List Entry) → IsLegal header h → HasParents (reverse (known h))
HasParents-known header h legal = has_parents [] (known h) tt (each_parents [] (brought h) (grown header h legal).parents)

each_was_known : (ks : List Known) (x : Id) → is_known ks x ≡ true → is_known (reverse ks) x ≡ true
each_was_known ks x h = known_reverse ks x ∙ h

-- so the chain of a known changeset goes from one without a parent to it
pub legal_chain : (header : Header) (h : List Entry) (x : Id) → IsLegal header h → is_known (known h) x ≡ true → IsChain (known h) x (chain (known h) x)
legal_chain header h x legal there = chain_is_right (known h) x (HasParents-known header h legal) (each_was_known (known h) x there)
