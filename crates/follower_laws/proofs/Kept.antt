-- What a repository has of an entry that it stored.
use Rattle.std.proofs.Common.{◌≡◌, ℕ, Bool, true, false, cond, List, [], ◌∷◌, ◌++◌, map, length, refl, sym, ap, ◌∙◌}
use Rattle.std.specs.Prelude.{Option, None, Some, option_map, is_some, find, filter, flat_map, not, bytes_eq, nat_lt, slice_get, Result, Ok, Err}
use mathlib.Core.Bool.{true≢false}
use Rattle.std.specs.Option.{option_or, option_and_then}
use Rattle.std.proofs.lemmas.Bool.{or_parts}
use Rattle.std.proofs.lemmas.List.{map-append, append_assoc}
use Rattle.std.proofs.lemmas.List.Folds.{find-append}
use Rattle.std.proofs.lemmas.Slice.Eq.{bytes_eq-Decides}
use Rattle.sha2.specs.Sha256.{sha256}
use Rattle.byte_fields.specs.Bytes.{Id, first_some}
use Rattle.changeset_model.specs.Changeset.{Changeset, id_of, sets_of, most_content}
use Rattle.changeset_model.specs.Decoding.{DecodeFault, decoded}
use Rattle.history_model.specs.History.{Body, Content, Whole, Change, Book, Land, Policy, Fault, Entry, unnumbered, bodies, is_down, Known, with_id, each_id_once, changesets_in, known, is_known, changeset_of, length_in, content_len, policy_text, policy_at}
use Rattle.history_model.specs.Journal.{Header}
use Rattle.reply_model.specs.Reply.{Ask, PutContent, PutWhole, PutChangeset, SetBookmark, LandDraft, SetPolicy, Refusal, Down, TooLong, NoParent, Unresolved, Collision, Granted, ContentPut, ChangesetPut, Judged, ◌>>=◌, refuse_if, refuse_some, unchanged, entered, accepted, content_refusal, unresolved_of, collides, judge}
use Rattle.reply_model.specs.Legal.{IsLegal}
use Rattle.reply_model.proofs.Stored.{known-stored}
use Rattle.reply_model.proofs.Parents.{same_id}
use Rattle.opening_laws.proofs.Made.{MadeBy, is_made}
use Rattle.opening_laws.proofs.Pieces.{content_len_is}
use Rattle.follower_laws.proofs.Anew.{HasMade}
use Rattle.follower_laws.proofs.Stood.{stood_at, at_its_place}

abbrev made_in : Result Judged Refusal → Option Body
made_in (Ok judged) = judged.made
made_in (Err refusal) = None

-- ---- a content

none_made : (granted : Granted) (r : Result Judged Refusal) (b : Body) (j : Judged) → j.made ≡ Some b → (known : Bool) → cond known (unchanged granted) r ≡ Ok j → known ≡ false
none_made granted r b j made true e = absurd (let none = ap made_in e ∙ made in cc)
none_made granted r b j made false e = refl

no_some : (o : Option ℕ) → is_some o ≡ false → o ≡ None
no_some None e = refl
no_some (Some n) e = absurd (true≢false e)

put_new : (down long : Bool) (too : Refusal) (known : Bool) (granted : Granted) (r : Result Judged Refusal) (b : Body) (j : Judged) → j.made ≡ Some b → (refuse_if down Down >>= λ _. refuse_if long too >>= λ _. cond known (unchanged granted) r) ≡ Ok j → known ≡ false
put_new true long too known granted r b j made e = absurd cc
put_new false true too known granted r b j made e = absurd cc
put_new false false too known granted r b j made e = none_made granted r b j made known e

abbrev id_in : Id → Body → Id
id_in other (Content x n) = x
id_in other (Whole x n parts) = x
id_in other (Change c) = other
id_in other (Book move) = other
id_in other (Land landing) = other
id_in other (Policy caller text) = other
id_in other (Fault breaking) = other

content_is_new : (header : Header) (h : List Entry) (x : Id) (n : ℕ) (ask : Ask) (granted : Granted) → HasMade header h ask granted (Content x n) → MadeBy h ask (Content x n) → content_len h x ≡ None
content_is_new header h x n (PutWhole body pieces) granted e m = absurd (let is = m.3 in cc)
content_is_new header h x n (PutChangeset bytes) granted e m = absurd (let is = m.3 in cc)
content_is_new header h x n (SetBookmark caller name from to) granted e m = absurd (let is = m.0 in cc)
content_is_new header h x n (LandDraft caller name draft moment) granted e m = absurd (let is = m.8 in cc)
content_is_new header h x n (SetPolicy caller text) granted e m = absurd (let is = m.0 in cc)
content_is_new header h x n (PutContent bytes) granted e m =
    ap (content_len h) (ap (id_in x) m.1)
    ∙ no_some (content_len h (sha256 bytes)) (put_new (is_down h) (nat_lt most_content (length bytes)) (TooLong (length bytes)) (is_some (content_len h (sha256 bytes))) (ContentPut (sha256 bytes)) _ (Content x n) (record { granted = granted; made = Some (Content x n) }) refl e)

skip_none : {Y : Type 0} (o rest all : Option Y) (y : Y) → option_or o rest ≡ None → (rest ≡ None → all ≡ Some y) → option_or o all ≡ Some y
skip_none None rest all y e f = f e
skip_none (Some w) rest all y e f = absurd cc

none_then : {X Y : Type 0} (f : X → Option Y) (xs : List X) (x : X) (later : List X) (y : Y) → first_some f xs ≡ None → f x ≡ Some y → first_some f (xs ++ x ∷ later) ≡ Some y
none_then f [] x later y none some = ap (λ o. option_or o (first_some f later)) some
none_then f (z ∷ xs) x later y none some = skip_none (f z) (first_some f xs) (first_some f (xs ++ x ∷ later)) y none (λ e. none_then f xs x later y e some)

same_bytes : (x : Id) (n : ℕ) → length_in x (Content x n) ≡ Some n
same_bytes x n = ap (λ b. cond b (Some n) None) (same_id x)

pub content_kept : (header : Header) (h : List Entry) (before later : List Body) (x : Id) (n : ℕ) → IsLegal header h → bodies h ≡ before ++ Content x n ∷ later → content_len h x ≡ Some n
content_kept header h before later x n legal e =
    let stood = stood_at header h before later (Content x n) legal e in
    let made = is_made header (map unnumbered before) (Content x n) refl stood.follows in
    let new : content_len (map unnumbered before) x ≡ None = content_is_new header (map unnumbered before) x n made.ask made.granted made.judged made.made in
    content_len_is h x ∙ ap (first_some (length_in x)) e
    ∙ none_then (length_in x) before (Content x n) later n (sym (found_before before) ∙ new) (same_bytes x n)
  where
    found_before : (bs : List Body) → first_some (λ (e : Entry). length_in x e.body) (map unnumbered bs) ≡ first_some (length_in x) bs
    found_before [] = refl
    found_before (b ∷ bs) = ap (option_or (length_in x b)) (found_before bs)

-- ---- a changeset

then_ok : {A B : Type 0} (r : Result A Refusal) (f : A → Result B Refusal) (j : B) → (r >>= f) ≡ Ok j → (x : A) × (r ≡ Ok x) × (f x ≡ Ok j)
then_ok (Ok x) f j e = (x, refl, e)
then_ok (Err refusal) f j e = absurd cc

abbrev last_steps : Header → List Entry → Changeset → Result Judged Refusal
last_steps header h c = do
  _ ← refuse_some (unresolved_of (known h) c c.parents) Unresolved
  _ ← refuse_if (collides (known h) c) (Collision (id_of c))
  cond (is_known (known h) (id_of c)) (unchanged (ChangesetPut (id_of c))) (entered header h (ChangesetPut (id_of c)) (Change c))

last_new : (header : Header) (h : List Entry) (c : Changeset) (b : Body) (j : Judged) → j.made ≡ Some b → last_steps header h c ≡ Ok j → is_known (known h) (id_of c) ≡ false
last_new header h c b j made e =
    let one = then_ok (refuse_some (unresolved_of (known h) c c.parents) Unresolved) _ j e in
    let two = then_ok (refuse_if (collides (known h) c) (Collision (id_of c))) _ j one.2 in
    none_made (ChangesetPut (id_of c)) (entered header h (ChangesetPut (id_of c)) (Change c)) b j made (is_known (known h) (id_of c)) two.2

abbrev mid_steps : Header → List Entry → Changeset → Result Judged Refusal
mid_steps header h c = do
  _ ← refuse_some (find (λ p. not (is_known (known h) p)) c.parents) NoParent
  _ ← refuse_some (first_some (λ e. content_refusal e (content_len h e.1.content)) (sets_of c)) (λ refusal. refusal)
  last_steps header h c

mid_new : (header : Header) (h : List Entry) (c : Changeset) (b : Body) (j : Judged) → j.made ≡ Some b → mid_steps header h c ≡ Ok j → is_known (known h) (id_of c) ≡ false
mid_new header h c b j made e =
    let one = then_ok (refuse_some (find (λ p. not (is_known (known h) p)) c.parents) NoParent) _ j e in
    let two = then_ok (refuse_some (first_some (λ e. content_refusal e (content_len h e.1.content)) (sets_of c)) (λ refusal. refusal)) _ j one.2 in
    last_new header h c b j made two.2

upload_new : (header : Header) (h : List Entry) (bytes : List ℕ) (c : Changeset) (b : Body) (j : Judged) → j.made ≡ Some b → decoded bytes ≡ Ok c → judge header h (PutChangeset bytes) ≡ Ok j → is_known (known h) (id_of c) ≡ false
upload_new header h bytes c b j made read e =
    let one = then_ok (refuse_if (is_down h) Down) _ j e in
    let here : mid_steps header h c ≡ Ok j = sym (ap (λ (r : Result Changeset DecodeFault). accepted r >>= mid_steps header h) read) ∙ one.2 in
    mid_new header h c b j made here

abbrev change_in : Changeset → Body → Changeset
change_in other (Content x n) = other
change_in other (Whole x n parts) = other
change_in other (Change c) = c
change_in other (Book move) = other
change_in other (Land landing) = other
change_in other (Policy caller text) = other
change_in other (Fault breaking) = other

changeset_is_new : (header : Header) (h : List Entry) (c : Changeset) (ask : Ask) (granted : Granted) → HasMade header h ask granted (Change c) → MadeBy h ask (Change c) → is_known (known h) (id_of c) ≡ false
changeset_is_new header h c (PutContent bytes) granted e m = absurd (let is = m.1 in cc)
changeset_is_new header h c (PutWhole body pieces) granted e m = absurd (let is = m.3 in cc)
changeset_is_new header h c (SetBookmark caller name from to) granted e m = absurd (let is = m.0 in cc)
changeset_is_new header h c (LandDraft caller name draft moment) granted e m = absurd (let is = m.8 in cc)
changeset_is_new header h c (SetPolicy caller text) granted e m = absurd (let is = m.0 in cc)
changeset_is_new header h c (PutChangeset bytes) granted e m =
    let same : c ≡ m.0 = ap (change_in c) m.3 in
    ap (λ (c : Changeset). is_known (known h) (id_of c)) same ∙ upload_new header h bytes m.0 (Change c) (record { granted = granted; made = Some (Change c) }) refl m.1 e

-- the first of an id is what is known by it
find_filter : (p q : Known → Bool) → ((k : Known) → p k ≡ true → q k ≡ true) → (ks : List Known) → find p (filter q ks) ≡ find p ks
find_filter p q all [] = refl
find_filter p q all (k ∷ ks) = by (p k) (q k) refl refl (find_filter p q all ks)
  where
    by : (a b : Bool) → p k ≡ a → q k ≡ b → find p (filter q ks) ≡ find p ks → find p (cond b (k ∷ filter q ks) (filter q ks)) ≡ cond a (Some k) (find p ks)
    by a true is there ih = ap (λ b. cond b (Some k) (find p (filter q ks))) is ∙ ap (λ o. cond a (Some k) o) ih
    by true false is there ih = absurd (true≢false (sym (all k is) ∙ there))
    by false false is there ih = ih

abbrev has_id : Id → Known → Bool
has_id x k = bytes_eq k.id x

first_known : (ks : List Known) (x : Id) → find (has_id x) (each_id_once ks) ≡ find (has_id x) ks
first_known [] x = refl
first_known (k ∷ ks) x = by (bytes_eq k.id x) refl (first_known ks x)
  where
    other : bytes_eq k.id x ≡ false → (later : Known) → has_id x later ≡ true → not (bytes_eq k.id later.id) ≡ true
    other differs later is = ap (λ y. not (bytes_eq k.id y)) ((bytes_eq-Decides later.id x).0 is) ∙ ap not differs

    by : (b : Bool) → bytes_eq k.id x ≡ b → find (has_id x) (each_id_once ks) ≡ find (has_id x) ks → cond b (Some k) (find (has_id x) (filter (λ later. not (bytes_eq k.id later.id)) (each_id_once ks))) ≡ cond b (Some k) (find (has_id x) ks)
    by true e ih = refl
    by false e ih = find_filter (has_id x) (λ later. not (bytes_eq k.id later.id)) (other e) (each_id_once ks) ∙ ih

none_known : (ks : List Known) (x : Id) → is_known ks x ≡ false → find (has_id x) ks ≡ None
none_known [] x e = refl
none_known (k ∷ ks) x e =
    let both = or_parts (bytes_eq k.id x) (is_known ks x) e in
    ap (λ b. cond b (Some k) (find (has_id x) ks)) both.0 ∙ none_known ks x both.1

abbrev brought_by : List Body → List Known
brought_by bs = map with_id (flat_map changesets_in bs)

brought_stored : (bs : List Body) → flat_map (λ (e : Entry). changesets_in e.body) (map unnumbered bs) ≡ flat_map changesets_in bs
brought_stored [] = refl
brought_stored (b ∷ bs) = ap (λ cs. changesets_in b ++ cs) (brought_stored bs)

known_by_id : (bs : List Body) (x : Id) → find (has_id x) (known (map unnumbered bs)) ≡ find (has_id x) (brought_by bs)
known_by_id bs x = ap (λ cs. find (has_id x) (each_id_once (map with_id cs))) (brought_stored bs) ∙ first_known (brought_by bs) x

flat_apart : (before later : List Body) → flat_map changesets_in (before ++ later) ≡ flat_map changesets_in before ++ flat_map changesets_in later
flat_apart [] later = refl
flat_apart (b ∷ before) later = ap (λ cs. changesets_in b ++ cs) (flat_apart before later) ∙ sym (append_assoc (changesets_in b) (flat_map changesets_in before) (flat_map changesets_in later))

brought_apart : (before later : List Body) → brought_by (before ++ later) ≡ brought_by before ++ brought_by later
brought_apart before later = ap (map with_id) (flat_apart before later) ∙ map-append with_id (flat_map changesets_in before) (flat_map changesets_in later)

found_here : (before later : List Body) (c : Changeset) → find (has_id (id_of c)) (brought_by before) ≡ None → find (has_id (id_of c)) (brought_by (before ++ Change c ∷ later)) ≡ Some (with_id c)
found_here before later c none =
    ap (find (has_id (id_of c))) (brought_apart before (Change c ∷ later))
    ∙ find-append (has_id (id_of c)) (brought_by before) (with_id c ∷ brought_by later)
    ∙ ap (λ o. option_or o (find (has_id (id_of c)) (with_id c ∷ brought_by later))) none
    ∙ ap (λ b. cond b (Some (with_id c)) (find (has_id (id_of c)) (brought_by later))) (same_id (id_of c))

pub changeset_kept : (header : Header) (h : List Entry) (before later : List Body) (c : Changeset) → IsLegal header h → bodies h ≡ before ++ Change c ∷ later → changeset_of (known h) (id_of c) ≡ Some c
changeset_kept header h before later c legal e =
    let stood = stood_at header h before later (Change c) legal e in
    let made = is_made header (map unnumbered before) (Change c) refl stood.follows in
    let new = changeset_is_new header (map unnumbered before) c made.ask made.granted made.judged made.made in
    let none : find (has_id (id_of c)) (brought_by before) ≡ None = sym (known_by_id before (id_of c)) ∙ none_known (known (map unnumbered before)) (id_of c) new in
    ap (λ ks. changeset_of ks (id_of c)) (sym (known-stored h) ∙ ap (λ bs. known (map unnumbered bs)) e)
    ∙ ap (option_map (λ (k : Known). k.changeset)) (known_by_id (before ++ Change c ∷ later) (id_of c) ∙ found_here before later c none)

-- ---- a policy

pub policy_kept : (h : List Entry) (before later : List Body) (caller text : List ℕ) → bodies h ≡ before ++ Policy caller text ∷ later → policy_at h (length before) ≡ Some text
policy_kept h before later caller text e =
    ap (λ bs. option_and_then policy_text (slice_get bs (length before))) e
    ∙ ap (option_and_then policy_text) (at_its_place before later (Policy caller text))
