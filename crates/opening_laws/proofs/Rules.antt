-- The known changesets of a legal history keep the rules of a changeset.
--     IsUploadable c      what an upload must keep
use Rattle.std.proofs.Common.{◌≡◌, ℕ, zero, suc, ◌+◌, ◌*◌, ◌/◌, ◌≤◌, ◌%◌, ◌^◌, ℤ, Bool, true, false, cond, not, ◌&&◌, List, [], ◌∷◌, ◌++◌, map, length, drop, refl, sym, ap, subst, ◌∙◌, arith, length-append}
use Rattle.std.specs.Prelude.{Option, None, Some, Ok, Err, Contains, IfSome, IsTrue, flat_map, bytes_eq, nat_lt, option_map, unwrap_or, slice_index, min}
use mathlib.Core.Bool.{true≢false}
use Rattle.std.specs.List.{AllByRecursion, concat, position_or_len}
use Rattle.std.specs.Int.{w16, w32, w64, to_be_bytes, cast_unsigned}
use Rattle.changeset_model.specs.Version.{Version, First, Second, version_byte}
use Rattle.std.proofs.lemmas.Bool.{ltb-false, le-ltb, lt-ltb, and_parts, and_from, eq-eqb}
use Rattle.std.proofs.lemmas.List.{append_assoc, append-nil}
use Rattle.std.proofs.lemmas.Slice.Eq.{bytes_eq-Decides}
use Rattle.std.proofs.lemmas.Grind.{flat_map-append}
use Rattle.std.proofs.Math.Nat.{min-le_right}
use Rattle.sha2.specs.Sha256.{sha256, digest_bytes}
use Rattle.byte_fields.specs.Bytes.{Id, sized, are_bytes, is_bytes, last_that}
use Rattle.byte_fields.specs.Reading.{read}
use Rattle.byte_fields.proofs.Lists.{weaker, each_of}
use Rattle.changeset_model.specs.Changeset.{Changeset, id_of, spelling, is_changeset, are_parents, is_author, is_signed, is_message, are_changes, self_conflict, most_encoded}
use Rattle.changeset_model.specs.Decoding.{changeset, TooLong, without_conflict, in_order, decoded}
use Rattle.changeset_model.proofs.Spelling.{from_author_bytes, from_message_bytes, read-spelling}
use Rattle.changeset_model.proofs.Accepting.{accepted_exactly}
use Rattle.history_model.specs.History.{Body, Content, Whole, Change, Book, Land, Policy, Fault, Entry, Known, with_id, each_id_once, is_stored, changesets_in, known, is_known}
use Rattle.history_model.specs.Chain.{first_of, first_parent, chain, IsLinked, changesets}
use Rattle.history_model.specs.Bookmark.{head}
use Rattle.history_model.specs.Pushrebase.{Fork, following, fork_at, fork, most_seconds, seconds_at, offset_at, on_parent, rewrite}
use Rattle.history_model.specs.Journal.{Header}
use Rattle.reply_model.specs.Reply.{is_ask, is_merge, Ask, PutContent, PutWhole, PutChangeset, SetBookmark, LandDraft, SetPolicy}
use Rattle.reply_model.specs.Legal.{MayFollow, GoesOn, IsLegal}
use Rattle.reply_model.proofs.Parents.{brought, grown, legal_chain}
use Rattle.manifest_model.proofs.Derivations.{or_case}
use Rattle.reply_model.proofs.Histories.{IsLegal-push}
use Rattle.reply_model.proofs.Opened.{none_found}
use Rattle.opening_laws.proofs.Lists.{are_IsBytes, are_bytes-append}
use Rattle.byte_fields.proofs.Booleans.{same_some}
use Rattle.byte_fields.proofs.Lists.{all_both as all_append, all_filter}
use Rattle.opening_laws.proofs.Made.{MadeBy, is_made}
use Rattle.changeset_model.proofs.Spelling.{len_of as len_32}

-- ---- digests

small : (n : ℕ) → nat_lt (n % 256) 256 ≡ true
small n = lt-ltb (n % 256) 256 (omega arith)

four : (a b c d : ℕ) → are_bytes (a % 256 ∷ b % 256 ∷ c % 256 ∷ d % 256 ∷ []) ≡ true
four a b c d = (λ i. small a i && (small b i && (small c i && (small d i && true))))

four_bytes : (n : ℕ) → are_bytes (to_be_bytes w32 n) ≡ true
four_bytes n = four (n / 16777216) (n / 65536) (n / 256) n

digest_bytes_are : (h : List ℕ) (n : ℕ) → (length (digest_bytes h n) ≡ 4 * n) × (are_bytes (digest_bytes h n) ≡ true)
unfolding digest_bytes
digest_bytes_are h zero = (refl, refl)
digest_bytes_are h (suc n) =
    let ih = digest_bytes_are h n in
    let last = to_be_bytes w32 (slice_index h n) in
    let first = ih.0 in
    let sum = length-append (digest_bytes h n) last in
    (omega arith, are_bytes-append (digest_bytes h n) last ih.1 (four_bytes (slice_index h n)))

is_32 : (x : List ℕ) → (length x ≡ 32) × (are_bytes x ≡ true) → is_bytes 32 x ≡ true
is_32 x d = and_from _ _ (eq-eqb (length x) 32 d.0) d.1

-- a digest is 32 bytes
pub digest_is : (bytes : List ℕ) → is_bytes 32 (sha256 bytes) ≡ true
unfolding sha256
digest_is bytes = is_32 _ (digest_bytes_are _ 8)

-- ---- what an upload must keep

pub record IsUploadable (c : Changeset) : Type 0 where
  pub keeps : is_changeset c ≡ true
  pub no_conflict : self_conflict c ≡ None
  pub short : length (spelling c) ≤ most_encoded

pub what_is_uploaded : (bytes : List ℕ) (c : Changeset) → are_bytes bytes ≡ true → decoded bytes ≡ Ok c → IsUploadable c × (bytes ≡ spelling c)
what_is_uploaded bytes c fits e =
    let a = (accepted_exactly bytes c (are_IsBytes bytes fits)).0 e in
    (record { keeps = a.1.0; no_conflict = a.2; short = subst (λ t. length t ≤ most_encoded) a.1.1 a.0 }, a.1.1)

-- and then its spelling is accepted
pub is_decoded : (c : Changeset) → IsUploadable c → decoded (spelling c) ≡ Ok c
is_decoded c g =
    (λ i. cond (le-ltb most_encoded (length (spelling c)) g.short i) (Err (TooLong (length (spelling c)))) (in_order (read changeset (spelling c))))
    ∙ ap in_order (read-spelling c g.keeps)
    ∙ ap (without_conflict c) g.no_conflict

abbrev HasParent : Changeset → Type 0
HasParent c = (q : Id) × (first_parent c ≡ Some q)

one_of : (ps : List Id) (q : Id) → length ps ≤ 1 → first_of ps ≡ Some q → ps ≡ q ∷ []
one_of [] q le e = absurd cc
one_of (p ∷ []) q le e = ap (λ x. x ∷ []) (same_some p q e)
one_of (p ∷ r ∷ ps) q le e = absurd (omega arith)

date_len : (a m : List ℕ) (s r : ℤ) (o p : ℤ) → length (sized w16 a ++ (to_be_bytes w64 (cast_unsigned w64 s) ++ (to_be_bytes w32 (cast_unsigned w32 o) ++ m))) ≡ length (sized w16 a ++ (to_be_bytes w64 (cast_unsigned w64 r) ++ (to_be_bytes w32 (cast_unsigned w32 p) ++ m)))
date_len a m s r o p =
    let x = length-append (sized w16 a) (to_be_bytes w64 (cast_unsigned w64 s) ++ (to_be_bytes w32 (cast_unsigned w32 o) ++ m)) in
    let y = length-append (sized w16 a) (to_be_bytes w64 (cast_unsigned w64 r) ++ (to_be_bytes w32 (cast_unsigned w32 p) ++ m)) in
    omega arith

-- a changeset with its one parent is as long with another, and at another date
same_len : (p q : Id) (moment : ℕ) (c : Changeset) → length p ≡ 32 → length q ≡ 32 → c.parents ≡ q ∷ [] → length (spelling (on_parent p moment c)) ≡ length (spelling c)
same_len p q moment c lp lq e =
    by p q (from_author_bytes (on_parent p moment c)) (from_author_bytes c) lp lq (date_len c.author (from_message_bytes c) (seconds_at moment c.version c.seconds) c.seconds (offset_at c.version c.offset) c.offset)
    ∙ sym (λ i. length (0x43 ∷ version_byte c.version ∷ length (e i) ∷ (concat (e i) ++ from_author_bytes c)))
  where
    by : (p q rest other : List ℕ) → length p ≡ 32 → length q ≡ 32 → length rest ≡ length other → length (0x43 ∷ version_byte c.version ∷ 1 ∷ ((p ++ []) ++ rest)) ≡ length (0x43 ∷ version_byte c.version ∷ 1 ∷ ((q ++ []) ++ other))
    by p q rest other lp lq same = let a = length-append (p ++ []) rest in let b = length-append (q ++ []) other in let x = length-append p [] in let y = length-append q [] in omega arith

record Fields (c : Changeset) : Type 0 where
  parents : are_parents c.parents ≡ true
  seconds : is_signed 64 c.seconds ≡ true
  offset : is_signed 32 c.offset ≡ true

fields_right : (c : Changeset) → is_changeset c ≡ true → Fields c
fields_right c h =
    let e = and_parts (are_parents c.parents && is_author c.author && is_signed 64 c.seconds && is_signed 32 c.offset && is_message c.message) (are_changes c.version (length c.parents) c.changes) h in
    let m = and_parts (are_parents c.parents && is_author c.author && is_signed 64 c.seconds && is_signed 32 c.offset) (is_message c.message) e.0 in
    let o = and_parts (are_parents c.parents && is_author c.author && is_signed 64 c.seconds) (is_signed 32 c.offset) m.0 in
    let s = and_parts (are_parents c.parents && is_author c.author) (is_signed 64 c.seconds) o.0 in
    record { parents = (and_parts (are_parents c.parents) (is_author c.author) s.0).0; seconds = s.1; offset = o.1 }

seconds_right : (v : Version) (moment : ℕ) (z : ℤ) → is_signed 64 z ≡ true → is_signed 64 (seconds_at moment v z) ≡ true
seconds_right First moment z h = h
seconds_right Second moment z h = lt-ltb (min moment most_seconds) (2 ^ 63) (let most : min moment most_seconds ≤ 9223372036854775807 = min-le_right moment most_seconds in omega arith)

offset_right : (v : Version) (z : ℤ) → is_signed 32 z ≡ true → is_signed 32 (offset_at v z) ≡ true
offset_right First z h = h
offset_right Second z h = refl

uploadable_on : (p : Id) (moment : ℕ) (c : Changeset) → is_bytes 32 p ≡ true → IsUploadable c → HasParent c → length c.parents ≤ 1 → IsUploadable (on_parent p moment c)
uploadable_on p moment c fits g has one =
    let ps = one_of c.parents has.0 one has.1 in
    let right = fields_right c g.keeps in
    let lq : length has.0 ≡ 32 = len_32 has.0 (subst (λ ps. are_parents ps ≡ true) ps right.parents) in
    record {
      keeps = (λ i. (fits ∙ sym right.parents) i && is_author c.author && (seconds_right c.version moment c.seconds right.seconds ∙ sym right.seconds) i && (offset_right c.version c.offset right.offset ∙ sym right.offset) i && is_message c.message && are_changes c.version (length (sym ps i)) c.changes) ∙ g.keeps;
      no_conflict = g.no_conflict;
      short = subst (λ n. n ≤ most_encoded) (sym (same_len p has.0 moment c (len_32 p fits) lq ps)) g.short;
    }

uploadable_rewrite : (stack : List Changeset) (head : Id) (moment : ℕ) → is_bytes 32 head ≡ true → AllByRecursion (λ c. IsUploadable c × HasParent c) stack → AllByRecursion (λ c. is_merge c ≡ false) stack → AllByRecursion IsUploadable (rewrite stack head moment)
uploadable_rewrite [] head moment fits all ones = tt
uploadable_rewrite (c ∷ cs) head moment fits all ones =
    let one : length c.parents ≤ 1 = ltb-false 1 (length c.parents) ones.0 in
    (uploadable_on head moment c fits all.0.0 all.0.1 one, uploadable_rewrite cs (id_of (on_parent head moment c)) moment (digest_is (spelling (on_parent head moment c))) all.1 ones.1)

-- ---- the stack of a landing

-- all but the first of a chain have parents
all_linked : (P : Known → Type 0) (y : Id) (ks : List Known) → IsLinked (Some y) ks → AllByRecursion P ks → AllByRecursion (λ k. P k × HasParent k.changeset) ks
all_linked P y [] linked all = tt
all_linked P y (k ∷ ks) linked all = ((all.0, (y, linked.0)), all_linked P k.id ks linked.1 all.1)

later_linked : (P : Known → Type 0) (n : ℕ) (parent : Option Id) (ks : List Known) → IsLinked parent ks → AllByRecursion P ks → AllByRecursion (λ k. P k × HasParent k.changeset) (drop (suc n) ks)
later_linked P n parent [] linked all = tt
later_linked P zero parent (k ∷ ks) linked all = all_linked P k.id ks linked.1 all.1
later_linked P (suc n) parent (k ∷ ks) linked all = later_linked P n (Some k.id) ks linked.1 all.1

all_changesets : (P : Changeset → Type 0) (ks : List Known) → AllByRecursion (λ k. P k.changeset) ks → AllByRecursion P (changesets ks)
all_changesets P [] all = tt
all_changesets P (k ∷ ks) all = (all.0, all_changesets P ks all.1)

stack_by : (of_head of_draft : List Known) (o : Option Known) (f : Fork) → option_map (fork_at of_head of_draft) o ≡ Some f → (root : Known) × (f.stack ≡ following root of_draft)
stack_by of_head of_draft None f e = absurd cc
stack_by of_head of_draft (Some root) f e = (root, sym (ap (λ o. (unwrap_or o (fork_at of_head of_draft root)).stack) e))

stack_is : (ks : List Known) (old draft : Id) (f : Fork) → fork ks old draft ≡ Some f → (root : Known) × (f.stack ≡ following root (chain ks draft))
stack_is ks old draft f e = stack_by (chain ks old) (chain ks draft) (last_that (λ k. is_known (chain ks old) k.id) (chain ks draft)) f e

-- ---- a history and its next entry

abbrev IsRight : Known → Type 0
IsRight k = IsUploadable k.changeset × (k.id ≡ id_of k.changeset)

abbrev AllUploadable : List Entry → Type 0
AllUploadable h = AllByRecursion IsUploadable (flat_map (λ e. changesets_in e.body) h)

with_ids : (cs : List Changeset) → AllByRecursion IsUploadable cs → AllByRecursion IsRight (map with_id cs)
with_ids [] all = tt
with_ids (c ∷ cs) all = ((all.0, refl), with_ids cs all.1)

all_once : (P : Known → Type 0) (ks : List Known) → AllByRecursion P ks → AllByRecursion P (each_id_once ks)
all_once P [] all = tt
all_once P (k ∷ ks) all = (all.0, all_filter P (λ later. not (bytes_eq k.id later.id)) (each_id_once ks) (all_once P ks all.1))

known_right : (h : List Entry) → AllUploadable h → AllByRecursion IsRight (known h)
known_right h all = all_once IsRight (brought h) (with_ids (flat_map (λ e. changesets_in e.body) h) all)

known_is_id : (cs : List Changeset) (x : Id) → is_known (map with_id cs) x ≡ true → is_bytes 32 x ≡ true
known_is_id [] x h = absurd (true≢false (sym h))
known_is_id (c ∷ cs) x h =
    or_case (bytes_eq (id_of c) x) (is_known (map with_id cs) x)
    (λ e. subst (λ y. is_bytes 32 y ≡ true) ((bytes_eq-Decides (id_of c) x).0 e) (digest_is (spelling c))) (known_is_id cs x) h

known_head : (cs : List Changeset) (o : Option Id) (x : Id) → o ≡ Some x → IfSome o (λ x. is_known (map with_id cs) x ≡ true) → is_bytes 32 x ≡ true
known_head cs o x e h = known_is_id cs x (subst (λ o. IfSome o (λ x. is_known (map with_id cs) x ≡ true)) e h)

-- a bookmark stands at 32 bytes
pub head_is_id : (header : Header) (h : List Entry) (name : List ℕ) (x : Id) → IsLegal header h → head h name ≡ Some x → is_bytes 32 x ≡ true
head_is_id header h name x legal e = known_head (flat_map (λ e. changesets_in e.body) h) (head h name) x e ((grown header h legal).heads name)

uploadable_stack : (header : Header) (h : List Entry) (old draft : Id) (f : Fork) → IsLegal header h → AllUploadable h → is_known (known h) draft ≡ true → fork (known h) old draft ≡ Some f → AllByRecursion (λ c. IsUploadable c × HasParent c) f.stack
uploadable_stack header h old draft f legal all there e =
    let s = stack_is (known h) old draft f e in
    let line = legal_chain header h draft legal there in
    let xs = chain (known h) draft in
    let right = weaker (Contains (known h)) (λ k. IsUploadable k.changeset) (λ k at. (each_of IsRight (known h) k (known_right h all) at).0) xs line.known in
    let n = position_or_len (λ k. bytes_eq k.id s.0.id) xs in
    let later = later_linked (λ k. IsUploadable k.changeset) n None xs line.linked right in
    subst (AllByRecursion (λ c. IsUploadable c × HasParent c)) (sym s.1)
    (all_changesets (λ c. IsUploadable c × HasParent c) (drop (n + 1) xs) (subst (λ m. AllByRecursion (λ k. IsUploadable k.changeset × HasParent k.changeset) (drop m xs)) (let e : suc n ≡ n + 1 = omega arith in e) later))

uploadable_made : (header : Header) (h : List Entry) (ask : Ask) (body : Body) → IsLegal header h → AllUploadable h → is_ask h ask ≡ true → MadeBy h ask body → AllByRecursion IsUploadable (changesets_in body)
uploadable_made header h (PutContent bytes) body legal all asked m = subst (λ b. AllByRecursion IsUploadable (changesets_in b)) (sym m.1) tt
uploadable_made header h (PutWhole bytes pieces) body legal all asked m = subst (λ b. AllByRecursion IsUploadable (changesets_in b)) (sym m.3) tt
uploadable_made header h (PutChangeset bytes) body legal all asked m = subst (λ b. AllByRecursion IsUploadable (changesets_in b)) (sym m.3) ((what_is_uploaded bytes m.0 asked m.1).0, tt)
uploadable_made header h (SetBookmark caller name from to) body legal all asked m = subst (λ b. AllByRecursion IsUploadable (changesets_in b)) (sym m.0) tt
uploadable_made header h (SetPolicy caller text) body legal all asked m = subst (λ b. AllByRecursion IsUploadable (changesets_in b)) (sym m.0) tt
uploadable_made header h (LandDraft caller name draft moment) body legal all asked m =
    subst (λ b. AllByRecursion IsUploadable (changesets_in b)) (sym m.8)
    (uploadable_rewrite m.1.stack m.0 moment (head_is_id header h name m.0 legal m.2) (uploadable_stack header h m.0 draft m.1 legal all m.3 m.4) (none_found is_merge m.1.stack m.6))

uploadable_next : (header : Header) (h : List Entry) (body : Body) → IsLegal header h → AllUploadable h → MayFollow header h body → (b : Bool) → is_stored body ≡ b → AllByRecursion IsUploadable (changesets_in body)
uploadable_next header h body legal all m true s = let made = is_made header h body s m in uploadable_made header h made.ask body legal all made.asked made.made
uploadable_next header h (Fault breaking) legal all m false s = tt
uploadable_next header h (Content x n) legal all m false s = tt
uploadable_next header h (Whole x n parts) legal all m false s = tt
uploadable_next header h (Policy caller text) legal all m false s = tt
uploadable_next header h (Change c) legal all m false s = absurd (true≢false s)
uploadable_next header h (Book move) legal all m false s = tt
uploadable_next header h (Land landing) legal all m false s = absurd (true≢false s)

uploadable_push : (h : List Entry) (e : Entry) → AllUploadable h → AllByRecursion IsUploadable (changesets_in e.body) → AllUploadable (h ++ e ∷ [])
uploadable_push h e all more =
    subst (AllByRecursion IsUploadable) (sym (flat_map-append (λ e. changesets_in e.body) h (e ∷ [])))
    (all_append IsUploadable (flat_map (λ e. changesets_in e.body) h) (changesets_in e.body ++ []) all (subst (AllByRecursion IsUploadable) (sym (append-nil (changesets_in e.body))) more))

uploadable_on_from : (header : Header) (before later : List Entry) → IsLegal header before → AllUploadable before → GoesOn header before later → AllUploadable (before ++ later)
uploadable_on_from header before [] legal all goes = subst AllUploadable (sym (append-nil before)) all
uploadable_on_from header before (e ∷ later) legal all goes =
    subst AllUploadable (append_assoc before (e ∷ []) later)
    (uploadable_on_from header (before ++ e ∷ []) later ((IsLegal-push header before e).1 (legal, goes.0)) (uploadable_push before e all (uploadable_next header before e.body legal all goes.0 (is_stored e.body) refl)) goes.1)

pub all_uploadable : (header : Header) (h : List Entry) → IsLegal header h → AllUploadable h
all_uploadable header h legal = uploadable_on_from header [] h tt tt legal

pub uploadable_of_next : (header : Header) (h : List Entry) (body : Body) → IsLegal header h → is_stored body ≡ true → MayFollow header h body → AllByRecursion IsUploadable (changesets_in body)
uploadable_of_next header h body legal s m = uploadable_next header h body legal (all_uploadable header h legal) m true s

pub known_keep : (header : Header) (h : List Entry) (k : Known) → IsLegal header h → Contains (known h) k → (k.id ≡ id_of k.changeset) × IsTrue (is_changeset k.changeset) × (self_conflict k.changeset ≡ None) × (length (spelling k.changeset) ≤ most_encoded)
known_keep header h k legal at =
    let right = each_of IsRight (known h) k (known_right h (all_uploadable header h legal)) at in
    (right.1, right.0.keeps, right.0.no_conflict, right.0.short)

-- ---- the changesets of its entries

abbrev Rules : Changeset → Type 0
Rules c = is_changeset c ≡ true

abbrev IsClear : Changeset → Type 0
IsClear c = self_conflict c ≡ None

pub all_rules : (header : Header) (h : List Entry) → IsLegal header h → AllByRecursion Rules (flat_map (λ e. changesets_in e.body) h)
all_rules header h legal = weaker IsUploadable Rules (λ c u. u.keeps) (flat_map (λ e. changesets_in e.body) h) (all_uploadable header h legal)

pub all_clear : (header : Header) (h : List Entry) → IsLegal header h → AllByRecursion IsClear (flat_map (λ e. changesets_in e.body) h)
all_clear header h legal = weaker IsUploadable IsClear (λ c u. u.no_conflict) (flat_map (λ e. changesets_in e.body) h) (all_uploadable header h legal)
