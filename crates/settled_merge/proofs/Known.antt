-- The known changesets of a legal history, as manifests in memory want them: each under its id and once, after its parents, with no merge unresolved, and of trees that can be counted.
use Rattle.std.proofs.Common.{◌≡◌, ℕ, suc, ◌+◌, ◌*◌, ◌^◌, ◌≤◌, ◌<◌, Bool, true, false, cond, not, List, [], ◌∷◌, ◌++◌, map, length, reverse, refl, sym, ap, subst, ◌∙◌, arith, length-append}
use Rattle.std.specs.Prelude.{Option, None, Some, filter, flat_map, sum_by, bytes_eq, nat_le}
use Rattle.std.specs.List.{AllByRecursion, concat}
use Rattle.std.specs.Int.{w8, w16, w32, w64, to_be_bytes, cast_unsigned}
use mathlib.Core.Bool.{true≢false}
use Rattle.std.proofs.lemmas.Bool.{and_parts, leb-true}
use Rattle.std.proofs.lemmas.List.{length-map, reverse-reverse}
use Rattle.std.proofs.lemmas.List.Sums.{sum_by-cons}
use Rattle.byte_fields.specs.Bytes.{Id, sized}
use Rattle.changeset_model.specs.Path.{Path}
use Rattle.changeset_model.specs.Version.{version_byte}
use Rattle.changeset_model.specs.Changeset.{Changeset, edit_bytes, spelling}
use Rattle.history_model.specs.History.{Body, Content, Whole, Change, Book, Land, Policy, Fault, Entry, Known, bodies, is_stored, changesets_in, with_id, each_id_once, known, is_known}
use Rattle.history_model.specs.Chain.{changesets}
use Rattle.history_model.specs.Past.{Past, Begin, At, past}
use Rattle.history_model.specs.Tree.{files_in, is_dir}
use Rattle.history_model.specs.Journal.{Header, is_header, payload_len, record_len, size, landing_mark, moment_bytes, wrapped}
use Rattle.manifest_laws.specs.Bounds.{changesets_of}
use Rattle.manifest_laws.proofs.GoneRules.{deleted_kept}
use Rattle.manifest_laws.proofs.PastBounds.{past_files_counted}
use Rattle.manifest_laws.proofs.PastUnodes.{file_unode_right, known_dir_right}
use Rattle.manifest_laws.proofs.Lists.{behind_long}
use Rattle.merge_laws.specs.Resolved.{has_dir}
use Rattle.merge_laws.proofs.Pasts.{known_resolved}
use Rattle.reply_model.specs.Legal.{IsLegal}
use Rattle.reply_model.proofs.Parents.{HasParents-known}
use Rattle.reply_model.proofs.Lines.{known_once, known-append}
use Rattle.opening_laws.proofs.Rules.{all_rules, all_clear}
use Rattle.opening_laws.proofs.Sizes.{history_fits}
use Rattle.changeset_store.specs.Store.{known_at}
use Rattle.changeset_store.specs.Numbers.{AreApart}
use Rattle.changeset_store.specs.declared.store.TheConstants.{MOST_CHANGESETS}
use Rattle.changeset_store.proofs.Numbering.{each_once}
use Rattle.manifest_store.specs.Lines.{IsStore}
use Rattle.manifest_store.specs.Manifests.{IsRight, AreRight, AreManifests}
use Rattle.manifest_store.proofs.Settled.{still}
use Rattle.node_table.specs.Table.{Table}
use Rattle.manifest_laws.proofs.Bounds.{all_once}
use Rattle.manifest_store.proofs.Lines.{apart_of, known_here}
use Rattle.settled_merge.proofs.Merged.{merges_resolved}

-- ---- each under its id, and once

abbrev HasItsId : Known → Type 0
HasItsId k = with_id k.changeset ≡ k

have_ids : (cs : List Changeset) → AllByRecursion HasItsId (map with_id cs)
have_ids [] = tt
have_ids (c ∷ cs) = (refl, have_ids cs)

same_ids : (ks : List Known) → AllByRecursion HasItsId ks → map with_id (changesets ks) ≡ ks
same_ids [] all = refl
same_ids (k ∷ ks) all = λ i. all.0 i ∷ same_ids ks all.1 i

pub known_apart : (h : List Entry) → AreApart (reverse (known h))
known_apart h = apart_of (reverse (known h)) (known_once h)

once : (h : List Entry) → each_id_once (known h) ≡ known h
once h =
    ap each_id_once (sym (reverse-reverse (known h)))
    ∙ each_once (reverse (known h)) (known_apart h)
    ∙ reverse-reverse (known h)

-- ---- few enough to be numbered

fewer_filter : (q : Known → Bool) (ks : List Known) → length (filter q ks) ≤ length ks
fewer_filter q [] = omega arith
fewer_filter q (k ∷ ks) = by (fewer_filter q ks) (q k)
  where
    by : length (filter q ks) ≤ length ks → (b : Bool) → length (cond b (k ∷ filter q ks) (filter q ks)) ≤ suc (length ks)
    by later true = omega arith
    by later false = omega arith

fewer_once : (ks : List Known) → length (each_id_once ks) ≤ length ks
fewer_once [] = omega arith
fewer_once (k ∷ ks) =
    let part = fewer_filter (λ later. not (bytes_eq k.id later.id)) (each_id_once ks) in
    let rest = fewer_once ks in
    omega (arith, part, rest)

-- the date and the message's length alone have 16 bytes
spelling_long : (c : Changeset) → 16 ≤ length (spelling c)
spelling_long c =
    let last = behind_long ((0x43 ∷ version_byte c.version ∷ []) ∷ (length c.parents ∷ []) ∷ concat c.parents ∷ sized w16 c.author ∷ []) (to_be_bytes w64 (cast_unsigned w64 c.seconds) ∷ to_be_bytes w32 (cast_unsigned w32 c.offset) ∷ sized w32 c.message ∷ to_be_bytes w32 (length c.changes) ∷ flat_map (edit_bytes c.version) c.changes ∷ []) in
    omega (arith, last)

spellings_long : (cs : List Changeset) → 16 * length cs ≤ length (concat (map (λ c. sized w32 (spelling c)) cs))
spellings_long [] = omega arith
spellings_long (c ∷ cs) =
    let one = spelling_long c in
    let rest = spellings_long cs in
    let whole = length-append (sized w32 (spelling c)) (concat (map (λ c. sized w32 (spelling c)) cs)) in
    let part = length-append (to_be_bytes w32 (length (spelling c))) (spelling c) in
    omega (arith, one, rest, whole, part)

wrapped_long : (caller : Option (List ℕ)) (bytes : List ℕ) → length bytes ≤ length (wrapped caller bytes)
wrapped_long None bytes = omega arith
wrapped_long (Some caller) bytes = let whole = length-append (sized w8 caller) bytes in omega (arith, whole)

body_long : (b : Body) → 16 * length (changesets_in b) ≤ payload_len b
body_long (Content x n) = omega arith
body_long (Whole x n parts) = omega arith
body_long (Policy caller text) = omega arith
body_long (Change c) = let h = spelling_long c in omega (arith, h)
body_long (Book move) = omega arith
body_long (Land landing) =
    let h = spellings_long landing.new in
    let front = (landing_mark landing.moment ∷ []) ∷ sized w8 landing.name ∷ landing.old ∷ landing.draft ∷ moment_bytes landing.moment ∷ to_be_bytes w16 (length landing.new) ∷ [] in
    let g = behind_long front (map (λ c. sized w32 (spelling c)) landing.new) in
    let w = wrapped_long landing.caller (concat (front ++ map (λ c. sized w32 (spelling c)) landing.new)) in
    omega (arith, h, g, w)
body_long (Fault breaking) = omega arith

stored_long : (b : Body) (later : List Body) (n : ℕ) → n ≤ sum_by record_len later → (s : Bool) → is_stored b ≡ s → 16 * length (changesets_in b) + n ≤ sum_by record_len (cond s (b ∷ later) later)
stored_long b later n h true e =
    let one = body_long b in
    let more = sum_by-cons record_len b later in
    omega (arith, one, more)
stored_long (Content x m) later n h false e = absurd (true≢false e)
stored_long (Whole x m parts) later n h false e = absurd (true≢false e)
stored_long (Policy caller text) later n h false e = absurd (true≢false e)
stored_long (Change c) later n h false e = absurd (true≢false e)
stored_long (Book move) later n h false e = absurd (true≢false e)
stored_long (Land landing) later n h false e = absurd (true≢false e)
stored_long (Fault breaking) later n h false e = omega arith

history_long : (h : List Entry) → 16 * length (changesets_of h) ≤ sum_by record_len (bodies h)
history_long [] = omega arith
history_long (e ∷ h) =
    let both = length-append (changesets_in e.body) (changesets_of h) in
    let one = stored_long e.body (bodies h) (16 * length (changesets_of h)) (history_long h) (is_stored e.body) refl in
    omega (arith, both, one)

fits : (header : Header) (h : List Entry) → is_header header ≡ true → IsLegal header h → size h ≤ 34_359_738_368
fits header h limits legal =
    let parts = and_parts (nat_le 4_096 header.capacity) (nat_le header.capacity 34_359_738_368) limits in
    let least = leb-true 4_096 header.capacity parts.0 in
    let last = leb-true header.capacity 34_359_738_368 parts.1 in
    let whole = history_fits header h (omega (arith, least)) legal in
    omega (arith, last, whole)

few_known : (header : Header) (h : List Entry) → is_header header ≡ true → IsLegal header h → length (known h) ≤ MOST_CHANGESETS
few_known header h limits legal =
    let each = fewer_once (map with_id (changesets_of h)) in
    let same = length-map (changesets_of h) with_id in
    let long = history_long h in
    let whole = fits header h limits legal in
    omega (arith, each, same, long, whole)

pub is_store : (header : Header) (h : List Entry) → is_header header ≡ true → IsLegal header h → IsStore (known h)
is_store header h limits legal = record {
  ids = same_ids (known h) (all_once HasItsId (map with_id (changesets_of h)) (have_ids (changesets_of h)));
  once = once h;
  parents = HasParents-known header h legal;
  few = few_known header h limits legal;
}

-- ---- of trees that can be counted, and of nodes that can be spelled

dir_there : (q : Past) (d : Path) → has_dir q d ≡ true → is_dir (files_in q) d ≡ true
dir_there Begin d e = absurd (true≢false (sym e))
dir_there (At c first second) d e = e

pub is_right : (header : Header) (h : List Entry) (x : Id) → is_header header ≡ true → IsLegal header h → is_known (known h) x ≡ true → IsRight (past (known h) x)
is_right header h x limits legal there =
    let whole = fits header h limits legal in
    let rules = all_rules header h legal in
    let small : size h < 2 ^ 36 = omega (arith, whole) in
    record {
      resolved = known_resolved h x rules (all_clear header h legal) (merges_resolved header h x legal);
      counted = past_files_counted h x rules small;
      directories = λ d e. known_dir_right h x d rules small there (dir_there (past (known h) x) d e);
      files = λ p f e. file_unode_right h rules small x p f e;
      deletions = λ d. deleted_kept h x rules d small;
    }

pub are_right : (header : Header) (h : List Entry) → is_header header ≡ true → IsLegal header h → AreRight (known h)
are_right header h limits legal = λ n less. is_right header h (known_at (known h) n).id limits legal (known_here (known h) n less)

-- ---- manifests stay as the history grows

-- the limits are the same for both histories
pub manifests_stay : (header : Header) (h g : List Entry) (t : Table) → is_header header ≡ true → IsLegal header (h ++ g) → AreManifests (known h) t → AreManifests (known (h ++ g)) t
manifests_stay header h g t limits legal are =
    let all = known-append h g in
    subst (λ ks. AreManifests ks t) (sym all)
    (still (known h) _ t (subst IsStore all (is_store header (h ++ g) limits legal)) (subst AreRight all (are_right header (h ++ g) limits legal)) are)

-- no changeset is settled yet
pub manifests_first : (header : Header) (h : List Entry) (t : Table) → is_header header ≡ true → IsLegal header h → ((ks : List Known) → IsStore ks → AreRight ks → AreManifests ks t) → AreManifests (known h) t
manifests_first header h t limits legal all = all (known h) (is_store header h limits legal) (are_right header h limits legal)
