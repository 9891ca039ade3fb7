-- A file of a tree takes 45 bytes of the journal at least.
use Rattle.std.proofs.Common.{◌≡◌, ℕ, suc, ◌+◌, ◌*◌, ◌^◌, ◌<◌, ◌≤◌, Bool, true, false, cond, not, ◌&&◌, ◌||◌, List, [], ◌∷◌, ◌++◌, map, length, reverse, refl, sym, ap, subst, ◌∙◌, arith, length-append, append-nil}
use Rattle.std.specs.Prelude.{Option, Some, None, filter_map, flat_map, sum_by, bytes_eq, nat_lt, nat_le, ◌==◌, option_and_then, option_map}
use mathlib.Core.Bool.{true≢false}
use Rattle.std.specs.List.{AllByRecursion, list_any, list_all, concat, cons_option}
use Rattle.std.specs.Option.{option_map_or}
use Rattle.std.specs.declared.cmp.Ordering.{Ordering}
use Rattle.std.specs.declared.cmp.Ordering.TheVariants.{Less, Equal, Greater}
use Rattle.std.specs.Ordering.{eq_by_cmp}
use Rattle.std.specs.Int.{w8, w16, w32, w64, to_be_bytes, cast_unsigned}
use Rattle.std.specs.FinMap.{is_sorted, find as find_key}
use Rattle.std.specs.FinMap.Entries.{by_order}
use Rattle.std.proofs.lemmas.Bool.{and_parts, leb-true, eqb-true}
use Rattle.std.proofs.lemmas.List.{length-map}
use Rattle.std.proofs.lemmas.List.Sums.{sum_by-cons}
use Rattle.std.proofs.lemmas.List.Folds.{list_any-append}
use Rattle.byte_fields.specs.Bytes.{Id, sized, are_bytes, is_bytes}
use Rattle.byte_fields.proofs.Lists.{weaker, both_parts}
use Rattle.changeset_model.specs.Version.{Version, version_byte}
use Rattle.changeset_model.specs.Path.{Path, path_cmp, text_of, is_element, is_path, in_place, rising}
use Rattle.changeset_model.specs.Changeset.{File, CopySource, FileChange, Set, Delete, Changeset, file_of, set_at, sets_of, touched_paths, is_copied, file_bytes, copied_bytes, change_bytes, edit_bytes, spelling, most_size, is_change, are_parents, is_author, is_signed, is_message, self_conflict, are_changes, is_changeset}
use Rattle.changeset_model.proofs.Rising.{IsRising-rising}
use Rattle.history_model.specs.History.{Body, Content, Whole, Change, Book, Land, Policy, Fault, Entry, Known, bodies, is_stored, changesets_in, with_id, each_id_once, known}
use Rattle.history_model.specs.Chain.{first_parent, line_among, line, chain, changesets}
use Rattle.history_model.specs.Tree.{decides, tree, files}
use Rattle.history_model.specs.Journal.{payload_len, record_len, size, landing_mark, moment_bytes, wrapped}
use Rattle.history_model.proofs.Trees.{tree-append}
use Rattle.manifest_model.specs.Fsnode.{total_size}
use Rattle.manifest_model.proofs.Derivations.{among, tied_same, rising_has}
use Rattle.history_model.proofs.Landings.{or_true as or_right, or_left}
use Rattle.manifest_model.proofs.Links.{file_at-files}
use Rattle.manifest_laws.specs.Bounds.{changesets_of, ChangesetsKeepRules, chain_files}
use Rattle.manifest_laws.specs.Rules.{AreFiles}
use Rattle.manifest_laws.specs.Changes.{AreClear}
use Rattle.manifest_laws.proofs.Rules.{is_id}
use Rattle.manifest_laws.proofs.Totals.{total, total-append, total-map, total-reverse, total-filter}
use Rattle.manifest_laws.proofs.Under.{Files}
use Rattle.manifest_laws.proofs.Flat.{sets_in}
use Rattle.manifest_laws.proofs.Changes.{same_files, files_rise, filed_rise}
use Rattle.manifest_laws.proofs.Lists.{none_some, fewer_mapped, behind_long}
use Rattle.byte_fields.proofs.Lists.{all_filter, all_reverse}
use Rattle.history_model.proofs.Trees.{tree-one}
use Rattle.manifest_model.proofs.Links.{none_either}

-- ---- a changeset's spelling

text_long : (p : Path) → is_path p ≡ true → 1 ≤ length (text_of p)
text_long [] h = absurd (true≢false (sym h))
text_long (e ∷ []) h = element_long e (and_parts (is_element e) true (and_parts (nat_lt 0 (length (e ∷ []))) (list_all is_element (e ∷ [])) (and_parts (nat_lt 0 (length (e ∷ [])) && list_all is_element (e ∷ [])) (nat_le (length (text_of (e ∷ []))) 4096) h).0).1).0
  where
    element_long : (e : List ℕ) → is_element e ≡ true → 1 ≤ length e
    element_long [] g = absurd (true≢false (sym g))
    element_long (b ∷ e) g = omega arith
text_long (e ∷ f ∷ p) h = let both = length-append e (0x2F ∷ text_of (f ∷ p)) in omega (arith, both)

set_long : (v : Version) (p : Path) (f : File) (copied : Option CopySource) → is_path p ≡ true → is_bytes 32 f.content ≡ true → 45 ≤ length (edit_bytes v (p, Set f copied))
set_long v p f copied h g =
    let text : 1 ≤ length (text_of p) = text_long p h in
    let id : length f.content ≡ 32 = eqb-true (length f.content) 32 (and_parts (length f.content == 32) (are_bytes f.content) g).0 in
    let whole = length-append (sized w16 (text_of p)) (change_bytes v (Set f copied)) in
    let file = length-append (file_bytes f) (copied_bytes v copied) in
    let end : length (f.content ++ []) ≡ length f.content = ap length (append-nil f.content) in
    omega (arith, whole, file)

changed_id : (v : Version) (n : ℕ) (f : File) (copied : Option CopySource) → is_change v n (Set f copied) ≡ true → (f.size ≤ most_size) × (is_bytes 32 f.content ≡ true)
changed_id v n f copied h = let parts = and_parts (nat_le f.size most_size) (is_bytes 32 f.content) (and_parts (nat_le f.size most_size && is_bytes 32 f.content) (is_copied v n copied) h).0 in (leb-true f.size most_size parts.0, parts.1)

edits_long : (v : Version) (n : ℕ) (es : List (Path × FileChange)) → list_all (λ e. is_path e.0 && is_change v n e.1) es ≡ true → 45 * length (sets_in es) ≤ length (flat_map (edit_bytes v) es)
edits_long v n [] h = omega arith
edits_long v n ((p, Delete) ∷ es) h =
    let parts = and_parts (is_path p && is_change v n Delete) (list_all (λ e. is_path e.0 && is_change v n e.1) es) h in
    let rest = edits_long v n es parts.1 in
    let whole = length-append (edit_bytes v (p, Delete)) (flat_map (edit_bytes v) es) in
    omega (arith, whole)
edits_long v n ((p, Set f copied) ∷ es) h =
    let parts = and_parts (is_path p && is_change v n (Set f copied)) (list_all (λ e. is_path e.0 && is_change v n e.1) es) h in
    let rules = and_parts (is_path p) (is_change v n (Set f copied)) parts.0 in
    let one : 45 ≤ length (edit_bytes v (p, Set f copied)) = set_long v p f copied rules.0 (changed_id v n f copied rules.1).1 in
    let rest : 45 * length (sets_in es) ≤ length (flat_map (edit_bytes v) es) = edits_long v n es parts.1 in
    let whole = length-append (edit_bytes v (p, Set f copied)) (flat_map (edit_bytes v) es) in
    omega (arith, one, rest, whole)

pub changes_of : (c : Changeset) → is_changeset c ≡ true → list_all (λ e. is_path e.0 && is_change c.version (length c.parents) e.1) c.changes ≡ true
changes_of c h =
    let es = (and_parts (are_parents c.parents && is_author c.author && is_signed 64 c.seconds && is_signed 32 c.offset && is_message c.message) (are_changes c.version (length c.parents) c.changes) h).1 in
    (and_parts (nat_le (length c.changes) 4096) (list_all (λ e. is_path e.0 && is_change c.version (length c.parents) e.1) c.changes) (and_parts (nat_le (length c.changes) 4096 && list_all (λ e. is_path e.0 && is_change c.version (length c.parents) e.1) c.changes) (is_sorted path_cmp c.changes) es).0).1

pub sets_long : (c : Changeset) → is_changeset c ≡ true → 45 * length (sets_of c) ≤ length (spelling c)
sets_long c h =
    let last = behind_long ((0x43 ∷ version_byte c.version ∷ []) ∷ (length c.parents ∷ []) ∷ concat c.parents ∷ sized w16 c.author ∷ to_be_bytes w64 (cast_unsigned w64 c.seconds) ∷ to_be_bytes w32 (cast_unsigned w32 c.offset) ∷ sized w32 c.message ∷ to_be_bytes w32 (length c.changes) ∷ []) (flat_map (edit_bytes c.version) c.changes ∷ []) in
    let end : length (flat_map (edit_bytes c.version) c.changes ++ []) ≡ length (flat_map (edit_bytes c.version) c.changes) = ap length (append-nil (flat_map (edit_bytes c.version) c.changes)) in
    let edits = edits_long c.version (length c.parents) c.changes (changes_of c h) in
    omega (arith, last, end, edits)

-- ---- a history's changesets

abbrev pub weight : Changeset → ℕ
weight c = 45 * length (sets_of c)

abbrev pub IsRight : Changeset → Type 0
IsRight c = is_changeset c ≡ true

spellings_long : (cs : List Changeset) → AllByRecursion IsRight cs → total weight cs ≤ length (concat (map (λ c. sized w32 (spelling c)) cs))
spellings_long [] all = omega arith
spellings_long (c ∷ cs) all =
    let one = sets_long c all.0 in
    let rest = spellings_long cs all.1 in
    let whole = length-append (sized w32 (spelling c)) (concat (map (λ c. sized w32 (spelling c)) cs)) in
    let part = length-append (to_be_bytes w32 (length (spelling c))) (spelling c) in
    omega (arith, one, rest, whole, part)

wrapped_long : (caller : Option (List ℕ)) (bytes : List ℕ) → length bytes ≤ length (wrapped caller bytes)
wrapped_long None bytes = omega arith
wrapped_long (Some caller) bytes = let whole = length-append (sized w8 caller) bytes in omega (arith, whole)

body_long : (b : Body) → AllByRecursion IsRight (changesets_in b) → total weight (changesets_in b) ≤ payload_len b
body_long (Content x n) all = omega arith
body_long (Whole x n parts) all = omega arith
body_long (Policy caller text) all = omega arith
body_long (Change c) all = let h = sets_long c all.0 in omega (arith, h)
body_long (Book move) all = omega arith
body_long (Land landing) all =
    let h = spellings_long landing.new all in
    let front = (landing_mark landing.moment ∷ []) ∷ sized w8 landing.name ∷ landing.old ∷ landing.draft ∷ moment_bytes landing.moment ∷ to_be_bytes w16 (length landing.new) ∷ [] in
    let g = behind_long front (map (λ c. sized w32 (spelling c)) landing.new) in
    let w = wrapped_long landing.caller (concat (front ++ map (λ c. sized w32 (spelling c)) landing.new)) in
    omega (arith, h, g, w)
body_long (Fault breaking) all = omega arith

stored_long : (b : Body) (later : List Body) (n : ℕ) → AllByRecursion IsRight (changesets_in b) → n ≤ sum_by record_len later → (s : Bool) → is_stored b ≡ s → total weight (changesets_in b) + n ≤ sum_by record_len (cond s (b ∷ later) later)
stored_long b later n all h true e =
    let one = body_long b all in
    let more = sum_by-cons record_len b later in
    omega (arith, one, more)
stored_long (Content x m) later n all h false e = absurd (true≢false e)
stored_long (Whole x m parts) later n all h false e = absurd (true≢false e)
stored_long (Policy caller text) later n all h false e = absurd (true≢false e)
stored_long (Change c) later n all h false e = absurd (true≢false e)
stored_long (Book move) later n all h false e = absurd (true≢false e)
stored_long (Land landing) later n all h false e = absurd (true≢false e)
stored_long (Fault breaking) later n all h false e = omega arith

pub history_long : (h : List Entry) → AllByRecursion IsRight (changesets_of h) → total weight (changesets_of h) ≤ sum_by record_len (bodies h)
history_long [] all = omega arith
history_long (e ∷ h) all =
    let parts = both_parts IsRight (changesets_in e.body) (changesets_of h) all in
    let both = total-append weight (changesets_in e.body) (changesets_of h) in
    let one = stored_long e.body (bodies h) (total weight (changesets_of h)) parts.0 (history_long h parts.1) (is_stored e.body) refl in
    omega (arith, both, one)

-- ---- a chain's

total_once : (f : Known → ℕ) (ks : List Known) → total f (each_id_once ks) ≤ total f ks
total_once f [] = omega arith
total_once f (k ∷ ks) =
    let part = total-filter f (λ later. not (bytes_eq k.id later.id)) (each_id_once ks) in
    let rest = total_once f ks in
    omega (arith, part, rest)

pub line_part : (f : Known → ℕ) (older : List Known) → ((x : Id) → total f (line_among older x) ≤ total f older) → (o : Option Id) → total f (option_map_or (line_among older) o []) ≤ total f older
line_part f older h None = omega arith
line_part f older h (Some x) = h x

line_by : (f : Known → ℕ) (k : Known) (older : List Known) (x : Id) → ((x : Id) → total f (line_among older x) ≤ total f older) → (b : Bool) → total f (cond b (k ∷ option_map_or (line_among older) (first_parent k.changeset) []) (line_among older x)) ≤ f k + total f older
line_by f k older x h true = let g = line_part f older h (first_parent k.changeset) in omega (arith, g)
line_by f k older x h false = let g = h x in omega (arith, g)

total_line : (f : Known → ℕ) (ks : List Known) (x : Id) → total f (line_among ks x) ≤ total f ks
total_line f [] x = omega arith
total_line f (k ∷ older) x = line_by f k older x (total_line f older) (bytes_eq k.id x)

total_chain : (f : Known → ℕ) (ks : List Known) (x : Id) → total f (chain ks x) ≤ total f ks
total_chain f ks x =
    let a = total-reverse f (line_among (reverse ks) x) in
    let b = total_line f (reverse ks) x in
    let c = total-reverse f ks in
    omega (arith, a, b, c)

chain_light : (h : List Entry) (x : Id) → total weight (changesets (chain (known h) x)) ≤ total weight (changesets_of h)
chain_light h x =
    let a = total-map weight (λ (k : Known). k.changeset) (chain (known h) x) in
    let b = total_chain (λ k. weight k.changeset) (known h) x in
    let c = total_once (λ k. weight k.changeset) (map with_id (changesets_of h)) in
    let d = total-map (λ (k : Known). weight k.changeset) with_id (changesets_of h) in
    omega (arith, a, b, c, d)

pub all_once : (P : Known → Type 0) (ks : List Known) → AllByRecursion P ks → AllByRecursion P (each_id_once ks)
all_once P [] all = tt
all_once P (k ∷ ks) all = (all.0, all_filter P (λ later. not (bytes_eq k.id later.id)) (each_id_once ks) (all_once P ks all.1))

all_line_part : (P : Known → Type 0) (older : List Known) → ((x : Id) → AllByRecursion P (line_among older x)) → (o : Option Id) → AllByRecursion P (option_map_or (line_among older) o [])
all_line_part P older h None = tt
all_line_part P older h (Some x) = h x

all_line_by : (P : Known → Type 0) (k : Known) (older : List Known) (x : Id) → P k → ((x : Id) → AllByRecursion P (line_among older x)) → (b : Bool) → AllByRecursion P (cond b (k ∷ option_map_or (line_among older) (first_parent k.changeset) []) (line_among older x))
all_line_by P k older x h hs true = (h, all_line_part P older hs (first_parent k.changeset))
all_line_by P k older x h hs false = hs x

pub all_line : (P : Known → Type 0) (ks : List Known) → AllByRecursion P ks → (x : Id) → AllByRecursion P (line_among ks x)
all_line P [] all x = tt
all_line P (k ∷ older) all x = all_line_by P k older x all.0 (all_line P older all.1) (bytes_eq k.id x)

pub all_with_id : (P : Changeset → Type 0) (cs : List Changeset) → AllByRecursion P cs → AllByRecursion (λ (k : Known). P k.changeset) (map with_id cs)
all_with_id P [] all = tt
all_with_id P (c ∷ cs) all = (all.0, all_with_id P cs all.1)

pub all_changesets : (P : Changeset → Type 0) (ks : List Known) → AllByRecursion (λ k. P k.changeset) ks → AllByRecursion P (changesets ks)
all_changesets P [] all = tt
all_changesets P (k ∷ ks) all = (all.0, all_changesets P ks all.1)

pub chain_right : (h : List Entry) (x : Id) → ChangesetsKeepRules h → AllByRecursion IsRight (changesets (chain (known h) x))
chain_right h x all =
    let P : Known → Type 0 = λ k. is_changeset k.changeset ≡ true in
    all_changesets IsRight (chain (known h) x)
    (all_reverse P (line_among (reverse (known h)) x) (all_line P (reverse (known h)) (all_reverse P (known h) (all_once P (map with_id (changesets_of h)) (all_with_id IsRight (changesets_of h) all))) x))

-- the ids of known changesets are digests
pub ids_known : (cs : List Changeset) → AllByRecursion (λ k. is_bytes 32 k.id ≡ true) (map with_id cs)
ids_known [] = tt
ids_known (c ∷ cs) = (is_id (spelling c), ids_known cs)

pub line_ids : (h : List Entry) (x : Id) → AllByRecursion (λ k. is_bytes 32 k.id ≡ true) (line (known h) x)
line_ids h x =
    let P : Known → Type 0 = λ k. is_bytes 32 k.id ≡ true in
    all_line P (reverse (known h)) (all_reverse P (known h) (all_once P (map with_id (changesets_of h)) (ids_known (changesets_of h)))) x

pub line_clear : (h : List Entry) (x : Id) → AreClear (changesets_of h) → AreClear (changesets (line (known h) x))
line_clear h x all =
    let P : Known → Type 0 = λ k. self_conflict k.changeset ≡ None in
    all_changesets (λ c. self_conflict c ≡ None) (line (known h) x)
    (all_line P (reverse (known h)) (all_reverse P (known h) (all_once P (map with_id (changesets_of h)) (all_with_id (λ c. self_conflict c ≡ None) (changesets_of h) all))) x)

pub chain_clear : (h : List Entry) (x : Id) → AreClear (changesets_of h) → AreClear (changesets (chain (known h) x))
chain_clear h x all =
    let P : Known → Type 0 = λ k. self_conflict k.changeset ≡ None in
    all_changesets (λ c. self_conflict c ≡ None) (chain (known h) x)
    (all_reverse P (line (known h) x) (all_line P (reverse (known h)) (all_reverse P (known h) (all_once P (map with_id (changesets_of h)) (all_with_id (λ c. self_conflict c ≡ None) (changesets_of h) all))) x))

-- ---- the files of a tree

abbrev pub with_file : (Path → Option File) → Path → Option (Path × File)
with_file g p = option_map (λ f. (p, f)) (g p)

abbrev find_with : Bool → Option File → Option File → Option File
find_with b None found = found
find_with b (Some f) found = cond b (Some f) found

find_first : (p q : Path) (o : Option File) (rest : Files) → find_key path_cmp p (cons_option (option_map (λ f. (q, f)) o) rest) ≡ find_with (eq_by_cmp path_cmp p q) o (find_key path_cmp p rest)
find_first p q None rest = refl
find_first p q (Some f) rest = refl

found_by : (g : Path → Option File) (p q : Path) (found : Option File) (m : Bool) → found ≡ cond m (g p) None → (b : Bool) → eq_by_cmp path_cmp p q ≡ b → (o : Option File) → g q ≡ o → find_with b o found ≡ cond (b || m) (g p) None
found_by g p q found m ih true e (Some f) at = sym (ap g (tied_same p q e) ∙ at)
found_by g p q found m ih true e None at = ih ∙ none_either m (g p) (ap g (tied_same p q e) ∙ at)
found_by g p q found m ih false e (Some f) at = ih
found_by g p q found m ih false e None at = ih

pub found_in : (g : Path → Option File) (p : Path) (qs : List Path) → find_key path_cmp p (filter_map (with_file g) qs) ≡ cond (among p qs) (g p) None
found_in g p [] = refl
found_in g p (q ∷ qs) =
    find_first p q (g q) (filter_map (with_file g) qs)
    ∙ found_by g p q (find_key path_cmp p (filter_map (with_file g) qs)) (among p qs) (found_in g p qs) (eq_by_cmp path_cmp p q) refl (g q) refl

abbrev pub set_paths : List Changeset → List Path
set_paths cs = flat_map (λ c. map (λ f. f.0) (sets_of c)) cs

set_among_by : (p r : Path) (f : File) (change : FileChange) (es : List (Path × FileChange)) → (option_and_then file_of (find_key path_cmp p es) ≡ Some f → among p (map (λ f. f.0) (sets_in es)) ≡ true) → (b : Bool) → eq_by_cmp path_cmp p r ≡ b → option_and_then file_of (cond b (Some change) (find_key path_cmp p es)) ≡ Some f → among p (map (λ f. f.0) (cons_option (option_map (λ f. (r, f)) (file_of change)) (sets_in es))) ≡ true
set_among_by p r f (Set g copied) es ih true t h = or_left (eq_by_cmp path_cmp p r) (among p (map (λ f. f.0) (sets_in es))) t
set_among_by p r f Delete es ih true t h = none_some f h
set_among_by p r f (Set g copied) es ih false t h = or_right (eq_by_cmp path_cmp p r) (among p (map (λ f. f.0) (sets_in es))) (ih h)
set_among_by p r f Delete es ih false t h = ih h

pub set_among : (p : Path) (f : File) (es : List (Path × FileChange)) → option_and_then file_of (find_key path_cmp p es) ≡ Some f → among p (map (λ f. f.0) (sets_in es)) ≡ true
set_among p f [] h = none_some f h
set_among p f ((r, change) ∷ es) h = set_among_by p r f change es (set_among p f es) (eq_by_cmp path_cmp p r) refl h

pub decided_some : (b : Bool) (o : Option File) (f : File) → cond b o None ≡ Some f → o ≡ Some f
decided_some true o f h = h
decided_some false o f h = none_some f h

from_tree_by : {P : Type 0} (c : Changeset) (cs : List Changeset) (p : Path) (f : File) → (set_at c p ≡ Some f → P) → (tree cs p ≡ Some f → P) → (b : Bool) → cond b (tree cs p) (tree (c ∷ []) p) ≡ Some f → P
from_tree_by c cs p f here later true h = later h
from_tree_by c cs p f here later false h = here (decided_some (decides c p) (set_at c p) f (sym (tree-one c p) ∙ h))

-- a file of a tree was set by its first changeset, or is in the tree of the rest
from_tree : {P : Type 0} (c : Changeset) (cs : List Changeset) (p : Path) (f : File) → (set_at c p ≡ Some f → P) → (tree cs p ≡ Some f → P) → tree (c ∷ cs) p ≡ Some f → P
from_tree c cs p f here later h = from_tree_by c cs p f here later (list_any (λ d. decides d p) cs) (sym (tree-append (c ∷ []) cs p) ∙ h)

set_somewhere : (cs : List Changeset) (p : Path) (f : File) → tree cs p ≡ Some f → among p (set_paths cs) ≡ true
set_somewhere [] p f h = none_some f h
set_somewhere (c ∷ cs) p f h =
    list_any-append (eq_by_cmp path_cmp p) (map (λ f. f.0) (sets_of c)) (set_paths cs)
    ∙ from_tree c cs p f
    (λ g. or_left (among p (map (λ f. f.0) (sets_of c))) (among p (set_paths cs)) (set_among p f c.changes g))
    (λ g. or_right (among p (map (λ f. f.0) (sets_of c))) (among p (set_paths cs)) (set_somewhere cs p f g)) h

nothing_by : (cs : List Changeset) (p : Path) → (b : Bool) → among p (rising (set_paths cs)) ≡ b → (o : Option File) → tree cs p ≡ o → cond b (tree cs p) None ≡ tree cs p
nothing_by cs p true e o at = refl
nothing_by cs p false e None at = sym at
nothing_by cs p false e (Some f) at = absurd (true≢false (sym (rising_has p (set_paths cs) (set_somewhere cs p f at)) ∙ e))

files_by_sets : (cs : List Changeset) → files cs ≡ filter_map (with_file (tree cs)) (rising (set_paths cs))
files_by_sets cs =
    same_files (files cs) (filter_map (with_file (tree cs)) (rising (set_paths cs))) (files_rise cs) (filed_rise (tree cs) (rising (set_paths cs)) (IsRising-rising (set_paths cs)))
    (λ p. file_at-files cs p ∙ sym (found_in (tree cs) p (rising (set_paths cs)) ∙ nothing_by cs p (among p (rising (set_paths cs))) refl (tree cs p) refl))

fewer_by : (p q : Path) (qs later : List Path) → length later ≤ suc (length qs) → (o : Ordering) → length (by_order o (p ∷ q ∷ qs) (q ∷ qs) (q ∷ later)) ≤ suc (suc (length qs))
fewer_by p q qs later h Less = omega arith
fewer_by p q qs later h Equal = omega arith
fewer_by p q qs later h Greater = omega arith

fewer_placed : (p : Path) (qs : List Path) → length (in_place p qs) ≤ suc (length qs)
fewer_placed p [] = omega arith
fewer_placed p (q ∷ qs) = fewer_by p q qs (in_place p qs) (fewer_placed p qs) (path_cmp p q)

pub fewer_rising : (ps : List Path) → length (rising ps) ≤ length ps
fewer_rising [] = omega arith
fewer_rising (p ∷ ps) = let h = fewer_placed p (rising ps) in let g = fewer_rising ps in omega (arith, h, g)

pub sets_counted : (cs : List Changeset) → 45 * length (set_paths cs) ≤ total weight cs
sets_counted [] = omega arith
sets_counted (c ∷ cs) =
    let both = length-append (map (λ (f : Path × File). f.0) (sets_of c)) (set_paths cs) in
    let one = length-map (sets_of c) (λ (f : Path × File). f.0) in
    let rest = sets_counted cs in
    omega (arith, both, one, rest)

pub files_light : (cs : List Changeset) → 45 * length (files cs) ≤ total weight cs
files_light cs =
    let a : length (files cs) ≡ length (filter_map (with_file (tree cs)) (rising (set_paths cs))) = ap length (files_by_sets cs) in
    let b = fewer_mapped (with_file (tree cs)) (rising (set_paths cs)) in
    let c = fewer_rising (set_paths cs) in
    let d = sets_counted cs in
    omega (arith, a, b, c, d)

pub files_bounded : (h : List Entry) (x : Id) → ChangesetsKeepRules h → 45 * length (chain_files h x) ≤ size h
files_bounded h x all =
    let a = files_light (changesets (chain (known h) x)) in
    let b = chain_light h x in
    let c = history_long h all in
    omega (arith, a, b, c)

-- ---- each file keeps the rules

pub record FileRules (p : Path) (f : File) : Type 0 where
  pub path : is_path p ≡ true
  pub named : list_all is_element p ≡ true
  pub with_id : is_bytes 32 f.content ≡ true
  pub small : f.size ≤ most_size

rules_set : (v : Version) (n : ℕ) (p : Path) (f : File) (copied : Option CopySource) → (is_path p && is_change v n (Set f copied)) ≡ true → FileRules p f
rules_set v n p f copied h =
    let parts = and_parts (is_path p) (is_change v n (Set f copied)) h in
    let rules = changed_id v n f copied parts.1 in
    record {
      path = parts.0;
      named = (and_parts (nat_lt 0 (length p)) (list_all is_element p) (and_parts (nat_lt 0 (length p) && list_all is_element p) (nat_le (length (text_of p)) 4096) parts.0).0).1;
      with_id = rules.1;
      small = rules.0;
    }

rules_by : (v : Version) (n : ℕ) (p r : Path) (f : File) (change : FileChange) (es : List (Path × FileChange)) → (is_path r && is_change v n change) ≡ true → (option_and_then file_of (find_key path_cmp p es) ≡ Some f → FileRules p f) → (b : Bool) → eq_by_cmp path_cmp p r ≡ b → option_and_then file_of (cond b (Some change) (find_key path_cmp p es)) ≡ Some f → FileRules p f
rules_by v n p r f (Set g copied) es rule ih true t h = subst (FileRules p) (ap (λ o. option_map_or (λ x. x) o f) h) (rules_set v n p g copied (ap (λ q. is_path q && is_change v n (Set g copied)) (tied_same p r t) ∙ rule))
rules_by v n p r f Delete es rule ih true t h = none_some f h
rules_by v n p r f change es rule ih false t h = ih h

pub rules_in : (v : Version) (n : ℕ) (p : Path) (f : File) (es : List (Path × FileChange)) → list_all (λ e. is_path e.0 && is_change v n e.1) es ≡ true → option_and_then file_of (find_key path_cmp p es) ≡ Some f → FileRules p f
rules_in v n p f [] rules h = none_some f h
rules_in v n p f ((r, change) ∷ es) rules h =
    let parts = and_parts (is_path r && is_change v n change) (list_all (λ e. is_path e.0 && is_change v n e.1) es) rules in
    rules_by v n p r f change es parts.0 (rules_in v n p f es parts.1) (eq_by_cmp path_cmp p r) refl h

pub rules_tree : (cs : List Changeset) → AllByRecursion IsRight cs → (p : Path) (f : File) → tree cs p ≡ Some f → FileRules p f
rules_tree [] all p f h = none_some f h
rules_tree (c ∷ cs) all p f h = from_tree c cs p f (λ g. rules_in c.version (length c.parents) p f c.changes (changes_of c all.0) g) (λ g. rules_tree cs all.1 p f g) h

pub rules_filed : (t : Path → Option File) → ((p : Path) (f : File) → t p ≡ Some f → FileRules p f) → (ps : List Path) → AllByRecursion (λ f. FileRules f.0 f.1) (filter_map (with_file t) ps)
rules_filed t good [] = tt
rules_filed t good (p ∷ ps) = by (t p) refl (rules_filed t good ps)
  where
    by : (o : Option File) → t p ≡ o → AllByRecursion (λ f. FileRules f.0 f.1) (filter_map (with_file t) ps) → AllByRecursion (λ f. FileRules f.0 f.1) (cons_option (option_map (λ f. (p, f)) o) (filter_map (with_file t) ps))
    by None e rest = rest
    by (Some f) e rest = (good p f e, rest)

pub rules_files : (cs : List Changeset) → AllByRecursion IsRight cs → AllByRecursion (λ f. FileRules f.0 f.1) (files cs)
rules_files cs all = rules_filed (tree cs) (rules_tree cs all) (touched_paths cs)

pub sizes_bounded : (fs : Files) → AllByRecursion (λ f. FileRules f.0 f.1) fs → total_size fs ≤ most_size * length fs
sizes_bounded [] all = omega arith
sizes_bounded (f ∷ fs) all =
    let one : f.1.size ≤ most_size = all.0.small in
    let rest = sizes_bounded fs all.1 in
    let more = sum_by-cons (λ (f : Path × File). f.1.size) f fs in
    omega (arith, one, rest, more)

pub total_bounded : (h : List Entry) (x : Id) → ChangesetsKeepRules h → total_size (chain_files h x) ≤ most_size * length (chain_files h x)
total_bounded h x all = sizes_bounded (chain_files h x) (rules_files (changesets (chain (known h) x)) (chain_right h x all))

pub files_few : (h : List Entry) (x : Id) → ChangesetsKeepRules h → size h ≤ 34_359_738_368 → length (chain_files h x) < 2 ^ 30
files_few h x all small = let a = files_bounded h x all in omega (arith, a)

pub files_counted : (h : List Entry) (x : Id) → ChangesetsKeepRules h → size h < 2 ^ 36 → AreFiles (chain_files h x)
files_counted h x all small =
    let cs = changesets (chain (known h) x) in
    let good = rules_files cs (chain_right h x all) in
    let a = files_bounded h x all in
    let b = total_bounded h x all in
    record {
      rising = files_rise cs;
      named = weaker (λ (f : Path × File). FileRules f.0 f.1) (λ f. list_all is_element f.0 ≡ true) (λ f g. g.named) (files cs) good;
      with_ids = weaker (λ (f : Path × File). FileRules f.0 f.1) (λ f. is_bytes 32 f.1.content ≡ true) (λ f g. g.with_id) (files cs) good;
      few = omega (arith, a);
      small = omega (arith, a, b);
    }
