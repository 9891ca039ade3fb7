-- The unodes of a known changeset with its past can be spelled.
use Rattle.std.proofs.Common.{◌≡◌, ℕ, suc, ◌+◌, ◌^◌, ◌<◌, ◌≤◌, ◌⊎◌, inl, inr, Bool, true, false, cond, ◌&&◌, ◌||◌, List, [], ◌∷◌, ◌++◌, map, length, reverse, refl, sym, ap, subst, ◌∙◌, arith}
use Rattle.std.specs.Prelude.{Option, Some, None, filter_map, is_some, bytes_eq, nat_le, ◌==◌}
use mathlib.Core.Bool.{true≢false}
use mathlib.Core.List.{reverse-cons}
use Rattle.std.specs.List.{AllByRecursion, list_any, list_all, cons_option, dedup, dedup_from}
use Rattle.std.specs.Option.{option_map_or}
use Rattle.std.proofs.lemmas.Bool.{and_parts, or_parts, le-leb}
use Rattle.std.proofs.lemmas.List.{length-map, length-append}
use Rattle.sha2.specs.Sha256.{sha256}
use Rattle.byte_fields.specs.Bytes.{Id, is_bytes}
use Rattle.byte_fields.proofs.Lists.{weaker}
use Rattle.byte_fields.proofs.Booleans.{or_turned}
use Rattle.std.proofs.lemmas.List.Folds.{list_any-append}
use Rattle.changeset_model.specs.Path.{Path, text_of, is_element, is_strict_prefix}
use Rattle.changeset_model.specs.Changeset.{File, set_at, touched_paths}
use Rattle.changeset_model.proofs.Rising.{touched_paths_rise}
use Rattle.history_model.specs.History.{Entry, Known, known, is_known}
use Rattle.history_model.specs.Chain.{first_parent}
use Rattle.history_model.specs.Past.{Past, Begin, At, second_of, past_among, past, changesets_of as reached_by}
use Rattle.history_model.specs.Tree.{decides, tree_of, files_in, files_of, file_at, is_file, is_dir, below, children, names, depth}
use Rattle.history_model.specs.Journal.{size}
use Rattle.history_model.proofs.Landings.{or_true as or_right, or_left}
use Rattle.manifest_model.specs.Fsnode.{are_entries}
use Rattle.manifest_model.specs.Unode.{Unode, UnodeEntry, Manifest, FileUnode, unode_bytes, unode_id, unode_entry, is_unode, is_unode_entry, is_renewed}
use Rattle.manifest_model.specs.Merged.{Side, parents_from, differ, kept, is_new_file, is_new_dir, files_before, dirs_before, file_unode_on, merged_within, side_of, unode_at}
use Rattle.manifest_model.proofs.Deletions.{file_at-files_in}
use Rattle.manifest_laws.specs.Bounds.{changesets_of, ChangesetsKeepRules}
use Rattle.manifest_laws.specs.Rules.{AreFiles}
use Rattle.manifest_laws.proofs.Under.{Files}
use Rattle.manifest_laws.proofs.Names.{Name, keyed}
use Rattle.manifest_laws.proofs.Changes.{filed_rise}
use Rattle.manifest_laws.proofs.Flat.{unset_under, has_under, any_under}
use Rattle.manifest_laws.proofs.Lists.{none_some, fewer_mapped}
use Rattle.manifest_laws.proofs.Rules.{is_id, files_below, entries_kept, all_keyed, fewer_once}
use Rattle.manifest_laws.proofs.Bounds.{IsRight, history_long, FileRules, rules_filed, sizes_bounded}
use Rattle.manifest_laws.proofs.PastBounds.{AllOf, past_all, from_either, SetsAmong, files_light, sets_of_past, rules_past}
use Rattle.manifest_laws.proofs.GoneRules.{HasDigest, digests}

-- ---- a node's parents

all_from : (P : List ℕ → Bool) (k : List ℕ) (xs : List (List ℕ)) → P k ≡ true → list_all P xs ≡ true → list_all P (dedup_from bytes_eq k xs) ≡ true
all_from P k [] h g = λ i. h i && true
all_from P k (x ∷ xs) h g =
    let parts = and_parts (P x) (list_all P xs) g in
    by (bytes_eq x k) (all_from P k xs h parts.1) (all_from P x xs parts.0 parts.1)
  where
    by : (b : Bool) → list_all P (dedup_from bytes_eq k xs) ≡ true → list_all P (dedup_from bytes_eq x xs) ≡ true → list_all P (cond b (dedup_from bytes_eq k xs) (k ∷ dedup_from bytes_eq x xs)) ≡ true
    by true same later = same
    by false same later = λ i. h i && later i

all_dedup : (P : List ℕ → Bool) (xs : List (List ℕ)) → list_all P xs ≡ true → list_all P (dedup bytes_eq xs) ≡ true
all_dedup P [] h = refl
all_dedup P (x ∷ xs) h = let parts = and_parts (P x) (list_all P xs) h in all_from P x xs parts.0 parts.1

all_ids : (ns : List Unode) → list_all (is_bytes 32) (map unode_id ns) ≡ true
all_ids [] = refl
all_ids (n ∷ ns) = λ i. is_id (unode_bytes n) i && all_ids ns i

parents_digests : (ns : List Unode) → list_all (is_bytes 32) (parents_from ns) ≡ true
parents_digests ns = all_dedup (is_bytes 32) (map unode_id ns) (all_ids ns)

parents_few : (ns : List Unode) → length ns ≤ 2 → nat_le (length (parents_from ns)) 2 ≡ true
parents_few ns few =
    let a = fewer_once (map unode_id ns) in
    let b = length-map ns unode_id in
    le-leb (length (parents_from ns)) 2 (omega (arith, a, b))

-- ---- two sides at most

one_side : (q : Past) → length (side_of q (unode_at q)) ≤ 1
one_side Begin = omega arith
one_side (At k first second) = omega arith

abbrev sides_of : Past → Past → List Side
sides_of first second = side_of first (unode_at first) ++ side_of second (unode_at second)

two_sides : (first second : Past) → length (sides_of first second) ≤ 2
two_sides first second =
    let a = one_side first in
    let b = one_side second in
    let c = length-append (side_of first (unode_at first)) (side_of second (unode_at second)) in
    omega (arith, a, b, c)

-- the nodes that a path has at the sides that pass a test
abbrev seen_by : (Files → Path → Bool) → List Side → Path → List Unode
seen_by t sides p = filter_map (λ (side : Side). cond (t side.files p) (Some (side.unode_at p)) None) sides

few_seen : (t : Files → Path → Bool) (first second : Past) (p : Path) → length (seen_by t (sides_of first second) p) ≤ 2
few_seen t first second p =
    let a = fewer_mapped (λ (side : Side). cond (t side.files p) (Some (side.unode_at p)) None) (sides_of first second) in
    let b = two_sides first second in
    omega (arith, a, b)

-- ---- the node of a parent is right

abbrev IsThere : Files → Path → Type 0
IsThere files p = (is_file files p || is_dir files p) ≡ true

abbrev AreRight : Past → Type 0
AreRight Begin = Unit {0}
AreRight (At k first second) = (p : Path) → IsThere (files_in (At k first second)) p → is_unode (unode_at (At k first second) p) ≡ true

-- there is such a parent and it passes
abbrev Passes : (Files → Path → Bool) → Past → Path → Type 0
Passes t Begin p = ⊥
Passes t (At k first second) p = t (files_in (At k first second)) p ≡ true

module _ (t : Files → Path → Bool) (there : (files : Files) (p : Path) → t files p ≡ true → IsThere files p) where
  last_kept : (q : Past) → AreRight q → (p : Path) → Passes t q p → is_unode (kept (seen_by t (side_of q (unode_at q)) p)) ≡ true
  last_kept Begin right p passes = absurd passes
  last_kept (At k first second) right p passes =
      let q = At k first second in
      ap (λ b. is_unode (kept (cons_option (cond b (Some (unode_at q p)) None) []))) passes ∙ right p (there (files_in q) p passes)

  first_kept : (k : Known) (first second other : Past) → AreRight (At k first second) → AreRight other → (p : Path) (b : Bool) → t (files_in (At k first second)) p ≡ b → (b ≡ true) ⊎ Passes t other p → is_unode (kept (cons_option (cond b (Some (unode_at (At k first second) p)) None) (seen_by t (side_of other (unode_at other)) p))) ≡ true
  first_kept k first second other right others p true e some = right p (there (files_in (At k first second)) p e)
  first_kept k first second other right others p false e (inl passes) = absurd (true≢false (sym passes))
  first_kept k first second other right others p false e (inr passes) = last_kept other others p passes

  kept_right : (q other : Past) → AreRight q → AreRight other → (p : Path) → Passes t q p ⊎ Passes t other p → is_unode (kept (seen_by t (sides_of q other) p)) ≡ true
  kept_right Begin other right others p (inl passes) = absurd passes
  kept_right Begin other right others p (inr passes) = last_kept other others p passes
  kept_right (At k first second) other right others p (inl passes) = first_kept k first second other right others p (t (files_in (At k first second)) p) refl (inl passes)
  kept_right (At k first second) other right others p (inr passes) = first_kept k first second other right others p (t (files_in (At k first second)) p) refl (inr passes)

-- a file of a parent's tree, and a directory
file_passes : (q : Past) (p : Path) (f : File) → tree_of q p ≡ Some f → Passes is_file q p
file_passes Begin p f e = none_some f e
file_passes (At k first second) p f e = ap is_some (file_at-files_in (At k first second) p ∙ e)

dir_passes : (q : Past) (d p : Path) (f : File) → is_strict_prefix d p ≡ true → tree_of q p ≡ Some f → Passes is_dir q d
dir_passes Begin d p f under e = none_some f e
dir_passes (At k first second) d p f under e =
    or_right (length d == 0) (list_any (λ f. is_strict_prefix d f.0) (files_in (At k first second))) (any_under (files_in (At k first second)) d p under (ap is_some (file_at-files_in (At k first second) p ∙ e)))

-- ---- the node of a changeset

some_of : (o : Option File) → is_some o ≡ true → (f : File) × (o ≡ Some f)
some_of None h = absurd (true≢false (sym h))
some_of (Some f) h = (f, refl)

none_set : (o : Option File) → is_some o ≡ false → (f : File) → o ≡ Some f → ⊥
none_set None e f h = absurd cc
none_set (Some g) e f h = absurd (true≢false e)

unset : (o : Option File) (f : File) → o ≡ None → o ≡ Some f → ⊥
unset None f e h = absurd cc
unset (Some g) f e h = absurd cc

fused : {X Y Z : Type 0} (h : X → Y) (g : X × Y → Z) (xs : List X) → map {B = X × Z} (λ (c : X × Y). (c.0, g c)) (map {B = X × Y} (λ x. (x, h x)) xs) ≡ map {B = X × Z} (λ x. (x, g (x, h x))) xs
fused h g [] = refl
fused {X} {Y} {Z} h g (x ∷ xs) = ap (λ (rest : List (X × Z)). (x, g (x, h x)) ∷ rest) (fused h g xs)

entry_right : (o : Option File) (n : Unode) → is_unode_entry (unode_entry o (unode_id n)) ≡ true
entry_right None n = is_id (unode_bytes n)
entry_right (Some f) n = is_id (unode_bytes n)

entries_right : (at : Name → Option File) (node : Name → Unode) (ns : List Name) → list_all (λ n. is_unode_entry (unode_entry (at n) (unode_id (node n)))) ns ≡ true
entries_right at node [] = refl
entries_right at node (n ∷ ns) = λ i. entry_right (at n) (node n) i && entries_right at node ns i

module _ (k : Known) (first second : Past) (digest : is_bytes 32 k.id ≡ true) (rules : (p : Path) (f : File) → tree_of (At k first second) p ≡ Some f → FileRules p f) (counted : AreFiles (files_in (At k first second))) (left : AreRight first) (right : AreRight second) where
  abbrev now : Files
  now = files_in (At k first second)

  abbrev sides : List Side
  sides = sides_of first second

  file_of_tree : (p : Path) (f : File) → file_at now p ≡ Some f → tree_of (At k first second) p ≡ Some f
  file_of_tree p f e = sym (file_at-files_in (At k first second) p) ∙ e

  file_there : (files : Files) (p : Path) → is_file files p ≡ true → IsThere files p
  file_there files p h = or_left (is_file files p) (is_dir files p) h

  dir_there : (files : Files) (p : Path) → is_dir files p ≡ true → IsThere files p
  dir_there files p h = or_right (is_file files p) (is_dir files p) h

  file_right : (p : Path) (f : File) → file_at now p ≡ Some f → (b : Bool) → is_new_file k sides p ≡ b → is_unode (cond b (FileUnode (parents_from (files_before sides p)) f.content f.kind (sha256 (text_of p)) k.id) (kept (files_before sides p))) ≡ true
  file_right p f e true new =
      let content = (rules p f (file_of_tree p f e)).with_id in
      (λ i. parents_few (files_before sides p) (few_seen is_file first second p) i && (content i && (is_id (text_of p) i && (digest i && parents_digests (files_before sides p) i))))
  file_right p f e false old =
      let parts = or_parts (is_some (set_at k.changeset p)) (differ (files_before sides p)) old in
      kept_right is_file file_there first second left right p
      (from_either k first second p f (λ set. absurd (none_set (set_at k.changeset p) parts.0 f set)) (λ h. inl (file_passes first p f h)) (λ h. inr (file_passes second p f h)) (decides k.changeset p) (file_of_tree p f e))

  dir_right : (n : ℕ) (p : Path) → is_dir now p ≡ true → (b : Bool) → is_new_dir k sides p ≡ b
      → is_unode (cond b (Manifest (parents_from (dirs_before sides p)) k.id (map (λ child. (child.0, unode_entry child.1 (unode_id (merged_within k now sides n (p ++ child.0 ∷ []))))) (children (below p now)))) (kept (dirs_before sides p))) ≡ true
  dir_right n p dir true new =
      let at : Name → Option File = λ name. file_at (below p now) (name ∷ []) in
      let node : Name → Unode = λ name. merged_within k now sides n (p ++ name ∷ []) in
      let ns = names (below p now) in
      let named : are_entries (keyed (λ name. unode_entry (at name) (unode_id (node name))) ns) ≡ true = entries_kept (λ name. unode_entry (at name) (unode_id (node name))) (below p now) (files_below now p counted) in
      let each : list_all (λ e. is_unode_entry e.1) (keyed (λ name. unode_entry (at name) (unode_id (node name))) ns) ≡ true = all_keyed (λ name. unode_entry (at name) (unode_id (node name))) (λ e. is_unode_entry e.1) ns (entries_right at node ns) in
      let same = fused at (λ (c : Name × Option File). unode_entry c.1 (unode_id (node c.0))) ns in
      ap (λ (es : List (Name × UnodeEntry)). is_unode (Manifest (parents_from (dirs_before sides p)) k.id es)) same
      ∙ (λ i. ((parents_few (dirs_before sides p) (few_seen is_dir first second p) i && (digest i && parents_digests (dirs_before sides p) i)) && named i) && each i)
  dir_right n p dir false old =
      let parts = or_parts (is_renewed k.changeset p) (differ (dirs_before sides p)) old in
      let still = or_parts (length p == 0) (list_any (λ e. is_strict_prefix p e.0) k.changeset.changes) parts.0 in
      let found = has_under now p (ap (λ b. b || list_any (λ f. is_strict_prefix p f.0) now) (sym still.0) ∙ dir) in
      let some = some_of (file_at now found.0) found.2 in
      kept_right is_dir dir_there first second left right p
      (from_either k first second found.0 some.0 (λ set. absurd (unset (set_at k.changeset found.0) some.0 (unset_under k.changeset p found.0 still.1 found.1) set)) (λ h. inl (dir_passes first p found.0 some.0 found.1 h)) (λ h. inr (dir_passes second p found.0 some.0 found.1 h)) (decides k.changeset found.0) (file_of_tree found.0 some.0 some.1))

  node_by : (n : ℕ) (p : Path) → IsThere now p → (o : Option File) → file_at now p ≡ o
      → is_unode (option_map_or (file_unode_on k now sides p) o (cond (is_new_dir k sides p) (Manifest (parents_from (dirs_before sides p)) k.id (map (λ child. (child.0, unode_entry child.1 (unode_id (merged_within k now sides n (p ++ child.0 ∷ []))))) (children (below p now)))) (kept (dirs_before sides p)))) ≡ true
  node_by n p there (Some f) e = file_right p f e (is_new_file k sides p) refl
  node_by n p there None e = dir_right n p (sym (ap (λ o. is_some o || is_dir now p) e) ∙ there) (is_new_dir k sides p) refl

  node_right : AreRight (At k first second)
  node_right p there = subst (λ n. is_unode (merged_within k now sides n p) ≡ true) (let e : suc (depth now) ≡ depth now + 1 = omega arith in e) (node_by (depth now) p there (file_at now p) refl)

-- ---- all of a past

module _ (h : List Entry) (all : ChangesetsKeepRules h) (small : size h < 2 ^ 36) where
  counted_in : (q : Past) → AllOf (λ k. SetsAmong (changesets_of h) k.changeset) q → AllOf (λ k. IsRight k.changeset) q → AreFiles (files_in q)
  counted_in q sets right =
      let good : AllByRecursion (λ f. FileRules f.0 f.1) (files_in q) = rules_filed (tree_of q) (rules_past q right) (touched_paths (reached_by q)) in
      let a = files_light (changesets_of h) q sets in
      let b = history_long h all in
      let c = sizes_bounded (files_in q) good in
      record {
        rising = filed_rise (tree_of q) (touched_paths (reached_by q)) (touched_paths_rise (reached_by q));
        named = weaker (λ (f : Path × File). FileRules f.0 f.1) (λ f. list_all is_element f.0 ≡ true) (λ f g. g.named) (files_in q) good;
        with_ids = weaker (λ (f : Path × File). FileRules f.0 f.1) (λ f. is_bytes 32 f.1.content ≡ true) (λ f g. g.with_id) (files_in q) good;
        few = omega (arith, a, b);
        small = omega (arith, a, b, c);
      }

  all_right : (q : Past) → AllOf (λ k. SetsAmong (changesets_of h) k.changeset) q → AllOf (λ k. IsRight k.changeset) q → AllOf HasDigest q → AreRight q
  all_right Begin sets right ids = tt
  all_right (At k first second) sets right ids =
      node_right k first second ids.0 (rules_past (At k first second) right) (counted_in (At k first second) sets right)
      (all_right first sets.1 right.1 ids.1) (all_right second sets.2 right.2 ids.2)

  unode_by : (q : Past) → AreRight q → (p : Path) → Passes is_file q p ⊎ Passes is_dir q p → is_unode (unode_at q p) ≡ true
  unode_by Begin right p (inl passes) = absurd passes
  unode_by Begin right p (inr passes) = absurd passes
  unode_by (At k first second) right p (inl there) = right p (or_left _ _ there)
  unode_by (At k first second) right p (inr there) = right p (or_right (is_file (files_in (At k first second)) p) _ there)

  its_right : (x : Id) → AreRight (past (known h) x)
  its_right x = all_right (past (known h) x) (sets_of_past h x) (past_all IsRight h x all) (digests h x all)

  pub file_unode_right : (x : Id) (p : Path) (f : File) → tree_of (past (known h) x) p ≡ Some f → is_unode (unode_at (past (known h) x) p) ≡ true
  file_unode_right x p f e = unode_by (past (known h) x) (its_right x) p (inl (file_passes (past (known h) x) p f e))

-- ---- of a known changeset

known_turned : (ks : List Known) (x : Id) → is_known (reverse ks) x ≡ is_known ks x
known_turned [] x = refl
known_turned (k ∷ ks) x =
    ap (λ l. is_known l x) (reverse-cons k ks) ∙ list_any-append (λ k. bytes_eq k.id x) (reverse ks) (k ∷ []) ∙ ap (λ b. b || (bytes_eq k.id x || false)) (known_turned ks x) ∙ or_turned (is_known ks x) (bytes_eq k.id x)

not_begin : (ks : List Known) (x : Id) → is_known ks x ≡ true → past_among ks x ≡ Begin → ⊥
not_begin [] x there e = true≢false (sym there)
not_begin (k ∷ older) x there e = by (not_begin older x) (bytes_eq k.id x) there e
  where
    by : (is_known older x ≡ true → past_among older x ≡ Begin → ⊥) → (b : Bool) → (b || is_known older x) ≡ true → cond b (At k (option_map_or (past_among older) (first_parent k.changeset) Begin) (option_map_or (past_among older) (second_of k.changeset.parents) Begin)) (past_among older x) ≡ Begin → ⊥
    by later true there e = absurd cc
    by later false there e = later there e

dir_by : (q : Past) → (q ≡ Begin → ⊥) → AreRight q → (d : Path) → is_dir (files_in q) d ≡ true → is_unode (unode_at q d) ≡ true
dir_by Begin away right d dir = absurd (away refl)
dir_by (At k first second) away right d dir = right d (or_right (is_file (files_in (At k first second)) d) _ dir)

pub known_dir_right : (h : List Entry) (x : Id) (d : Path) → ChangesetsKeepRules h → size h < 2 ^ 36 → is_known (known h) x ≡ true → is_dir (files_of (known h) x) d ≡ true → is_unode (unode_at (past (known h) x) d) ≡ true
known_dir_right h x d all small there dir = dir_by (past (known h) x) (not_begin (reverse (known h)) x (known_turned (known h) x ∙ there)) (its_right h all small x) d dir
