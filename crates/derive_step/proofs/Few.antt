-- How many nodes are put.
use Rattle.std.proofs.Common.{◌≡◌, ℕ, ◌+◌, ◌*◌, ◌<◌, ◌≤◌, Bool, true, false, cond, List, [], ◌∷◌, ◌++◌, map, length, drop, reverse, inl, inr, refl, sym, ap, ◌∙◌, arith}
use Rattle.std.specs.Prelude.{flat_map, filter_map, Option, Some, None, is_some, option_map}
use mathlib.Core.List.{reverse-cons}
use Rattle.std.specs.Cmp.{eq_by_cmp_equiv}
use Rattle.std.specs.List.{AllByRecursion, list_any, IsDistinct}
use Rattle.std.specs.Ordering.{eq_by_cmp}
use Rattle.std.specs.List.Sorted.{IsStrictlySortedBy}
use Rattle.std.proofs.lemmas.List.{length-append, length-map}
use Rattle.std.proofs.lemmas.Map.Keys.{IsDistinct-from_sorted, IsDistinct-cons, IsDistinct-head, IsDistinct-tail}
use Rattle.std.proofs.lemmas.Map.Made.{length-le_from_is_member}
use Rattle.changeset_model.specs.Path.{Path, path_cmp}
use Rattle.changeset_model.specs.Changeset.{CopySource, File, FileChange, Set, Delete, file_of, sets_of}
use Rattle.changeset_model.proofs.Paths.{path_cmp_total}
use Rattle.history_model.specs.History.{Known}
use Rattle.history_model.specs.Past.{Past, At}
use Rattle.history_model.specs.Tree.{files_in, is_dir}
use Rattle.manifest_model.specs.Fsnode.{fsnode, fsnode_bytes}
use Rattle.manifest_model.specs.Unode.{is_renewed, unode_bytes}
use Rattle.manifest_model.specs.Merged.{unode_at}
use Rattle.manifest_laws.specs.Changes.{renewed_dirs}
use Rattle.manifest_laws.proofs.Directories.{renewed_are}
use Rattle.manifest_laws.proofs.Flat.{tied_self}
use Rattle.manifest_laws.proofs.Lists.{true_and_false}
use Rattle.derive_step.specs.Walk.{name_in}
use Rattle.derive_step.specs.Renewal.{files_set_in, nodes_there, dir_nodes}
use Rattle.derive_step.proofs.FileNodes.{named}
use Rattle.derive_step.proofs.Members.{Has, contains_has, has_any, any_has, any_all}

abbrev Edits : Type 0
Edits = List (Path × FileChange)

-- ---- each file that is set lies directly in one directory

abbrev one_if : Bool → ℕ
one_if b = cond b 1 0

abbrev hits : List Path → Path → ℕ
hits [] p = 0
hits (d ∷ ds) p = one_if (is_some (name_in d p)) + hits ds p

abbrev in_dirs : List Path → Edits → ℕ
in_dirs [] es = 0
in_dirs (d ∷ ds) es = length (files_set_in d es) + in_dirs ds es

same_dir : (d e : Path) (m n : List ℕ) → d ++ m ∷ [] ≡ e ++ n ∷ [] → d ≡ e
same_dir [] [] m n h = refl
same_dir [] (k ∷ []) m n h = absurd (let size = ap length h in omega (arith, size))
same_dir [] (k ∷ l ∷ e) m n h = absurd (let size = ap length h in omega (arith, size))
same_dir (k ∷ []) [] m n h = absurd (let size = ap length h in omega (arith, size))
same_dir (k ∷ l ∷ d) [] m n h = absurd (let size = ap length h in omega (arith, size))
same_dir (k ∷ d) (l ∷ e) m n h = λ i. ap (λ p. first p) h i ∷ same_dir d e m n (ap (drop 1) h) i
  where
    first : Path → List ℕ
    first [] = []
    first (x ∷ p) = x

no_hit : (d p : Path) (n : List ℕ) (ds : List Path) → name_in d p ≡ Some n → AllByRecursion (λ y. eq_by_cmp path_cmp d y ≡ false) ds → hits ds p ≡ 0
no_hit d p n [] name apart = refl
no_hit d p n (e ∷ ds) name apart = by (name_in e p) refl (no_hit d p n ds name apart.1)
  where
    by : (x : Option (List ℕ)) → name_in e p ≡ x → hits ds p ≡ 0 → one_if (is_some x) + hits ds p ≡ 0
    by None h rest = omega (arith, rest)
    by (Some m) h rest = true_and_false (eq_by_cmp path_cmp d e) (ap (eq_by_cmp path_cmp d) (sym (same_dir d e n m (sym (named d p n name) ∙ named e p m h))) ∙ tied_self d) apart.0

one_hit : (p : Path) (ds : List Path) → IsDistinct (eq_by_cmp path_cmp) ds → hits ds p ≤ 1
one_hit p [] distinct = omega arith
one_hit p (d ∷ ds) distinct = by (name_in d p) refl (one_hit p ds (IsDistinct-tail (eq_by_cmp path_cmp) d ds distinct))
  where
    by : (x : Option (List ℕ)) → name_in d p ≡ x → hits ds p ≤ 1 → one_if (is_some x) + hits ds p ≤ 1
    by None h rest = omega (arith, rest)
    by (Some n) h rest = let none = no_hit d p n ds h (IsDistinct-head (eq_by_cmp path_cmp) d ds distinct) in omega (arith, none)

one_set : (p : Path) (f : File) (copied : Option CopySource) (ds : List Path) (es : Edits) → in_dirs ds ((p, Set f copied) ∷ es) ≡ hits ds p + in_dirs ds es
one_set p f copied [] es = refl
one_set p f copied (d ∷ ds) es = by (is_some (name_in d p)) (one_set p f copied ds es)
  where
    by : (b : Bool) → in_dirs ds ((p, Set f copied) ∷ es) ≡ hits ds p + in_dirs ds es → length (cond b (p ∷ files_set_in d es) (files_set_in d es)) + in_dirs ds ((p, Set f copied) ∷ es) ≡ (one_if b + hits ds p) + (length (files_set_in d es) + in_dirs ds es)
    by true rest = omega (arith, rest)
    by false rest = omega (arith, rest)

one_delete : (p : Path) (ds : List Path) (es : Edits) → in_dirs ds ((p, Delete) ∷ es) ≡ in_dirs ds es
one_delete p [] es = refl
one_delete p (d ∷ ds) es = ap (λ n. length (files_set_in d es) + n) (one_delete p ds es)

none_set : (ds : List Path) → in_dirs ds [] ≡ 0
none_set [] = refl
none_set (d ∷ ds) = let rest = none_set ds in omega (arith, rest)

abbrev sets : Edits → List (Path × File)
sets es = filter_map (λ e. option_map (λ f. (e.0, f)) (file_of e.1)) es

few_files : (ds : List Path) (es : Edits) → IsDistinct (eq_by_cmp path_cmp) ds → in_dirs ds es ≤ length (sets es)
few_files ds [] distinct = let none = none_set ds in omega (arith, none)
few_files ds ((p, Set f copied) ∷ es) distinct =
    let rest = few_files ds es distinct in
    let one = one_hit p ds distinct in
    let sum = one_set p f copied ds es in
    omega (arith, rest, one, sum)
few_files ds ((p, Delete) ∷ es) distinct =
    let rest = few_files ds es distinct in
    let sum = one_delete p ds es in
    omega (arith, rest, sum)

-- ---- the nodes of each directory

module _ (c : Known) (first second : Past) where
  abbrev weight : List Path → ℕ
  weight [] = 0
  weight (d ∷ ds) = length (dir_nodes c first second d) + weight ds

  flat_weight : (ds : List Path) → length (flat_map (dir_nodes c first second) ds) ≡ weight ds
  flat_weight [] = refl
  flat_weight (d ∷ ds) = length-append (dir_nodes c first second d) (flat_map (dir_nodes c first second) ds) ∙ ap (λ n. length (dir_nodes c first second d) + n) (flat_weight ds)

  weight-append : (xs ys : List Path) → weight (xs ++ ys) ≡ weight xs + weight ys
  weight-append [] ys = omega arith
  weight-append (x ∷ xs) ys = let rest = weight-append xs ys in omega (arith, rest)

  weight-reverse : (xs : List Path) → weight (reverse xs) ≡ weight xs
  weight-reverse [] = refl
  weight-reverse (x ∷ xs) =
      let rest = weight-reverse xs in
      let sum = weight-append (reverse xs) (x ∷ []) in
      let all = ap weight (reverse-cons x xs) ∙ sum in
      omega (arith, rest, all)

  dir_weight : (d : Path) → length (dir_nodes c first second d) ≤ 2 + length (files_set_in d c.changeset.changes)
  dir_weight d = by (is_dir (files_in (At c first second)) d)
    where
      by : (b : Bool) → length (cond b (nodes_there c first second d) []) ≤ 2 + length (files_set_in d c.changeset.changes)
      by true =
          let both = length-append (map (λ p. unode_bytes (unode_at (At c first second) p)) (files_set_in d c.changeset.changes)) (fsnode_bytes (fsnode (files_in (At c first second)) d) ∷ unode_bytes (unode_at (At c first second) d) ∷ []) in
          let files = length-map (files_set_in d c.changeset.changes) (λ p. unode_bytes (unode_at (At c first second) p)) in
          omega (arith, both, files)
      by false = omega arith

  all_weight : (ds : List Path) → weight ds ≤ 2 * length ds + in_dirs ds c.changeset.changes
  all_weight [] = omega arith
  all_weight (d ∷ ds) =
      let here = dir_weight d in
      let rest = all_weight ds in
      omega (arith, here, rest)

  pub few_put : (keys : List Path) → IsStrictlySortedBy path_cmp keys → ((p : Path) → list_any (eq_by_cmp path_cmp p) keys ≡ true → (0 < length p) × (is_renewed c.changeset p ≡ true))
      → length (flat_map (dir_nodes c first second) (reverse keys) ++ dir_nodes c first second []) ≤ 2 * length (renewed_dirs c.changeset) + length (sets_of c.changeset)
  few_put keys rising there =
      let whole = length-append (flat_map (dir_nodes c first second) (reverse keys)) (dir_nodes c first second []) in
      let weighed = flat_weight (reverse keys) ∙ weight-reverse keys in
      let all = all_weight ([] ∷ keys) in
      let files : in_dirs ([] ∷ keys) c.changeset.changes ≤ length (sets_of c.changeset) = few_files ([] ∷ keys) c.changeset.changes distinct in
      let dirs = length-le_from_is_member (eq_by_cmp_equiv path_cmp_total) ([] ∷ keys) (renewed_dirs c.changeset) distinct member in
      omega (arith, whole, weighed, all, files, dirs)
    where
      deep : (p : Path) → 0 < length p → eq_by_cmp path_cmp [] p ≡ false
      deep [] some = absurd (omega arith)
      deep (e ∷ p) some = refl

      distinct : IsDistinct (eq_by_cmp path_cmp) ([] ∷ keys)
      distinct = IsDistinct-cons (eq_by_cmp path_cmp) [] keys (any_all (λ p. eq_by_cmp path_cmp [] p ≡ false) keys (λ p h. deep p (there p h).0)) (IsDistinct-from_sorted path_cmp keys rising)

      is_there : (q : Path) → Has ([] ∷ keys) q → is_renewed c.changeset q ≡ true
      is_there q (inl e) = ap (is_renewed c.changeset) (sym e)
      is_there q (inr h) = (there q (has_any keys q h)).1

      member : (q : Path) → list_any (eq_by_cmp path_cmp q) ([] ∷ keys) ≡ true → list_any (eq_by_cmp path_cmp q) (renewed_dirs c.changeset) ≡ true
      member q h = has_any (renewed_dirs c.changeset) q (contains_has (renewed_dirs c.changeset) q ((renewed_are c.changeset q).1 (is_there q (any_has ([] ∷ keys) q h))))
