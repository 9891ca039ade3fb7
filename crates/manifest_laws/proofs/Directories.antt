-- Which directories there are, and which a changeset renews.
use Rattle.std.proofs.Common.{◌≡◌, ◌↔◌, ℕ, suc, ◌<◌, Bool, true, false, cond, ◌&&◌, ◌||◌, List, [], ◌∷◌, ◌++◌, map, length, refl, sym, ap, subst, ◌∙◌, arith}
use Rattle.std.specs.Prelude.{Contains, flat_map, bytes_eq, nat_lt, ◌==◌}
use mathlib.Core.Bool.{true≢false}
use Rattle.std.specs.List.{AllByRecursion, list_any, dedup, dedup_from}
use Rattle.std.specs.Ordering.{eq_by_cmp}
use Rattle.std.specs.Cmp.Lexicographic.{texts_ties}
use Rattle.std.proofs.lemmas.Bool.{or_parts, or_left, or_right, lt-ltb, ne_eqb}
use Rattle.std.proofs.lemmas.List.{length-map, map-append}
use Rattle.std.proofs.lemmas.List.Folds.{list_any-append}
use Rattle.byte_fields.specs.Bytes.{Id}
use Rattle.byte_fields.proofs.Lists.{weaker, each_of, contains_head, contains_tail}
use Rattle.changeset_model.specs.Path.{Path, path_cmp, is_prefix, is_strict_prefix, rising}
use Rattle.changeset_model.specs.Changeset.{File, FileChange, Changeset}
use Rattle.changeset_model.proofs.Rising.{Contains-rising}
use Rattle.history_model.specs.Tree.{is_dir, below, names}
use Rattle.manifest_model.specs.Fsnode.{fsnode}
use Rattle.manifest_model.specs.Unode.{is_renewed}
use Rattle.manifest_model.specs.Deleted.{has_node}
use Rattle.manifest_model.specs.Manifests.{above, dirs_of, gone_paths}
use Rattle.manifest_model.proofs.Derivations.{among, tied_same}
use Rattle.manifest_laws.specs.Changes.{renewed_dirs}
use Rattle.manifest_laws.proofs.Under.{Files}
use Rattle.manifest_laws.proofs.Names.{Name, keyed, name_cmp, firsts, first_tells, any_by_below}
use Rattle.manifest_laws.proofs.Flat.{tied_self}
use Rattle.manifest_laws.proofs.Fsnodes as fsnodes
use Rattle.manifest_laws.proofs.Lists.{and_assoc, one_longer, either_and, none_and}

-- ---- the directories above a path

all_among : (ps : List Path) → AllByRecursion (λ q. among q ps ≡ true) ps
all_among [] = tt
all_among (p ∷ ps) = (
  or_left (eq_by_cmp path_cmp p p) (among p ps) (tied_self p),
  weaker (λ q. among q ps ≡ true) (λ q. among q (p ∷ ps) ≡ true) (λ q h. or_right (eq_by_cmp path_cmp q p) (among q ps) h) ps (all_among ps),
)

contained : (ps : List Path) (p : Path) → among p ps ≡ true → Contains ps p
contained [] p h = absurd (true≢false (sym h))
contained (q ∷ ps) p h = by (contained ps p) (eq_by_cmp path_cmp p q) refl h
  where
    by : (among p ps ≡ true → Contains ps p) → (b : Bool) → eq_by_cmp path_cmp p q ≡ b → (b || among p ps) ≡ true → Contains (q ∷ ps) p
    by ih true e g = subst (Contains (q ∷ ps)) (sym (tied_same p q e)) (contains_head q ps)
    by ih false e g = contains_tail q p ps (ih g)

pub Contains-among : (ps : List Path) (p : Path) → Contains ps p ↔ (among p ps ≡ true)
Contains-among ps p = (λ c. each_of (λ q. among q ps ≡ true) ps p (all_among ps) c, contained ps p)

among_under : (k e : Name) (d : Path) (ds : List Path) → among (k ∷ d) (map (λ p. e ∷ p) ds) ≡ (bytes_eq k e && among d ds)
among_under k e d [] = none_and (bytes_eq k e)
among_under k e d (p ∷ ds) =
    (λ i. (first_tells (name_cmp k e) (path_cmp d p) ∙ ap (λ b. b && eq_by_cmp path_cmp d p) (sym (texts_ties k e))) i || among_under k e d ds i)
    ∙ either_and (bytes_eq k e) (eq_by_cmp path_cmp d p) (among d ds)

among_above : (d q : Path) → among d (above q) ≡ is_strict_prefix d q
among_above [] [] = refl
among_above (k ∷ d) [] = refl
among_above [] (e ∷ q) = sym (lt-ltb 0 (length (e ∷ q)) (omega arith))
among_above (k ∷ d) (e ∷ q) =
    among_under k e d (above q) ∙ ap (λ b. bytes_eq k e && b) (among_above d q ∙ ap (λ b. is_prefix d q && b) (sym (one_longer (length d) (length q))))
    ∙ sym (and_assoc (bytes_eq k e) (is_prefix d q) (nat_lt (length (k ∷ d)) (length (e ∷ q))))

root_is : (d : Path) → eq_by_cmp path_cmp d [] ≡ (length d == 0)
root_is [] = refl
root_is (k ∷ d) = sym (no_zero (length d))
  where
    no_zero : (n : ℕ) → (suc n == 0) ≡ false
    no_zero n = ne_eqb (suc n) 0 (λ e. absurd (omega (arith, e)))

above_any : {X : Type 0} (path : X → Path) (xs : List X) (d : Path) → among d (flat_map (λ x. above (path x)) xs) ≡ list_any (λ x. is_strict_prefix d (path x)) xs
above_any path [] d = refl
above_any path (x ∷ xs) d =
    list_any-append (eq_by_cmp path_cmp d) (above (path x)) (flat_map (λ x. above (path x)) xs)
    ∙ (λ i. among_above d (path x) i || above_any path xs d i)

rises : (ps : List Path) (d : Path) (b : Bool) → among d ps ≡ b → Contains (rising ps) d ↔ (b ≡ true)
rises ps d b e =
    let risen = Contains-rising ps d in
    let held = Contains-among ps d in
    (λ c. sym e ∙ held.0 (risen.0 c), λ h. risen.1 (held.1 (e ∙ h)))

pub directories_are : (fs : List (Path × File)) (d : Path) → Contains (dirs_of fs) d ↔ (is_dir fs d ≡ true)
directories_are fs d =
    rises ([] ∷ flat_map (λ (f : Path × File). above f.0) fs) d (is_dir fs d) (λ i. root_is d i || above_any (λ (f : Path × File). f.0) fs d i)

pub renewed_are : (c : Changeset) (d : Path) → Contains (renewed_dirs c) d ↔ (is_renewed c d ≡ true)
renewed_are c d =
    rises ([] ∷ flat_map (λ (e : Path × FileChange). above e.0) c.changes) d (is_renewed c d) (λ i. root_is d i || above_any (λ (e : Path × FileChange). e.0) c.changes d i)

-- ---- the paths of deleted nodes

up_to : (d q : Path) → among d (above q ++ q ∷ []) ≡ is_prefix d q
up_to [] [] = refl
up_to [] (e ∷ q) = refl
up_to (k ∷ d) [] = refl
up_to (k ∷ d) (e ∷ q) =
    ap (among (k ∷ d)) (sym (map-append (λ p. e ∷ p) (above q) (q ∷ []))) ∙ among_under k e d (above q ++ q ∷ []) ∙ ap (λ b. bytes_eq k e && b) (up_to d q)

up_to_any : (gone : List (Path × Id)) (d : Path) → among d (flat_map (λ e. above e.0 ++ e.0 ∷ []) gone) ≡ list_any (λ e. is_prefix d e.0) gone
up_to_any [] d = refl
up_to_any (e ∷ gone) d =
    list_any-append (eq_by_cmp path_cmp d) (above e.0 ++ e.0 ∷ []) (flat_map (λ e. above e.0 ++ e.0 ∷ []) gone)
    ∙ (λ i. up_to d e.0 i || up_to_any gone d i)

pub gone_paths_are : (gone : List (Path × Id)) (d : Path) → Contains (gone_paths gone) d ↔ (has_node gone d ≡ true)
gone_paths_are gone d =
    rises ([] ∷ flat_map (λ (e : Path × Id). above e.0 ++ e.0 ∷ []) gone) d (has_node gone d) (λ i. root_is d i || up_to_any gone d i)

-- ---- a directory without entries

some_from : (k : Name) (ns : List Name) → 0 < length (dedup_from bytes_eq k ns)
some_from k [] = omega arith
some_from k (n ∷ ns) = by (bytes_eq n k) (some_from k ns)
  where
    by : (b : Bool) → 0 < length (dedup_from bytes_eq k ns) → 0 < length (cond b (dedup_from bytes_eq k ns) (k ∷ dedup_from bytes_eq n ns))
    by true h = h
    by false h = omega arith

none_once : (ns : List Name) → length (dedup bytes_eq ns) ≡ 0 → ns ≡ []
none_once [] h = refl
none_once (n ∷ ns) h = absurd (let some = some_from n ns in omega (arith, some, h))

none_first : (fs : Files) → firsts fs ≡ [] → list_any (λ g. is_strict_prefix [] g.0) fs ≡ false
none_first [] h = refl
none_first (([], x) ∷ fs) h = none_first fs h
none_first ((n ∷ p, x) ∷ fs) h = absurd (let none : suc (length (firsts fs)) ≡ 0 = ap length h in omega (arith, none))

no_first : (fs : Files) → list_any (λ g. is_strict_prefix [] g.0) fs ≡ false → firsts fs ≡ []
no_first [] h = refl
no_first (([], x) ∷ fs) h = no_first fs h
no_first ((n ∷ p, x) ∷ fs) h = absurd (true≢false (sym (lt-ltb 0 (length (n ∷ p)) (omega arith)) ∙ (or_parts (is_strict_prefix [] (n ∷ p)) (list_any (λ g. is_strict_prefix [] g.0) fs) h).0))

-- a directory other than the root is there where it has entries
pub empty_is : (fs : List (Path × File)) (d : Path) → (length d == 0) ≡ false → ((fsnode fs d).entries ≡ []) ↔ (is_dir fs d ≡ false)
empty_is fs d deep =
    let is = fsnodes.entries_are fs d ∙ fsnodes.keyed_entries fs d in (
      λ e. any_by_below fs d ∙ (λ i. deep i || none_first (below d fs) (none_once (firsts (below d fs)) (sym (length-map (names (below d fs)) (λ n. (n, fsnodes.found_here fs (d ++ n ∷ [])))) ∙ ap length (sym is ∙ e))) i),
      λ h. is ∙ ap (λ ns. keyed (λ n. fsnodes.found_here fs (d ++ n ∷ [])) (dedup bytes_eq ns)) (no_first (below d fs) ((or_parts (length d == 0) (list_any (λ g. is_strict_prefix [] g.0) (below d fs)) (sym (any_by_below fs d) ∙ h)).1)),
    )
