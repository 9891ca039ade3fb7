-- The least of the paths of two rising lists is the lesser of their first ones.
use Rattle.std.proofs.Common.{◌≡◌, Bool, true, false, cond, List, [], ◌∷◌, ◌++◌, map, filter, refl, sym, ap, ◌∙◌}
use Rattle.std.specs.Prelude.{Option, None, Some}
use Rattle.std.specs.List.{AllByRecursion}
use Rattle.std.specs.declared.cmp.Ordering.{Ordering}
use Rattle.std.specs.declared.cmp.Ordering.TheVariants.{Less, Equal, Greater}
use Rattle.std.specs.FinMap.Entries.{by_order}
use Rattle.std.proofs.lemmas.List.{map-append}
use Rattle.changeset_model.specs.Path.{Path, path_cmp, path_lt, in_place, rising, IsRising}
use Rattle.changeset_model.specs.Changeset.{File, Changeset}
use Rattle.changeset_model.proofs.Paths.{path_cmp_total}
use Rattle.changeset_model.proofs.Rising.{less_of}
use Rattle.history_model.specs.Merge.{least_of, is_unresolved, unresolved}
use Rattle.merge_tree.specs.Lesser.{lesser_of}
use Rattle.merge_tree.proofs.Steps.{first_that}

abbrev Files : Type 0
Files = List (Path × File)

least_in_place : (p : Path) (qs : List Path) → least_of (in_place p qs) ≡ lesser_of (Some p) (least_of qs)
least_in_place p [] = refl
least_in_place p (q ∷ qs) = by (path_cmp p q)
  where
    by : (o : Ordering) → least_of (by_order o (p ∷ q ∷ qs) (q ∷ qs) (q ∷ in_place p qs)) ≡ by_order o (Some p) (Some q) (Some q)
    by Less = refl
    by Equal = refl
    by Greater = refl

-- p comes before what is there
abbrev IsAhead : Path → Option Path → Type 0
IsAhead p None = Unit {0}
IsAhead p (Some q) = path_cmp p q ≡ Less

ahead_of : (p : Path) (ps : List Path) → AllByRecursion (λ q. path_lt p q ≡ true) ps → IsAhead p (least_of ps)
ahead_of p [] all = tt
ahead_of p (q ∷ qs) all = less_of (path_cmp p q) all.0

skip_by : (p q r : Path) → path_cmp p q ≡ Less → (o : Ordering) → path_cmp q r ≡ o → lesser_of (Some p) (by_order o (Some q) (Some r) (Some r)) ≡ lesser_of (Some p) (Some r)
skip_by p q r less Less e =
    ap (λ o. by_order o (Some p) (Some q) (Some q)) less ∙ sym (ap (λ o. by_order o (Some p) (Some r) (Some r)) (path_cmp_total.trans p q r less e))
skip_by p q r less Equal e = refl
skip_by p q r less Greater e = refl

skip : (p : Path) (o r : Option Path) → IsAhead p o → lesser_of (Some p) (lesser_of o r) ≡ lesser_of (Some p) r
skip p None r ahead = refl
skip p (Some q) None ahead = ap (λ o. by_order o (Some p) (Some q) (Some q)) ahead
skip p (Some q) (Some r) ahead = skip_by p q r ahead (path_cmp q r) refl

ahead_stays : (p : Path) (o : Option Path) → IsAhead p o → lesser_of (Some p) o ≡ Some p
ahead_stays p None ahead = refl
ahead_stays p (Some q) ahead = ap (λ o. by_order o (Some p) (Some q) (Some q)) ahead

least-rising : (qs : List Path) → IsRising qs → least_of (rising qs) ≡ least_of qs
least-rising [] rises = refl
least-rising (q ∷ qs) rises =
    least_in_place q (rising qs) ∙ ap (lesser_of (Some q)) (least-rising qs rises.1) ∙ ahead_stays q (least_of qs) (ahead_of q qs rises.0)

least_of_both : (ps qs : List Path) → IsRising ps → IsRising qs → least_of (rising (ps ++ qs)) ≡ lesser_of (least_of ps) (least_of qs)
least_of_both [] qs rises other = least-rising qs other
least_of_both (p ∷ ps) qs rises other =
    least_in_place p (rising (ps ++ qs)) ∙ ap (lesser_of (Some p)) (least_of_both ps qs rises.1 other) ∙ skip p (least_of ps) (least_of qs) (ahead_of p ps rises.0)

-- ---- those that pass

all_passed : (P : Path → Type 0) (pass : Path × File → Bool) (fs : Files) → AllByRecursion P (map (λ f. f.0) fs) → AllByRecursion P (map (λ f. f.0) (filter pass fs))
all_passed P pass [] all = tt
all_passed P pass (f ∷ fs) all = by (pass f) (all_passed P pass fs all.1)
  where
    by : (b : Bool) → AllByRecursion P (map (λ f. f.0) (filter pass fs)) → AllByRecursion P (map (λ f. f.0) (cond b (f ∷ filter pass fs) (filter pass fs)))
    by true rest = (all.0, rest)
    by false rest = rest

passed_rise : (pass : Path × File → Bool) (fs : Files) → IsRising (map (λ f. f.0) fs) → IsRising (map (λ f. f.0) (filter pass fs))
passed_rise pass [] rises = tt
passed_rise pass (f ∷ fs) rises = by (pass f) (passed_rise pass fs rises.1)
  where
    by : (b : Bool) → IsRising (map (λ f. f.0) (filter pass fs)) → IsRising (map (λ f. f.0) (cond b (f ∷ filter pass fs) (filter pass fs)))
    by true rest = (all_passed (λ q. path_lt f.0 q ≡ true) pass fs rises.0, rest)
    by false rest = rest

pub least_unresolved : (c : Changeset) (left right : Files) → IsRising (map (λ f. f.0) left) → IsRising (map (λ f. f.0) right) → unresolved c left right ≡ lesser_of (first_that (is_unresolved c right) left) (first_that (is_unresolved c left) right)
least_unresolved c left right rises other =
    ap (λ ps. least_of (rising ps)) (map-append (λ (f : Path × File). f.0) (filter (is_unresolved c right) left) (filter (is_unresolved c left) right))
    ∙ least_of_both (map (λ f. f.0) (filter (is_unresolved c right) left)) (map (λ f. f.0) (filter (is_unresolved c left) right)) (passed_rise (is_unresolved c right) left rises) (passed_rise (is_unresolved c left) right other)
