-- Paths between a path and one that lies under it.
use Rattle.std.proofs.Common.{◌≡◌, ℕ, ◌<◌, Bool, true, false, ◌&&◌, List, [], ◌∷◌, length, refl, sym, ap, ◌∙◌, arith}
use Rattle.std.specs.Prelude.{bytes_eq, nat_lt}
use Rattle.std.specs.declared.cmp.Ordering.{Ordering}
use Rattle.std.specs.declared.cmp.Ordering.TheVariants.{Less, Equal, Greater}
use Rattle.std.specs.Ordering.{nat_cmp, ordering_then, ordering_reverse, is_lt, is_eq}
use Rattle.std.specs.Cmp.Lexicographic.{slice_cmp, texts_ties}
use Rattle.std.specs.FinMap.{nat_cmp-IsAntisymmetric, slice_cmp-IsAntisymmetric}
use Rattle.std.proofs.lemmas.Cmp.{nat_list_cmp_total}
use Rattle.std.proofs.lemmas.Bool.{lt-ltb, ltb-true, false_from_ne_true}
use Rattle.changeset_model.specs.Path.{Path, path_cmp, path_lt, is_prefix, is_strict_prefix}
use Rattle.changeset_model.proofs.Rising.{path_lt_asymmetric, path_lt_irreflexive}
use Rattle.changeset_model.proofs.Rising.{less_of}
use Rattle.changeset_model.proofs.Spelling.{bytes_eq_refl as eq_itself}
use Rattle.repo_path.proofs.Faults.{first_of_two as first_of, second_of_two as second_of}

pub equal_of : (o : Ordering) → is_eq o ≡ true → o ≡ Equal
equal_of Less h = absurd (cc)
equal_of Equal h = refl
equal_of Greater h = absurd (cc)

abbrev text_cmp : List ℕ → List ℕ → Ordering
text_cmp = slice_cmp nat_cmp

pub same_text : (e f : List ℕ) → bytes_eq e f ≡ true → e ≡ f
same_text e f h = slice_cmp-IsAntisymmetric nat_cmp-IsAntisymmetric e f (equal_of (text_cmp e f) (sym (texts_ties e f) ∙ h))

-- ---- a path is less than each under it

prefix_less : (x z : Path) → is_prefix x z ≡ true → length x < length z → path_cmp x z ≡ Less
prefix_less [] [] h less = absurd (omega arith)
prefix_less [] (f ∷ z) h less = refl
prefix_less (e ∷ x) [] h less = absurd (cc)
prefix_less (e ∷ x) (f ∷ z) h less =
    ap (λ o. ordering_then o (path_cmp x z)) (equal_of (text_cmp e f) (sym (texts_ties e f) ∙ first_of (bytes_eq e f) (is_prefix x z) h))
    ∙ prefix_less x z (second_of (bytes_eq e f) (is_prefix x z) h) (omega arith)

pub under_is_more : (x z : Path) → is_strict_prefix x z ≡ true → path_lt x z ≡ true
under_is_more x z h = ap is_lt (prefix_less x z (first_of (is_prefix x z) (nat_lt (length x) (length z)) h) (ltb-true (length x) (length z) (second_of (is_prefix x z) (nat_lt (length x) (length z)) h)))

-- nothing above a path comes after it
pub not_above : (p s : Path) → path_lt p s ≡ true → is_strict_prefix s p ≡ false
not_above p s h = false_from_ne_true (is_strict_prefix s p) (λ under. both (path_lt s p) (under_is_more s p under) (path_lt_asymmetric p s h))
  where
    both : (b : Bool) → b ≡ true → b ≡ false → ⊥
    both b t f = absurd (cc)

pub not_above_itself : (p : Path) → is_strict_prefix p p ≡ false
not_above_itself p = false_from_ne_true (is_strict_prefix p p) (λ under. both (path_lt p p) (under_is_more p p under) (path_lt_irreflexive p))
  where
    both : (b : Bool) → b ≡ true → b ≡ false → ⊥
    both b t f = absurd (cc)

-- ---- between

then_less : (o r : Ordering) → ordering_then o r ≡ Less → (o ≡ Less → ⊥) → (o ≡ Equal) × (r ≡ Less)
then_less Less r h n = absurd (n refl)
then_less Equal r h n = (refl, h)
then_less Greater r h n = absurd (cc)

not_less_back : (o r : Ordering) → ordering_then (ordering_reverse o) r ≡ Less → o ≡ Less → ⊥
not_less_back Less r h e = absurd (cc)
not_less_back Equal r h e = absurd (cc)
not_less_back Greater r h e = absurd (cc)

between : (x q p : Path) → is_prefix x p ≡ true → path_cmp x q ≡ Less → path_cmp q p ≡ Less → (is_prefix x q ≡ true) × (length x < length q)
between [] [] p h low high = absurd (cc)
between [] (f ∷ q) p h low high = (refl, omega arith)
between (e ∷ x) q [] h low high = absurd (cc)
between (e ∷ x) [] (g ∷ p) h low high = absurd (cc)
between (e ∷ x) (f ∷ q) (g ∷ p) h low high =
    let same : e ≡ g = same_text e g (first_of (bytes_eq e g) (is_prefix x p) h) in
    let up : ordering_then (ordering_reverse (text_cmp e f)) (path_cmp q p) ≡ Less = ap (λ o. ordering_then o (path_cmp q p)) (sym (nat_list_cmp_total.antisymm f e)) ∙ ap (λ t. ordering_then (text_cmp f t) (path_cmp q p)) same ∙ high in
    let first = then_less (text_cmp e f) (path_cmp x q) low (not_less_back (text_cmp e f) (path_cmp q p) up) in
    let equal : e ≡ f = slice_cmp-IsAntisymmetric nat_cmp-IsAntisymmetric e f first.0 in
    let later : path_cmp q p ≡ Less = ap (λ o. ordering_then (ordering_reverse o) (path_cmp q p)) (sym first.0) ∙ up in
    let rest = between x q p (second_of (bytes_eq e g) (is_prefix x p) h) first.1 later in
    (ap (λ t. bytes_eq e t && is_prefix x q) (sym equal) ∙ ap (λ b. b && is_prefix x q) (eq_itself e) ∙ rest.0, omega (arith, rest.1))

-- a path that comes between another and one under that lies under it too
pub under_between : (x q p : Path) → is_strict_prefix x p ≡ true → path_lt x q ≡ true → path_lt q p ≡ true → is_strict_prefix x q ≡ true
under_between x q p h low high =
    let r = between x q p (first_of (is_prefix x p) (nat_lt (length x) (length p)) h) (less_of (path_cmp x q) low) (less_of (path_cmp q p) high) in
    (λ i. r.0 i && lt-ltb (length x) (length q) r.1 i)
