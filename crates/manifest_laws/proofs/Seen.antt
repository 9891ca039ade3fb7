-- The path of an edit, seen from a directory: whether it is at a name in it, under one, or elsewhere.
use Rattle.std.proofs.Common.{◌≡◌, ℕ, true, false, ◌&&◌, List, [], ◌∷◌, ◌++◌, length, drop, refl, sym, ap, ◌∙◌, arith}
use Rattle.std.specs.Prelude.{bytes_eq}
use Rattle.std.specs.Ordering.{nat_cmp, eq_by_cmp, ordering_then, is_eq}
use Rattle.std.specs.Cmp.Lexicographic.{slice_cmp, texts_ties}
use Rattle.std.proofs.lemmas.Cmp.{nat_list_cmp_total, tied_itself}
use Rattle.std.proofs.lemmas.Bool.{lt-ltb, false_from_ne_true}
use Rattle.std.proofs.lemmas.List.{length_push}
use Rattle.changeset_model.specs.Path.{Path, path_cmp, is_prefix, is_strict_prefix}
use Rattle.manifest_model.proofs.Derivations.{tied_same}
use Rattle.manifest_laws.proofs.Names.{first_tells, strict_below}
use Rattle.manifest_laws.proofs.Changes.{prefix_itself}
use Rattle.manifest_laws.proofs.Lists.{true_and_false}
use Rattle.manifest_laws.proofs.Flat.{strict_from, strict_then, strict_parts}
use Rattle.byte_fields.proofs.Booleans.{and_false, and_true}

same_front : (d a b : Path) → path_cmp (d ++ a) (d ++ b) ≡ path_cmp a b
same_front [] a b = refl
same_front (k ∷ d) a b = ap (λ o. ordering_then o (path_cmp (d ++ a) (d ++ b))) (tied_itself nat_list_cmp_total k) ∙ same_front d a b

drop_front : (d a : Path) → drop (length d) (d ++ a) ≡ a
drop_front [] a = refl
drop_front (k ∷ d) a = drop_front d a

strict_front : (d a b : Path) → is_strict_prefix (d ++ a) (d ++ b) ≡ is_strict_prefix a b
strict_front d a b = strict_below d a (d ++ b) ∙ (λ i. prefix_itself d b i && is_strict_prefix a (drop_front d b i))

pub one_more : (d : Path) (n : List ℕ) → is_strict_prefix d (d ++ n ∷ []) ≡ true
one_more d n = strict_from d (d ++ n ∷ []) (prefix_itself d (n ∷ [])) (omega (arith, length_push d n))

-- ---- elsewhere

pub outside_at : (d q : Path) (n : List ℕ) → is_strict_prefix d q ≡ false → eq_by_cmp path_cmp (d ++ n ∷ []) q ≡ false
outside_at d q n h = false_from_ne_true (eq_by_cmp path_cmp (d ++ n ∷ []) q) (λ t. true_and_false (is_strict_prefix d q) (ap (is_strict_prefix d) (sym (tied_same (d ++ n ∷ []) q t)) ∙ one_more d n) h)

pub outside_under : (d q : Path) (n : List ℕ) → is_strict_prefix d q ≡ false → is_strict_prefix (d ++ n ∷ []) q ≡ false
outside_under d q n h = false_from_ne_true (is_strict_prefix (d ++ n ∷ []) q) (λ t. true_and_false (is_strict_prefix d q) (strict_then d (d ++ n ∷ []) q (one_more d n) (strict_parts (d ++ n ∷ []) q t).0) h)

-- ---- at a name

pub here_at : (d q : Path) (m n : List ℕ) → q ≡ d ++ m ∷ [] → eq_by_cmp path_cmp (d ++ n ∷ []) q ≡ eq_by_cmp (slice_cmp nat_cmp) n m
here_at d q m n e =
    ap (eq_by_cmp path_cmp (d ++ n ∷ [])) e
    ∙ ap is_eq (same_front d (n ∷ []) (m ∷ []))
    ∙ first_tells (slice_cmp nat_cmp n m) (path_cmp [] [])
    ∙ and_true (is_eq (slice_cmp nat_cmp n m))

pub here_under : (d q : Path) (m n : List ℕ) → q ≡ d ++ m ∷ [] → is_strict_prefix (d ++ n ∷ []) q ≡ false
here_under d q m n e =
    ap (is_strict_prefix (d ++ n ∷ [])) e
    ∙ strict_front d (n ∷ []) (m ∷ [])
    ∙ and_false (is_prefix (n ∷ []) (m ∷ []))

-- ---- under a name

pub under_at : (d q r : Path) (e m n : List ℕ) → q ≡ d ++ m ∷ e ∷ r → eq_by_cmp path_cmp (d ++ n ∷ []) q ≡ false
under_at d q r e m n h =
    ap (eq_by_cmp path_cmp (d ++ n ∷ [])) h
    ∙ ap is_eq (same_front d (n ∷ []) (m ∷ e ∷ r))
    ∙ first_tells (slice_cmp nat_cmp n m) (path_cmp [] (e ∷ r))
    ∙ and_false (is_eq (slice_cmp nat_cmp n m))

pub under_under : (d q r : Path) (e m n : List ℕ) → q ≡ d ++ m ∷ e ∷ r → is_strict_prefix (d ++ n ∷ []) q ≡ eq_by_cmp (slice_cmp nat_cmp) n m
under_under d q r e m n h =
    ap (is_strict_prefix (d ++ n ∷ [])) h
    ∙ strict_front d (n ∷ []) (m ∷ e ∷ r)
    ∙ (λ i. and_true (bytes_eq n m) i && lt-ltb 1 (length (m ∷ e ∷ r)) (omega arith) i)
    ∙ and_true (bytes_eq n m)
    ∙ texts_ties n m
