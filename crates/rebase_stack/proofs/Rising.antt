-- Paths that were put in order, each once.
--     rising_unique      two rising lists of the same paths are equal
--     settled      what is left of some paths, sorted and without repeats, is the definition's
use Rattle.std.proofs.Common.{◌≡◌, ◌⊎◌, inl, inr, ℕ, zero, suc, ◌<◌, Bool, true, false, cond, List, [], ◌∷◌, length, map, refl, sym, ap, subst, ◌∙◌, arith}
use Rattle.std.specs.Prelude.{Contains, IsSorted, IsPermutation, slice_index_or}
use Rattle.std.specs.Borrow.{Bor}
use Rattle.std.specs.List.{AllByRecursion, dedup, dedup_from}
use Rattle.std.specs.List.Retain.{IsFiltered, DiffersFromLast}
use Rattle.std.specs.List.Sorted.{IsStrictlySortedBy}
use Rattle.std.specs.declared.cmp.Ordering.{Ordering}
use Rattle.std.specs.declared.cmp.Ordering.TheVariants.{Less}
use Rattle.std.specs.Ordering.{is_lt}
use Rattle.std.specs.Cmp.{on_total}
use Rattle.std.proofs.lemmas.List.Filters.{dedup_is}
use Rattle.std.proofs.lemmas.List.Kept.{IsStrictlySortedBy-dedup, Contains-dedup, Contains-from_dedup}
use Rattle.std.proofs.lemmas.List.Sorted.{IsPermutation-map, IsPermutation-sym, Contains-permutation}
use Rattle.byte_fields.proofs.Lists.{contains_head, contains_tail, each_of}
use Rattle.changeset_model.specs.Path.{Path, path_cmp, path_eq, path_lt, IsRising, rising}
use Rattle.changeset_model.proofs.Paths.{path_cmp_total, path_cmp-IsAntisymmetric}
use Rattle.changeset_model.proofs.Rising.{path_lt_irreflexive, path_lt_asymmetric, Contains-rising, IsRising-rising}
use Rattle.repo_path.specs.Order.{path_eq_equiv, path_eq_ties}
use Rattle.bonsai.proofs.Between.{equal_of}
use Rattle.history_model.proofs.Clashes.{not_both}

-- ---- two rising lists of the same paths

at_place : (p : Path) (ps : List Path) (q : Path) (k : ℕ) → k < length (p ∷ ps) → slice_index_or (p ∷ ps) k q ≡ q → (p ≡ q) ⊎ Contains ps q
at_place p ps q zero less is = inl is
at_place p ps q (suc k) less is = inr (k, omega arith, is)

head_or_tail : (p : Path) (ps : List Path) (q : Path) → Contains (p ∷ ps) q → (p ≡ q) ⊎ Contains ps q
head_or_tail p ps q c = at_place p ps q c.0 c.1 c.2

none_of_nothing : (p : Path) → Contains [] p → ⊥
none_of_nothing p c = let h = c.1 in omega arith

-- each path of the one is in the other
abbrev IsWithin : List Path → List Path → Type 0
IsWithin ps qs = (p : Path) → Contains ps p → Contains qs p

same_head : (p q : Path) (ps qs : List Path) → IsRising (p ∷ ps) → IsRising (q ∷ qs) → (q ≡ p) ⊎ Contains qs p → (p ≡ q) ⊎ Contains ps q → p ≡ q
same_head p q ps qs rise rise' (inl e) other = sym e
same_head p q ps qs rise rise' (inr c) (inl e) = e
same_head p q ps qs rise rise' (inr c) (inr d) =
    absurd (not_both (path_lt p q) (each_of (λ r. path_lt p r ≡ true) ps q rise.0 d) (path_lt_asymmetric q p (each_of (λ r. path_lt q r ≡ true) qs p rise'.0 c)))

in_tail : (p q r : Path) (ps qs : List Path) → p ≡ q → IsRising (p ∷ ps) → Contains ps r → (q ≡ r) ⊎ Contains qs r → Contains qs r
in_tail p q r ps qs same rise c (inl e) =
    absurd (not_both (path_lt p r) (each_of (λ r. path_lt p r ≡ true) ps r rise.0 c) (subst (λ r. path_lt p r ≡ false) (same ∙ e) (path_lt_irreflexive p)))
in_tail p q r ps qs same rise c (inr d) = d

tail_within : (p q : Path) (ps qs : List Path) → p ≡ q → IsRising (p ∷ ps) → IsWithin (p ∷ ps) (q ∷ qs) → IsWithin ps qs
tail_within p q ps qs same rise within r c = in_tail p q r ps qs same rise c (head_or_tail q qs r (within r (contains_tail p r ps c)))

pub rising_unique : (ps qs : List Path) → IsRising ps → IsRising qs → IsWithin ps qs → IsWithin qs ps → ps ≡ qs
rising_unique [] [] rise rise' within within' = refl
rising_unique [] (q ∷ qs) rise rise' within within' = absurd (none_of_nothing q (within' q (contains_head q qs)))
rising_unique (p ∷ ps) [] rise rise' within within' = absurd (none_of_nothing p (within p (contains_head p ps)))
rising_unique (p ∷ ps) (q ∷ qs) rise rise' within within' =
    let same : p ≡ q = same_head p q ps qs rise rise' (head_or_tail q qs p (within p (contains_head p ps))) (head_or_tail p ps q (within' q (contains_head q qs))) in
    let later : ps ≡ qs = rising_unique ps qs rise.1 rise'.1 (tail_within p q ps qs same rise within) (tail_within q p qs ps (sym same) rise' within') in
    (λ i. same i ∷ later i)

-- ---- sorted, and each once

abbrev cmp_of : Bor Path → Bor Path → Ordering
cmp_of p q = path_cmp p.now q.now

abbrev eq_of : Bor Path → Bor Path → Bool
eq_of p q = path_eq p.now q.now

abbrev paths_of : List (Bor Path) → List Path
paths_of ps = map (λ p. p.now) ps

strictly_rising : (ps : List (Bor Path)) → IsStrictlySortedBy cmp_of ps → IsRising (paths_of ps)
unfolding IsStrictlySortedBy
strictly_rising [] h = tt
strictly_rising (p ∷ ps) h = (below ps h.0, strictly_rising ps h.1)
  where
    below : (qs : List (Bor Path)) → AllByRecursion (λ q. cmp_of p q ≡ Less) qs → AllByRecursion (λ q. path_lt p.now q ≡ true) (paths_of qs)
    below [] all = tt
    below (q ∷ qs) all = (ap is_lt all.0, below qs all.1)

dedup_from-map : (k : Bor Path) (ps : List (Bor Path)) → paths_of (dedup_from eq_of k ps) ≡ dedup_from path_eq k.now (paths_of ps)
dedup_from-map k [] = refl
dedup_from-map k (p ∷ ps) =
    elim (path_eq p.now k.now) as (λ b. paths_of (cond b (dedup_from eq_of k ps) (k ∷ dedup_from eq_of p ps)) ≡ cond b (dedup_from path_eq k.now (paths_of ps)) (k.now ∷ dedup_from path_eq p.now (paths_of ps))) [
      | true ↦ dedup_from-map k ps
      | false ↦ ap (λ qs. k.now ∷ qs) (dedup_from-map p ps)
    ]

dedup-map : (ps : List (Bor Path)) → paths_of (dedup eq_of ps) ≡ dedup path_eq (paths_of ps)
dedup-map [] = refl
dedup-map (p ∷ ps) = dedup_from-map p ps

same_path : (p q : Path) → path_eq p q ≡ true → p ≡ q
same_path p q h = path_cmp-IsAntisymmetric p q (equal_of (path_cmp p q) (sym (path_eq_ties p q) ∙ h))

-- what a sort and the dropping of repeats leave is the definition's
pub settled : (came sorted kept : List (Bor Path)) → IsPermutation came sorted → IsSorted cmp_of sorted → IsFiltered (DiffersFromLast eq_of) [] sorted kept → paths_of kept ≡ rising (paths_of came)
settled came sorted kept moved in_order left =
    let ps = paths_of came in
    let qs = paths_of sorted in
    let moved' = IsPermutation-map (λ (p : Bor Path). p.now) came sorted moved in
    let is : paths_of kept ≡ dedup path_eq qs = ap paths_of (dedup_is eq_of sorted kept left) ∙ dedup-map sorted in
    let rise : IsRising (paths_of kept) = subst (λ ps. IsRising (paths_of ps)) (sym (dedup_is eq_of sorted kept left)) (strictly_rising (dedup eq_of sorted) (IsStrictlySortedBy-dedup (on_total (λ (p : Bor Path). p.now) path_cmp_total) (λ p q. path_eq_ties p.now q.now) sorted in_order)) in
    rising_unique (paths_of kept) (rising ps) rise (IsRising-rising ps)
    (λ p c. (Contains-rising ps p).1 (Contains-permutation qs ps p (IsPermutation-sym ps qs moved') (Contains-from_dedup path_eq qs p (subst (λ rs. Contains rs p) is c))))
    (λ p c. subst (λ rs. Contains rs p) (sym is) (Contains-dedup path_eq_equiv same_path qs p (Contains-permutation ps qs p moved' ((Contains-rising ps p).0 c))))
