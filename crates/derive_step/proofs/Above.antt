-- Directories above a path, added from the deepest up.
use Rattle.std.proofs.Common.{◌≡◌, ◌⊎◌, inl, inr, ℕ, ◌+◌, ◌<◌, ◌≤◌, Bool, true, false, cond, not, ◌&&◌, ◌||◌, List, [], ◌∷◌, ◌++◌, length, refl, sym, ap, ◌∙◌, arith}
use Rattle.std.specs.Prelude.{◌==◌, bytes_eq, nat_lt}
use mathlib.Core.Bool.{true≢false}
use Rattle.std.specs.Ordering.{eq_by_cmp}
use Rattle.std.specs.BTreeSet.{BTreeSet, contains}
use Rattle.std.proofs.lemmas.Bool.{and_parts, or_left, or_right, ne_eqb, ltb-true as ltb_true, ltb-false as ltb_false, false_from_ne_true}
use Rattle.std.proofs.lemmas.List.{length_push}
use Rattle.changeset_model.specs.Path.{Path, path_cmp, is_prefix, is_strict_prefix}
use Rattle.manifest_model.proofs.Derivations.{tied_same}
use Rattle.manifest_laws.proofs.Lists.{true_and_false}
use Rattle.manifest_model.proofs.Derivations.{or_case as or_either}
use Rattle.manifest_laws.proofs.Names.{same_name}
use Rattle.manifest_laws.proofs.Changes.{prefix_itself, prefix_trans}
use Rattle.manifest_laws.proofs.Flat.{prefix_length, strict_parts, strict_from, strict_then, is_strict_or_same, tied_self}
use Rattle.history_model.proofs.Landings.{prefix_self}
use Rattle.derive_step.specs.Touched.{is_above, IsWhole}
use Rattle.changeset_model.proofs.Texts.{or_true}
use Rattle.manifest_laws.proofs.Steps.{both_ways}
use Rattle.tree_fold.proofs.Trees.{both as and_both}

-- ---- truth values

pub by_test : {P : Type 0} (b : Bool) → (b ≡ true → P) → (b ≡ false → P) → P
by_test true f g = f refl
by_test false f g = g refl

-- ---- paths

-- of two fronts of a path the shorter is a front of the longer
pub fronts_nest : (a b p : Path) → is_prefix a p ≡ true → is_prefix b p ≡ true → length a ≤ length b → is_prefix a b ≡ true
fronts_nest [] b p h g less = refl
fronts_nest (e ∷ a) [] p h g less = absurd (omega arith)
fronts_nest (e ∷ a) (f ∷ b) [] h g less = absurd (true≢false (sym h))
fronts_nest (e ∷ a) (f ∷ b) (k ∷ p) h g less =
    let left = and_parts (bytes_eq e k) (is_prefix a p) h in
    let right = and_parts (bytes_eq f k) (is_prefix b p) g in
    let same : bytes_eq e f ≡ true = ap (bytes_eq e) (same_name f k right.0) ∙ left.0 in
    and_both (bytes_eq e f) (is_prefix a b) same (fronts_nest a b p left.1 right.1 (omega arith))

pub some_length : (d : Path) → 0 < length d → not (length d == 0) ≡ true
some_length d some = ap not (ne_eqb (length d) 0 (λ e. absurd (omega arith)))

above_some : (d : Path) → not (length d == 0) ≡ true → 0 < length d
above_some [] h = absurd (true≢false (sym h))
above_some (e ∷ d) h = omega arith

pub above_parts : (d p : Path) → is_above d p ≡ true → (0 < length d) × (is_strict_prefix d p ≡ true)
above_parts d p h = let parts = and_parts (not (length d == 0)) (is_strict_prefix d p) h in (above_some d parts.0, parts.1)

pub above_from : (d p : Path) → 0 < length d → is_strict_prefix d p ≡ true → is_above d p ≡ true
above_from d p some under = and_both (not (length d == 0)) (is_strict_prefix d p) (some_length d some) under

-- ---- those above p and not above t

abbrev pub between : Path → Path → Path → Bool
between t p d = is_prefix t d && is_strict_prefix d p

pub between_itself : (p d : Path) → between p p d ≡ false
between_itself p d = false_from_ne_true (between p p d) (λ h.
    let parts = and_parts (is_prefix p d) (is_strict_prefix d p) h in
    let more = prefix_length p d parts.0 in
    let less = (strict_parts d p parts.1).1 in
    absurd (omega (arith, more, less)))

pub front_more : (t a : Path) (n : List ℕ) → t ≡ a ++ n ∷ [] → is_strict_prefix a t ≡ true
front_more t a n e = ap (is_strict_prefix a) e ∙ strict_from a (a ++ n ∷ []) (prefix_itself a (n ∷ [])) (omega (arith, length_push a n))

-- with the path a directly above t
pub one_above : (a t p d : Path) (n : List ℕ) → t ≡ a ++ n ∷ [] → is_prefix t p ≡ true → cond (eq_by_cmp path_cmp a d) true (between t p d) ≡ between a p d
one_above a t p d n e front = both_ways (cond (eq_by_cmp path_cmp a d) true (between t p d)) (between a p d) there back
  where
    less : is_strict_prefix a t ≡ true
    less = front_more t a n e

    under : is_strict_prefix a p ≡ true
    under = strict_then a t p less front

    there_by : (b : Bool) → eq_by_cmp path_cmp a d ≡ b → cond b true (between t p d) ≡ true → between a p d ≡ true
    there_by true same h = ap (between a p) (sym (tied_same a d same)) ∙ and_both (is_prefix a a) (is_strict_prefix a p) (prefix_self a) under
    there_by false apart h =
        let parts = and_parts (is_prefix t d) (is_strict_prefix d p) h in
        and_both (is_prefix a d) (is_strict_prefix d p) (prefix_trans a t d (strict_parts a t less).0 parts.0) parts.1

    there : cond (eq_by_cmp path_cmp a d) true (between t p d) ≡ true → between a p d ≡ true
    there h = there_by (eq_by_cmp path_cmp a d) refl h

    back_by : (b : Bool) → eq_by_cmp path_cmp a d ≡ b → between a p d ≡ true → cond b true (between t p d) ≡ true
    back_by true same h = refl
    back_by false apart h = by (is_strict_or_same a d parts.0)
      where
        parts : (is_prefix a d ≡ true) × (is_strict_prefix d p ≡ true)
        parts = and_parts (is_prefix a d) (is_strict_prefix d p) h

        by : (d ≡ a) ⊎ (is_strict_prefix a d ≡ true) → between t p d ≡ true
        by (inl same) = true_and_false (eq_by_cmp path_cmp a d) (ap (λ x. eq_by_cmp path_cmp a x) same ∙ tied_self a) apart
        by (inr more) =
            let long = (strict_parts a d more).1 in
            let size = ap length e ∙ length_push a n in
            and_both (is_prefix t d) (is_strict_prefix d p) (fronts_nest t d p front (strict_parts d p parts.1).0 (omega (arith, long, size))) parts.1

    back : between a p d ≡ true → cond (eq_by_cmp path_cmp a d) true (between t p d) ≡ true
    back h = back_by (eq_by_cmp path_cmp a d) refl h

-- where t is one element, all above p lie between
pub all_between : (t p d : Path) (n : List ℕ) → t ≡ n ∷ [] → is_prefix t p ≡ true → between t p d ≡ is_above d p
all_between t p d n e front = both_ways (between t p d) (is_above d p) there back
  where
    there : between t p d ≡ true → is_above d p ≡ true
    there h =
        let parts = and_parts (is_prefix t d) (is_strict_prefix d p) h in
        let long = prefix_length t d parts.0 in
        let size = ap length e in
        above_from d p (omega (arith, long, size)) parts.1

    back : is_above d p ≡ true → between t p d ≡ true
    back h =
        let parts = above_parts d p h in
        let size = ap length e in
        let some = parts.0 in
        and_both (is_prefix t d) (is_strict_prefix d p) (fronts_nest t d p front (strict_parts d p parts.1).0 (omega (arith, some, size))) parts.1

-- ---- in a set

module _ (old : BTreeSet Path) (whole : IsWhole old) (p : Path) where
  -- a, directly above t, was in the set before
  pub rest_there : (t a d : Path) (n : List ℕ) → t ≡ a ++ n ∷ [] → is_prefix t p ≡ true → contains path_cmp old a ≡ true
      → (contains path_cmp old d || between t p d) ≡ (contains path_cmp old d || is_above d p)
  rest_there t a d n e front has = both_ways (contains path_cmp old d || between t p d) (contains path_cmp old d || is_above d p) there back
    where
      size : length t ≡ length a + 1
      size = ap length e ∙ length_push a n

      there : (contains path_cmp old d || between t p d) ≡ true → (contains path_cmp old d || is_above d p) ≡ true
      there h = or_either (contains path_cmp old d) (between t p d)
          (λ g. or_left (contains path_cmp old d) (is_above d p) g)
          (λ g. or_right (contains path_cmp old d) (is_above d p) (
          let parts = and_parts (is_prefix t d) (is_strict_prefix d p) g in
          let long = prefix_length t d parts.0 in
          above_from d p (omega (arith, long, size)) parts.1)) h

      above : is_above d p ≡ true → (b : Bool) → nat_lt (length d) (length t) ≡ b → (contains path_cmp old d || between t p d) ≡ true
      above g true short =
          let parts = above_parts d p g in
          let less = ltb_true (length d) (length t) short in
          or_left (contains path_cmp old d) (between t p d) (by parts.0 (is_strict_or_same d a (fronts_nest d a p (strict_parts d p parts.1).0 (prefix_trans a t p (strict_parts a t (front_more t a n e)).0 front) (omega (arith, less, size)))))
        where
          by : 0 < length d → (a ≡ d) ⊎ (is_strict_prefix d a ≡ true) → contains path_cmp old d ≡ true
          by some (inl same) = ap (contains path_cmp old) (sym same) ∙ has
          by some (inr more) = whole d a has (above_from d a some more)
      above g false long =
          let parts = above_parts d p g in
          let more = ltb_false (length d) (length t) long in
          or_right (contains path_cmp old d) (between t p d) (and_both (is_prefix t d) (is_strict_prefix d p) (fronts_nest t d p front (strict_parts d p parts.1).0 (omega (arith, more))) parts.1)

      back : (contains path_cmp old d || is_above d p) ≡ true → (contains path_cmp old d || between t p d) ≡ true
      back h = or_either (contains path_cmp old d) (is_above d p)
          (λ g. or_left (contains path_cmp old d) (between t p d) g)
          (λ g. above g (nat_lt (length d) (length t)) refl) h

  pub whole_with : (new : BTreeSet Path) → ((d : Path) → contains path_cmp new d ≡ (contains path_cmp old d || is_above d p)) → IsWhole new
  whole_with new added d q has under = added d ∙ or_either (contains path_cmp old q) (is_above q p)
      (λ g. or_left (contains path_cmp old d) (is_above d p) (whole d q g under))
      (λ g. or_right (contains path_cmp old d) (is_above d p) (
      let low = above_parts d q under in
      let high = above_parts q p g in
      above_from d p low.0 (strict_then d q p low.1 (strict_parts q p high.1).0))) (sym (added q) ∙ has)

pub added_more : (o x y b : Bool) → x ≡ (o || y) → cond b true x ≡ (o || cond b true y)
added_more o x y true e = or_true o
added_more o x y false e = e

pub or_nothing : (o b : Bool) → b ≡ false → o ≡ (o || b)
or_nothing true b e = refl
or_nothing false b e = sym e

pub not_so : (b c : Bool) → b ≡ not c → b ≡ false → c ≡ true
not_so b true e h = refl
not_so b false e h = absurd (true≢false (sym e ∙ h))

pub was_there : (t a p : Path) (o x : Bool) (n : List ℕ) → t ≡ a ++ n ∷ [] → x ≡ (o || between t p a) → x ≡ true → o ≡ true
was_there t a p true x n e has h = refl
was_there t a p false x n e has h =
    let parts = and_parts (is_prefix t a) (is_strict_prefix a p) (sym has ∙ h) in
    let long = prefix_length t a parts.0 in
    let size = ap length e ∙ length_push a n in
    absurd (omega (arith, long, size))

pub already : (s : BTreeSet Path) (a d : Path) → contains path_cmp s a ≡ true → cond (eq_by_cmp path_cmp a d) true (contains path_cmp s d) ≡ contains path_cmp s d
already s a d has = by (eq_by_cmp path_cmp a d) refl
  where
    by : (b : Bool) → eq_by_cmp path_cmp a d ≡ b → cond b true (contains path_cmp s d) ≡ contains path_cmp s d
    by true same = sym has ∙ ap (contains path_cmp s) (tied_same a d same)
    by false apart = refl
