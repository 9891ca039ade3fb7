-- The directories of which both parents have different unodes.
use Rattle.std.proofs.Common.{◌≡◌, ◌<◌, Bool, true, false, cond, not, ◌&&◌, ◌||◌, List, [], ◌∷◌, length, refl, sym, ap, ◌∙◌, arith}
use Rattle.std.specs.Prelude.{Option, Some, None, option_map, ◌==◌}
use mathlib.Core.Bool.{true≢false}
use Rattle.std.specs.Cmp.{eq_by_cmp_equiv}
use Rattle.std.specs.List.{AllByRecursion, list_any}
use Rattle.std.specs.Map.{lookup}
use Rattle.std.specs.BTreeMap.{BTreeMap, get, is_at}
use Rattle.std.specs.Ordering.{eq_by_cmp}
use Rattle.std.proofs.lemmas.Bool.{and_parts, ne_eqb, or_left, or_right}
use Rattle.byte_fields.proofs.Booleans.{and_false, or_false}
use Rattle.changeset_model.specs.Path.{Path, path_cmp}
use Rattle.changeset_model.proofs.Paths.{path_cmp_total}
use Rattle.manifest_model.proofs.Derivations.{tied_same, or_case as or_either}
use Rattle.manifest_laws.proofs.Steps.{both_ways}
use Rattle.derive_step.specs.declared.job.DirNodes.{DirNodes}
use Rattle.derive_step.specs.Views.{Before, are_apart, before_seen}
use Rattle.derive_step.specs.Touched.{differ_in, is_other}

abbrev pub differs_at : BTreeMap Path DirNodes → Path → Path × DirNodes → Bool
differs_at second p e = eq_by_cmp path_cmp p e.0 && is_other e.1.unode_id (option_map before_seen (get path_cmp second e.0))

abbrev pub differs_among : BTreeMap Path DirNodes → Path → List (Path × DirNodes) → Bool
differs_among second p es = list_any (differs_at second p) es

other_is : (n : DirNodes) (b : Option Before) → is_other n.unode_id b ≡ are_apart (Some (before_seen n)) b
other_is n None = refl
other_is n (Some y) = refl

module _ (first second : BTreeMap Path DirNodes) (p : Path) where
  abbrev there : Option Before
  there = option_map before_seen (get path_cmp second p)

  -- found among the entries
  from_any : (es : List (Path × DirNodes)) → AllByRecursion (λ e. get path_cmp first e.0 ≡ Some e.1) es → differs_among second p es ≡ true → differ_in first second p ≡ true
  from_any [] all h = absurd (true≢false (sym h))
  from_any (e ∷ es) all h = or_either (differs_at second p e) (differs_among second p es)
      (λ g. (
      let parts = and_parts (eq_by_cmp path_cmp p e.0) (is_other e.1.unode_id (option_map before_seen (get path_cmp second e.0))) g in
      let same = tied_same p e.0 parts.0 in
      (λ i. are_apart (option_map before_seen ((ap (get path_cmp first) same ∙ all.0) i)) (option_map before_seen (get path_cmp second (same i))))
      ∙ sym (other_is e.1 (option_map before_seen (get path_cmp second e.0)))
      ∙ parts.1))
      (λ g. from_any es all.1 g) h

  to_any : (es : List (Path × DirNodes)) → are_apart (option_map before_seen (lookup (is_at (path_cmp p)) es)) there ≡ true → differs_among second p es ≡ true
  to_any [] h = absurd (true≢false (sym h))
  to_any (e ∷ es) h = by (eq_by_cmp path_cmp p e.0) refl (to_any es) h
    where
      by : (b : Bool) → eq_by_cmp path_cmp p e.0 ≡ b → (are_apart (option_map before_seen (lookup (is_at (path_cmp p)) es)) there ≡ true → differs_among second p es ≡ true)
          → are_apart (option_map before_seen (cond b (Some e.1) (lookup (is_at (path_cmp p)) es))) there ≡ true → differs_among second p (e ∷ es) ≡ true
      by true same ih g =
          let is = tied_same p e.0 same in
          let other = ap (λ x. is_other e.1.unode_id (option_map before_seen (get path_cmp second x))) (sym is) ∙ other_is e.1 there ∙ g in
          or_left (differs_at second p e) (differs_among second p es) (λ i. same i && other i)
      by false apart ih g = or_right (differs_at second p e) (differs_among second p es) (ih g)

  pub any_is : AllByRecursion (λ e. get path_cmp first e.0 ≡ Some e.1) first.entries → differs_among second p first.entries ≡ differ_in first second p
  any_is all = both_ways (differs_among second p first.entries) (differ_in first second p) (from_any first.entries all) (λ h. to_any first.entries h)

-- ---- one directory more

module _ (second : BTreeMap Path DirNodes) (p : Path) (e : Path × DirNodes) (left : List (Path × DirNodes)) where
  abbrev other : Bool
  other = is_other e.1.unode_id (option_map before_seen (get path_cmp second e.0))

  -- where a directory is put in, it is no root
  pub one_put : (was now : Bool) → 0 < length e.0 → other ≡ true → now ≡ cond (eq_by_cmp path_cmp e.0 p) true was
      → (now || (not (length p == 0) && differs_among second p left)) ≡ (was || (not (length p == 0) && differs_among second p (e ∷ left)))
  one_put was now some differs put =
      ap (λ b. b || (not (length p == 0) && differs_among second p left)) (put ∙ ap (λ b. cond b true was) ((eq_by_cmp_equiv path_cmp_total).symm e.0 p))
      ∙ by (eq_by_cmp path_cmp p e.0) refl
    where
      deep : p ≡ e.0 → (length p == 0) ≡ false
      deep is = ne_eqb (length p) 0 (λ z. (let same = ap length is in absurd (omega arith)))

      always : (b : Bool) → true ≡ (b || true)
      always true = refl
      always false = refl

      by : (b : Bool) → eq_by_cmp path_cmp p e.0 ≡ b → (cond b true was || (not (length p == 0) && differs_among second p left)) ≡ (was || (not (length p == 0) && ((b && other) || differs_among second p left)))
      by true same = always was ∙ sym (λ i. was || (not (deep (tied_same p e.0 same) i) && (differs i || differs_among second p left)))
      by false apart = refl

  pub one_left : (was : Bool) → other ≡ false → (was || (not (length p == 0) && differs_among second p left)) ≡ (was || (not (length p == 0) && differs_among second p (e ∷ left)))
  one_left was same = ap (λ b. was || (not (length p == 0) && (b || differs_among second p left))) (sym (ap (λ b. eq_by_cmp path_cmp p e.0 && b) same ∙ and_false (eq_by_cmp path_cmp p e.0)))

pub none_more : (was deep now : Bool) → (was || (deep && false)) ≡ now → was ≡ now
none_more was deep now all = sym (ap (λ b. was || b) (and_false deep) ∙ or_false was) ∙ all
