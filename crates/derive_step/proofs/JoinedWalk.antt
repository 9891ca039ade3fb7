-- The entries of the second parent, joined to those of the first one by one.
use Rattle.std.proofs.Common.{◌≡◌, ℕ, ◌<◌, Bool, true, false, cond, List, [], ◌∷◌, ◌++◌, length, refl, sym, ap, ◌∙◌, arith}
use Rattle.std.specs.Prelude.{Option, Some, None}
use Rattle.std.specs.List.{AllByRecursion}
use Rattle.std.specs.Ordering.{eq_by_cmp, is_lt}
use Rattle.std.specs.FinMap.{is_sorted, find as find_key}
use Rattle.std.specs.FinMap.Entries.{below_all}
use Rattle.std.proofs.lemmas.Bool.{and_parts}
use Rattle.derive_step.specs.Merge.{is_before}
use Rattle.derive_step.specs.Join.{joined_by, joined_nodes, nodes_where}
use Rattle.derive_step.proofs.Edits.{name_swap, tied_name}
use Rattle.derive_step.proofs.Entries.{by_name, none_below}
use Rattle.derive_step.proofs.Merged.{before_later, not_tied}

abbrev Named : Type 0 → Type 0
Named E = List (List ℕ × E)

module _ {E : Type 0} where
  -- each name that is left comes after those that were gone through
  abbrev pub AreLater : Named E → Named E → Type 0
  AreLater left done = AllByRecursion (λ e. is_before e.0 done ≡ true) left

  pub later_start : (left : Named E) → AreLater left []
  later_start [] = tt
  later_start (e ∷ left) = (refl, later_start left)

  pub later_rest : (m : List ℕ) (left done : Named E) → below_all by_name m left ≡ true → is_before m done ≡ true → AreLater left done
  later_rest m [] done below before = tt
  later_rest m (e ∷ left) done below before =
      let parts = and_parts (is_lt (by_name m e.0)) (below_all by_name m left) below in
      (before_later m e.0 done parts.0 before, later_rest m left done parts.1 before)

  pub joined_alone : (join : E → E → Option E) (a : Option E) → joined_by join (a, None) ≡ a
  joined_alone join None = refl
  joined_alone join (Some a) = refl

  module _ (join : List ℕ → E → E → Option E) (m : List ℕ) (e : E) (left : Named E) (rise : is_sorted by_name ((m, e) ∷ left) ≡ true) (old new : List ℕ → Option E)
      (put : (n : List ℕ) → new n ≡ cond (eq_by_cmp by_name m n) (joined_by (join m) (old m, Some e)) (old n)) where
    below : below_all by_name m left ≡ true
    below = (and_parts (below_all by_name m left) (is_sorted by_name left) rise).0

    pub one_more : (n : List ℕ) → joined_by (join n) (new n, find_key by_name n left) ≡ joined_by (join n) (old n, find_key by_name n ((m, e) ∷ left))
    one_more n = by (eq_by_cmp by_name m n) refl
      where
        by : (b : Bool) → eq_by_cmp by_name m n ≡ b → joined_by (join n) (new n, find_key by_name n left) ≡ joined_by (join n) (old n, find_key by_name n ((m, e) ∷ left))
        by true same =
            (λ i. joined_by (join n) ((put n ∙ ap (λ b. cond b (joined_by (join m) (old m, Some e)) (old n)) same) i, none_below m n left same below i))
            ∙ joined_alone (join n) (joined_by (join m) (old m, Some e))
            ∙ ap (λ x. joined_by (join x) (old x, Some e)) (tied_name m n same)
            ∙ sym (ap (λ b. joined_by (join n) (old n, cond b (Some e) (find_key by_name n left))) (name_swap n m ∙ same))
        by false apart =
            ap (λ o. joined_by (join n) (o, find_key by_name n left)) (put n ∙ ap (λ b. cond b (joined_by (join m) (old m, Some e)) (old n)) apart)
            ∙ sym (ap (λ b. joined_by (join n) (old n, cond b (Some e) (find_key by_name n left))) (name_swap n m ∙ apart))

    same_nodes : (own : List ℕ → E → E → List (List ℕ)) (es : Named E) → below_all by_name m es ≡ true → joined_nodes own new es ≡ joined_nodes own old es
    same_nodes own [] h = refl
    same_nodes own (x ∷ es) h =
        let parts = and_parts (is_lt (by_name m x.0)) (below_all by_name m es) h in
        λ i. nodes_where (own x.0) ((put x.0 ∙ ap (λ b. cond b (joined_by (join m) (old m, Some e)) (old x.0)) (not_tied m x.0 parts.0)) i) x.1 ++ same_nodes own es parts.1 i

    pub rest_nodes : (own : List ℕ → E → E → List (List ℕ)) → joined_nodes own new left ≡ joined_nodes own old left
    rest_nodes own = same_nodes own left below

    pub rest_later : (done : Named E) → is_before m done ≡ true → AreLater left done
    rest_later done before = later_rest m left done below before

    pub rest_rises : is_sorted by_name left ≡ true
    rest_rises = (and_parts (below_all by_name m left) (is_sorted by_name left) rise).1

pub none_left_of : {X : Type 0} (xs : List X) → (0 < length xs → ⊥) → xs ≡ []
none_left_of [] h = refl
none_left_of (x ∷ xs) h = absurd (h (omega arith))
