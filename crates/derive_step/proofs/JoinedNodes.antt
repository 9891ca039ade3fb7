-- The own nodes of names that both parents have.
use Rattle.std.proofs.Common.{◌≡◌, inl, inr, ℕ, Bool, true, false, cond, List, [], ◌∷◌, ◌++◌, refl, sym, ap, subst, ◌∙◌}
use Rattle.std.specs.Prelude.{Option, Some, None}
use Rattle.std.specs.Cmp.{tied_itself}
use Rattle.std.specs.Cmp.Lexicographic.{nat_list_cmp_total}
use Rattle.std.specs.List.{AllByRecursion}
use Rattle.std.specs.Ordering.{eq_by_cmp, is_eq, is_lt}
use Rattle.std.specs.FinMap.{is_sorted, find as find_key}
use Rattle.std.specs.FinMap.Entries.{below_all}
use Rattle.std.proofs.lemmas.Bool.{and_parts}
use Rattle.byte_fields.proofs.Booleans.{same_some}
use Rattle.byte_fields.proofs.Lists.{all_both as all_append}
use Rattle.derive_step.specs.Walk.{Sides}
use Rattle.derive_step.specs.Join.{AreJoined, joined_nodes, nodes_where}
use Rattle.derive_step.proofs.Edits.{name_swap, tied_name}
use Rattle.derive_step.proofs.Entries.{by_name}
use Rattle.derive_step.proofs.Merged.{not_tied}
use Rattle.derive_step.proofs.Members.{Has, has_left, has_right}

itself : (n : List ℕ) → eq_by_cmp by_name n n ≡ true
itself n = ap is_eq (tied_itself nat_list_cmp_total n)

module _ {E : Type 0} where
  -- later names are found behind the first
  still_found : (e : List ℕ × E) (es xs : List (List ℕ × E)) → below_all by_name e.0 xs ≡ true → AllByRecursion (λ x. find_key by_name x.0 es ≡ Some x.1) xs → AllByRecursion (λ x. find_key by_name x.0 (e ∷ es) ≡ Some x.1) xs
  still_found e es [] below all = tt
  still_found e es (x ∷ xs) below all =
      let parts = and_parts (is_lt (by_name e.0 x.0)) (below_all by_name e.0 xs) below in
      (ap (λ b. cond b (Some e.1) (find_key by_name x.0 es)) (name_swap x.0 e.0 ∙ not_tied e.0 x.0 parts.0) ∙ all.0, still_found e es xs parts.1 all.1)

  pub names_found : (es : List (List ℕ × E)) → is_sorted by_name es ≡ true → AllByRecursion (λ x. find_key by_name x.0 es ≡ Some x.1) es
  names_found [] rise = tt
  names_found (e ∷ es) rise =
      let parts = and_parts (below_all by_name e.0 es) (is_sorted by_name es) rise in
      (ap (λ b. cond b (Some e.1) (find_key by_name e.0 es)) (itself e.0), still_found e es es parts.0 (names_found es parts.1))

  pub name_has : (n : List ℕ) (v : E) (es : List (List ℕ × E)) → find_key by_name n es ≡ Some v → Has es (n, v)
  name_has n v [] h = absurd (cc)
  name_has n v (e ∷ es) h = by (eq_by_cmp by_name n e.0) refl (name_has n v es) h
    where
      by : (b : Bool) → eq_by_cmp by_name n e.0 ≡ b → (find_key by_name n es ≡ Some v → Has es (n, v)) → cond b (Some e.1) (find_key by_name n es) ≡ Some v → Has (e ∷ es) (n, v)
      by true same ih g = inl (λ i. (sym (tied_name n e.0 same) i, same_some e.1 v g i))
      by false apart ih g = inr (ih g)

module _ {E : Type 0} (own : List ℕ → E → E → List (List ℕ)) (o : List ℕ → Sides E) where
  abbrev first : List ℕ → Option E
  first n = (o n).0

  abbrev AreAt : List (List ℕ × E) → Type 0
  AreAt es = AllByRecursion (λ x. (o x.0).1 ≡ Some x.1) es

  pub each_joined : (P : List ℕ → Type 0) → ((n : List ℕ) (a b : E) → (o n).0 ≡ Some a → (o n).1 ≡ Some b → AllByRecursion P (own n a b)) → (es : List (List ℕ × E)) → AreAt es → AllByRecursion P (joined_nodes own first es)
  each_joined P each [] at = tt
  each_joined P each (e ∷ es) at = all_append P (nodes_where (own e.0) (first e.0) e.1) (joined_nodes own first es) (by (first e.0) refl) (each_joined P each es at.1)
    where
      by : (x : Option E) → first e.0 ≡ x → AllByRecursion P (nodes_where (own e.0) x e.1)
      by None h = tt
      by (Some a) h = each e.0 a e.1 h at.0

  pub none_joined : ((n : List ℕ) (a b : E) → (o n).0 ≡ Some a → (o n).1 ≡ Some b → own n a b ≡ []) → (es : List (List ℕ × E)) → AreAt es → joined_nodes own first es ≡ []
  none_joined none [] at = refl
  none_joined none (e ∷ es) at = λ i. by (first e.0) refl i ++ none_joined none es at.1 i
    where
      by : (x : Option E) → first e.0 ≡ x → nodes_where (own e.0) x e.1 ≡ []
      by None h = refl
      by (Some a) h = none e.0 a e.1 h at.0

  pub joined_has : (n : List ℕ) (a b : E) (x : List ℕ) → (o n).0 ≡ Some a → Has (own n a b) x → (es : List (List ℕ × E)) → Has es (n, b) → Has (joined_nodes own first es) x
  joined_has n a b x at has [] h = absurd h
  joined_has n a b x at has (e ∷ es) (inl same) =
      has_left (nodes_where (own e.0) (first e.0) e.1) (joined_nodes own first es) x
      (subst (λ (ns : List (List ℕ)). Has ns x) (sym (ap (λ (y : List ℕ × E). nodes_where (own y.0) (first y.0) y.1) same ∙ ap (λ y. nodes_where (own n) y b) at)) has)
  joined_has n a b x at has (e ∷ es) (inr h) = has_right (nodes_where (own e.0) (first e.0) e.1) (joined_nodes own first es) x (joined_has n a b x at has es h)

  all_at : (es : List (List ℕ × E)) → is_sorted by_name es ≡ true → ((n : List ℕ) → find_key by_name n es ≡ (o n).1) → AreAt es
  all_at es rise found = by es (names_found es rise)
    where
      by : (xs : List (List ℕ × E)) → AllByRecursion (λ x. find_key by_name x.0 es ≡ Some x.1) xs → AreAt xs
      by [] all = tt
      by (x ∷ xs) all = (sym (found x.0) ∙ all.0, by xs all.1)

  module _ (had put : List (List ℕ)) (of : AreJoined own o had put) where
    abbrev pub these : List (List ℕ)
    these = joined_nodes own first of.second

    pub all_joined : (P : List ℕ → Type 0) → ((n : List ℕ) (a b : E) → (o n).0 ≡ Some a → (o n).1 ≡ Some b → AllByRecursion P (own n a b)) → AllByRecursion P these
    all_joined P each = each_joined P each of.second (all_at of.second of.rising of.found)

    pub nothing_joined : ((n : List ℕ) (a b : E) → (o n).0 ≡ Some a → (o n).1 ≡ Some b → own n a b ≡ []) → these ≡ []
    nothing_joined none = none_joined none of.second (all_at of.second of.rising of.found)

    pub one_joined : (n : List ℕ) (a b : E) (x : List ℕ) → (o n).0 ≡ Some a → (o n).1 ≡ Some b → Has (own n a b) x → Has these x
    one_joined n a b x one two has = joined_has n a b x one has of.second (name_has n b of.second (of.found n ∙ two))

-- where files have no nodes of their own
pub no_joined_nodes : {E : Type 0} (f : List ℕ → Option E) (es : List (List ℕ × E)) → joined_nodes (λ _ _ _. []) f es ≡ []
no_joined_nodes f [] = refl
no_joined_nodes {E} f (e ∷ es) = λ i. by (f e.0) i ++ no_joined_nodes f es i
  where
    by : (x : Option E) → nodes_where (λ _ _. []) x e.1 ≡ []
    by None = refl
    by (Some a) = refl
