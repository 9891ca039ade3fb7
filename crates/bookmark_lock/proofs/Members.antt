-- Members in a list, and how many are not spent.
use Rattle.std.proofs.Common.{◌≡◌, ℕ, zero, suc, ◌+◌, ◌<◌, ◌≤◌, ◌⊎◌, List, [], ◌∷◌, ◌++◌, length, set, Bool, true, false, cond, refl, sym, ap, ◌∙◌, inl, inr, ⊎_elim, arith}
use mathlib.Core.Option.{some, some-ne-none, some-injective}
use lib.ListN.{get_elem?}
use Rattle.bookmark_lock.specs.Members.{Member}
use Rattle.bookmark_lock.specs.Roster.{living}

pub at_inside : {A : Type 0} (l : List A) (i : ℕ) (a : A) → get_elem? l i ≡ some a → i < length l
at_inside [] i a e = absurd (some-ne-none a (sym e))
at_inside (x ∷ xs) zero a e = omega arith
at_inside (x ∷ xs) (suc i) a e = let h = at_inside xs i a e in omega arith

pub at_end : {A : Type 0} (l : List A) (a x : A) (j : ℕ) → get_elem? (l ++ a ∷ []) j ≡ some x → (get_elem? l j ≡ some x) ⊎ ((j ≡ length l) × (a ≡ x))
at_end [] a x zero e = inr (refl, some-injective a x e)
at_end [] a x (suc j) e = absurd (some-ne-none x (sym e))
at_end (y ∷ l) a x zero e = inl e
at_end (y ∷ l) a x (suc j) e = ⊎_elim (λ h. inl h) (λ t. inr (ap suc t.0, t.1)) (at_end l a x j e)

living_head : (x p : Member) (xs : List Member) → some x ≡ some p → p.spent ≡ false → living (x ∷ xs) ≡ 1 + living xs
living_head x p xs e lives = ap (λ (t : Bool). cond t 0 1 + living xs) (ap (λ (y : Member). y.spent) (some-injective x p e) ∙ lives)

pub living-set_same : (members : List Member) (i : ℕ) (p q : Member) → get_elem? members i ≡ some p → q.spent ≡ p.spent → living (set members i q) ≡ living members
living-set_same [] i p q e same = refl
living-set_same (x ∷ xs) zero p q e same = ap (λ (t : Bool). cond t 0 1 + living xs) (same ∙ ap (λ (y : Member). y.spent) (sym (some-injective x p e)))
living-set_same (x ∷ xs) (suc i) p q e same = ap (λ (n : ℕ). cond x.spent 0 1 + n) (living-set_same xs i p q e same)

pub living-snoc : (members : List Member) (p : Member) → p.spent ≡ false → living (members ++ p ∷ []) ≡ living members + 1
living-snoc [] p lives = ap (λ (t : Bool). cond t 0 1 + 0) lives
living-snoc (q ∷ members) p lives = let rest = living-snoc members p lives in ap (λ (n : ℕ). cond q.spent 0 1 + n) rest ∙ omega arith

pub living-set_spent : (members : List Member) (i : ℕ) (p q : Member) → get_elem? members i ≡ some p → p.spent ≡ false → q.spent ≡ true → living (set members i q) + 1 ≡ living members
living-set_spent [] i p q e lives gone = absurd (some-ne-none p (sym e))
living-set_spent (x ∷ xs) zero p q e lives gone =
    let now : living (q ∷ xs) ≡ 0 + living xs = ap (λ (t : Bool). cond t 0 1 + living xs) gone in
    let was = living_head x p xs e lives in omega arith
living-set_spent (x ∷ xs) (suc i) p q e lives gone = let rest = living-set_spent xs i p q e lives gone in omega arith

pub living-some : (members : List Member) (i : ℕ) (p : Member) → get_elem? members i ≡ some p → p.spent ≡ false → 1 ≤ living members
living-some [] i p e lives = absurd (some-ne-none p (sym e))
living-some (x ∷ xs) zero p e lives = let was = living_head x p xs e lives in omega arith
living-some (x ∷ xs) (suc i) p e lives = let rest = living-some xs i p e lives in omega arith

-- where one alone is not spent, two that are not are the same
pub living-one : (members : List Member) (i j : ℕ) (p q : Member) → get_elem? members i ≡ some p → get_elem? members j ≡ some q → p.spent ≡ false → q.spent ≡ false → living members ≡ 1 → i ≡ j
living-one [] i j p q e f lives lives' one = absurd (some-ne-none p (sym e))
living-one (x ∷ xs) zero zero p q e f lives lives' one = refl
living-one (x ∷ xs) zero (suc j) p q e f lives lives' one =
    let was = living_head x p xs e lives in let more = living-some xs j q f lives' in absurd (omega arith)
living-one (x ∷ xs) (suc i) zero p q e f lives lives' one =
    let was = living_head x q xs f lives' in let more = living-some xs i p e lives in absurd (omega arith)
living-one (x ∷ xs) (suc i) (suc j) p q e f lives lives' one =
    let more = living-some xs i p e lives in ap suc (living-one xs i j p q e f lives lives' (omega arith))
