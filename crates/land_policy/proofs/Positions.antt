-- The first place at which one of two tests passes, and the first place in a list with one more element.
use Rattle.std.proofs.Common.{◌≡◌, ℕ, ◌+◌, ◌≤◌, min, Bool, true, false, cond, ◌||◌, List, [], ◌∷◌, ◌++◌, length, refl, sym, ap, ◌∙◌, arith}
use Rattle.std.specs.Prelude.{position, Option, None, Some}
use Rattle.std.specs.List.{position_from}
use Rattle.std.specs.Option.{option_or}
use Rattle.std.proofs.lemmas.Iterator.Adapters.{position_from-zero}
use Rattle.byte_fields.proofs.Booleans.{same_some}
use Rattle.land_policy.specs.Index.{lesser}

-- ---- one more element

push_from : {X : Type 0} (p : X → Bool) (n : ℕ) (xs : List X) (y : X) → position_from p n (xs ++ y ∷ []) ≡ option_or (position_from p n xs) (cond (p y) (Some (n + length xs)) None)
push_from p n [] y = ap (λ (k : ℕ). cond (p y) (Some k) None) (let same : n ≡ n + 0 = omega arith in same)
push_from {X} p n (x ∷ xs) y = by (p x) (push_from p (n + 1) xs y)
  where
    by : (b : Bool) → position_from p (n + 1) (xs ++ y ∷ []) ≡ option_or (position_from p (n + 1) xs) (cond (p y) (Some (n + 1 + length xs)) None) → cond b (Some n) (position_from p (n + 1) (xs ++ y ∷ [])) ≡ option_or (cond b (Some n) (position_from p (n + 1) xs)) (cond (p y) (Some (n + length (x ∷ xs))) None)
    by true ih = refl
    by false ih =
        ih
        ∙ ap (λ (k : ℕ). option_or (position_from p (n + 1) xs) (cond (p y) (Some k) None)) (let same : n + 1 + length xs ≡ n + length (x ∷ xs) = omega arith in same)

pub position_push : {X : Type 0} (p : X → Bool) (xs : List X) (y : X) (n : ℕ) → length xs ≡ n → position p (xs ++ y ∷ []) ≡ option_or (position p xs) (cond (p y) (Some n) None)
position_push p xs y n is =
    position_from-zero p (xs ++ y ∷ []) ∙ push_from p 0 xs y
    ∙ (λ i. option_or (sym (position_from-zero p xs) i) (cond (p y) (Some ((let same : 0 + length xs ≡ n = omega arith in same) i)) None))

-- ---- one of two tests

not_below : {X : Type 0} (p : X → Bool) (n : ℕ) (xs : List X) (k : ℕ) → position_from p n xs ≡ Some k → n ≤ k
not_below p n [] k e = absurd (cc)
not_below {X} p n (x ∷ xs) k e = by (p x) (not_below p (n + 1) xs k) e
  where
    by : (b : Bool) → (position_from p (n + 1) xs ≡ Some k → n + 1 ≤ k) → cond b (Some n) (position_from p (n + 1) xs) ≡ Some k → n ≤ k
    by true ih e = let same = same_some n k e in omega arith
    by false ih e = let more = ih e in omega arith

first_stays : (n : ℕ) (later : Option ℕ) → ((k : ℕ) → later ≡ Some k → n + 1 ≤ k) → (Some n ≡ lesser (Some n) later) × (Some n ≡ lesser later (Some n))
first_stays n None above = (refl, refl)
first_stays n (Some k) above = let more = above k refl in (ap Some (let same : n ≡ min n k = omega arith in same), ap Some (let same : n ≡ min k n = omega arith in same))

either_from : {X : Type 0} (f g : X → Bool) (n : ℕ) (xs : List X) → position_from (λ x. f x || g x) n xs ≡ lesser (position_from f n xs) (position_from g n xs)
either_from f g n [] = refl
either_from {X} f g n (x ∷ xs) = by (f x) (g x) (either_from f g (n + 1) xs)
  where
    by : (a b : Bool) → position_from (λ x. f x || g x) (n + 1) xs ≡ lesser (position_from f (n + 1) xs) (position_from g (n + 1) xs) → cond (a || b) (Some n) (position_from (λ x. f x || g x) (n + 1) xs) ≡ lesser (cond a (Some n) (position_from f (n + 1) xs)) (cond b (Some n) (position_from g (n + 1) xs))
    by true true ih = ap Some (let same : n ≡ min n n = omega arith in same)
    by true false ih = (first_stays n (position_from g (n + 1) xs) (not_below g (n + 1) xs)).0
    by false true ih = (first_stays n (position_from f (n + 1) xs) (not_below f (n + 1) xs)).1
    by false false ih = ih

pub position_either : {X : Type 0} (f g : X → Bool) (xs : List X) → position (λ x. f x || g x) xs ≡ lesser (position f xs) (position g xs)
position_either f g xs = position_from-zero (λ x. f x || g x) xs ∙ either_from f g 0 xs ∙ (λ i. lesser (sym (position_from-zero f xs) i) (sym (position_from-zero g xs) i))

pub position_same : {X : Type 0} (f g : X → Bool) (xs : List X) → ((x : X) → f x ≡ g x) → position f xs ≡ position g xs
position_same f g xs same = (λ i. position (λ x. same x i) xs)
