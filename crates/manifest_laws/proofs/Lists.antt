-- Truth values, options and lists of any kind.
use Rattle.std.proofs.Common.{◌≡◌, ℕ, suc, ◌≤◌, Bool, true, false, cond, ◌&&◌, ◌||◌, T, List, [], ◌∷◌, ◌++◌, map, length, refl, sym, ap, ◌∙◌, arith, length-append}
use Rattle.std.specs.Prelude.{Option, Some, None, filter, filter_map, nat_lt, option_and_then}
use mathlib.Core.Bool.{true≢false}
use Rattle.std.specs.List.{list_all, cons_option, concat}
use Rattle.std.proofs.lemmas.Bool.{and_parts}

-- ---- truth values

pub true_and_false : {P : Type 0} (b : Bool) → b ≡ true → b ≡ false → P
true_and_false b t f = absurd (true≢false (sym t ∙ f))

pub is_so : (b : Bool) → b ≡ true → T b
is_so true h = tt
is_so false h = absurd (true≢false (sym h))

pub and_assoc : (a b c : Bool) → ((a && b) && c) ≡ (a && (b && c))
and_assoc true b c = refl
and_assoc false b c = refl

pub and_true : (b : Bool) → b ≡ (b && true)
and_true true = refl
and_true false = refl

pub either_and : (a x y : Bool) → ((a && x) || (a && y)) ≡ (a && (x || y))
either_and true x y = refl
either_and false x y = refl

pub none_and : (a : Bool) → false ≡ (a && false)
none_and true = refl
none_and false = refl

pub one_longer : (a c : ℕ) → nat_lt (suc a) (suc c) ≡ nat_lt a c
one_longer a c = grind arith

-- ---- options

pub none_some : {P X : Type 0} (x : X) → ◌≡◌ {A = Option X} None (Some x) → P
none_some x e = absurd cc

-- ---- each element

pub list_all_append : {X : Type 0} (t : X → Bool) (xs ys : List X) → list_all t xs ≡ true → list_all t ys ≡ true → list_all t (xs ++ ys) ≡ true
list_all_append t [] ys h g = g
list_all_append t (x ∷ xs) ys h g = let parts = and_parts (t x) (list_all t xs) h in (λ i. parts.0 i && list_all_append t xs ys parts.1 g i)

pub all_of : {X : Type 0} (t : X → Bool) (xs : List X) → ((x : X) → t x ≡ true) → list_all t xs ≡ true
all_of t [] h = refl
all_of t (x ∷ xs) h = λ i. h x i && all_of t xs h i

-- ---- mapping, filtering and length

pub map_map : {X Y Z : Type 0} (g : Y → Z) (f : X → Y) (xs : List X) → map g (map f xs) ≡ map (λ x. g (f x)) xs
map_map g f [] = refl
map_map g f (x ∷ xs) = ap (λ ys. g (f x) ∷ ys) (map_map g f xs)

pub filter_map-twice : {X Y Z : Type 0} (g : Y → Option Z) (f : X → Option Y) (xs : List X) → filter_map g (filter_map f xs) ≡ filter_map (λ x. option_and_then g (f x)) xs
filter_map-twice g f [] = refl
filter_map-twice {X} {Y} {Z} g f (x ∷ xs) = by (f x) (filter_map f xs) (filter_map-twice g f xs)
  where
    by : (o : Option Y) (ys : List Y) → filter_map g ys ≡ filter_map (λ x. option_and_then g (f x)) xs → filter_map g (cons_option o ys) ≡ cons_option (option_and_then g o) (filter_map (λ x. option_and_then g (f x)) xs)
    by None ys e = e
    by (Some y) ys e = ap (cons_option (g y)) e

pub filter_map-same : {X Y : Type 0} (f g : X → Option Y) (xs : List X) → ((x : X) → f x ≡ g x) → filter_map f xs ≡ filter_map g xs
filter_map-same f g xs e = λ i. filter_map (λ x. e x i) xs

pub fewer_mapped : {X Y : Type 0} (g : X → Option Y) (xs : List X) → length (filter_map g xs) ≤ length xs
fewer_mapped g [] = omega arith
fewer_mapped {X} {Y} g (x ∷ xs) = by (g x) (fewer_mapped g xs)
  where
    by : (o : Option Y) → length (filter_map g xs) ≤ length xs → length (cons_option o (filter_map g xs)) ≤ suc (length xs)
    by None h = omega arith
    by (Some y) h = omega arith

pub fewer_passing : {X : Type 0} (t : X → Bool) (xs : List X) → length (filter t xs) ≤ length xs
fewer_passing t [] = omega arith
fewer_passing {X} t (x ∷ xs) = by (t x) (fewer_passing t xs)
  where
    by : (b : Bool) → length (filter t xs) ≤ length xs → length (cond b (x ∷ filter t xs) (filter t xs)) ≤ suc (length xs)
    by true h = omega arith
    by false h = omega arith

pub behind_long : (ls zs : List (List ℕ)) → length (concat zs) ≤ length (concat (ls ++ zs))
behind_long [] zs = omega arith
behind_long (l ∷ ls) zs = let rest = behind_long ls zs in let whole = length-append l (concat (ls ++ zs)) in omega (arith, rest, whole)
