-- Lists and options of any kind.
use Rattle.std.proofs.Common.{◌≡◌, Bool, true, false, cond, List, map, filter, take, length, [], ◌∷◌, refl, ap, ◌∙◌, arith}
use Rattle.std.specs.Prelude.{Option, None, Some}
use Rattle.std.proofs.lemmas.List.{take_all}

pub none_some : {X : Type 0} (x : X) → ◌≡◌ {A = Option X} None (Some x) → ⊥
none_some x e = absurd cc

-- ---- a front that is all

pub take_whole : {X : Type 0} (xs : List X) → take (length xs) xs ≡ xs
take_whole xs = take_all (length xs) xs (omega arith)

-- ---- filtering what is told of each element

kept_or_not : {X Y : Type 0} (f : X → Y) (x : X) (xs : List X) (b : Bool) → cond b (f x ∷ map f xs) (map f xs) ≡ map f (cond b (x ∷ xs) xs)
kept_or_not f x xs true = refl
kept_or_not f x xs false = refl

pub filter-map : {X Y : Type 0} (f : X → Y) (p : Y → Bool) (xs : List X) → filter p (map f xs) ≡ map f (filter (λ x. p (f x)) xs)
filter-map f p [] = refl
filter-map f p (x ∷ xs) =
    ap (λ ys. cond (p (f x)) (f x ∷ ys) ys) (filter-map f p xs) ∙ kept_or_not f x (filter (λ x. p (f x)) xs) (p (f x))
