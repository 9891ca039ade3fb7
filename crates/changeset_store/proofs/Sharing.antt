-- What shared changesets have in common with the changesets.
use Rattle.std.proofs.Common.{◌≡◌, ℕ, zero, suc, ◌<◌, ◌≤◌, take, List, [], ◌∷◌, ◌++◌, length, get_or, refl, ap, ◌∙◌, arith}
use Rattle.std.proofs.lemmas.List.{length-map, map-append}
use Rattle.std.specs.Arc.{arc_value}
use Rattle.std.specs.declared.sync.Arc.{Arc}
use Rattle.changeset_model.specs.Changeset.{Changeset}
use Rattle.changeset_store.specs.Shared.{values}

pub value_at : {Z : Type 0} (shared : List (Arc Changeset Z)) (n : ℕ) (d : Arc Changeset Z) → n < length shared → arc_value (get_or shared n d) ≡ get_or (values shared) n (arc_value d)
value_at [] n d below = refl
value_at (a ∷ rest) zero d below = refl
value_at (a ∷ rest) (suc n) d below = value_at rest n d (omega arith)

pub length-values : {Z : Type 0} (shared : List (Arc Changeset Z)) → length (values shared) ≡ length shared
length-values shared = length-map shared arc_value

pub values-push : {Z : Type 0} (shared after : List (Arc Changeset Z)) (one : Arc Changeset Z) → after ≡ shared ++ one ∷ [] → values after ≡ values shared ++ arc_value one ∷ []
values-push shared after one grows = ap values grows ∙ map-append arc_value shared (one ∷ [])

-- at a place within
pub values_below : {Z : Type 0} (shared : List (Arc Changeset Z)) (n : ℕ) → n < length shared → n < length (values shared)
values_below shared n below = let same = length-values shared in omega arith

pub value_is : {Z : Type 0} (shared : List (Arc Changeset Z)) (n : ℕ) (one : Arc Changeset Z) → n < length shared → one ≡ get_or shared n one → arc_value one ≡ get_or (values shared) n (arc_value one)
value_is shared n one below is = ap arc_value is ∙ value_at shared n one below

pub values_past : {Z : Type 0} (shared : List (Arc Changeset Z)) (n : ℕ) → length shared ≤ n → length (values shared) ≤ n
values_past shared n past = let same = length-values shared in omega arith

pub values-take : {Z : Type 0} (shared : List (Arc Changeset Z)) (n : ℕ) → values (take n shared) ≡ take n (values shared)
values-take [] zero = refl
values-take [] (suc n) = refl
values-take (a ∷ rest) zero = refl
values-take (a ∷ rest) (suc n) = ap (λ (cs : List Changeset). arc_value a ∷ cs) (values-take rest n)
