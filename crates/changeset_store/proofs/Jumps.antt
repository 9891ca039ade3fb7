-- The changeset that stands so much above another one, by ids and by numbers.
use Rattle.std.proofs.Common.{◌≡◌, ℕ, ◌<◌, ◌≤◌, true, List, length, Option, Some, None, arith, sym, ap, ◌∙◌}
use Rattle.std.specs.Prelude.{IfSome, IfNone, MatchOption}
use Rattle.std.proofs.lemmas.List.{length-map}
use Rattle.history_model.specs.History.{Known}
use Rattle.ancestry.specs.Forest as forest
use Rattle.ancestry.proofs.Levelled.{length-chain}
use Rattle.changeset_store.specs.Store.{known_at}
use Rattle.changeset_store.specs.Fork.{chain_at, following_at, IsAncestor}
use Rattle.changeset_store.proofs.Ancestors.{AreKnown, number_of_member, chain_is}
use Rattle.changeset_store.proofs.Forks.{ancestor_by, is_member, length_by_numbers}

module _ (ks : List Known) (ps : List (Option ℕ)) (k : AreKnown ks ps) (n d : ℕ) (less : n < length ks) where
  chain_length : length (chain_at ks n) ≡ length (forest.line ps n)
  chain_length = sym (ap length (chain_is ks ps k (known_at ks n).id n (number_of_member ks ps k n less))) ∙ length-map (forest.chain ps n) (known_at ks) ∙ length-chain ps n

  pub too_short : (P : ℕ → Type 0) (o : Option ℕ) → MatchOption o (length (forest.line ps n) ≤ d) P → IfNone o (length (chain_at ks n) ≤ d)
  too_short P None h = let same = chain_length in omega arith
  too_short P (Some a) h = tt

  pub is_above : (o : Option ℕ) → IfSome o (λ a. forest.is_member a (forest.chain ps n) ≡ true) → IfSome o (λ a. IsAncestor ks a n)
  is_above None there = tt
  is_above (Some a) there = ancestor_by ks ps k a n less there

  pub is_far : (o : Option ℕ) → IfSome o (λ a. forest.is_member a (forest.chain ps n) ≡ true) → IfSome o (λ a. length (forest.following a (forest.chain ps n)) ≡ d) → IfSome o (λ a. length (following_at ks a n) ≡ d)
  is_far None there far = tt
  is_far (Some a) there far = length_by_numbers ks ps k a n (ancestor_by ks ps k a n less there) ∙ far

  pub is_further : (o : Option ℕ) → IfSome o (λ a. (y : ℕ) → forest.is_member n (forest.chain ps y) ≡ true → forest.is_member a (forest.chain ps y) ≡ true) → IfSome o (λ a. (y : ℕ) → IsAncestor ks n y → IsAncestor ks a y)
  is_further None further = tt
  is_further (Some a) further = λ y up. ancestor_by ks ps k a y up.known (further y (is_member ks ps k n y up))
