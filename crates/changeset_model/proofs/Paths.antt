-- The order of paths is total, and only equal paths tie.
use Rattle.std.proofs.Common.{◌≡◌, ◌≢◌, ◌⊎◌, Bool, true, false, ◌||◌, refl, inl, inr}
use Rattle.std.specs.declared.cmp.Ordering.{Ordering}
use Rattle.std.specs.declared.cmp.Ordering.TheVariants.{Less, Equal, Greater}
use Rattle.std.specs.Ordering.{is_lt, ordering_reverse}
use Rattle.std.specs.Cmp.{IsTotalOrder, nat_cmp_total}
use Rattle.std.specs.Cmp.Lexicographic.{lists_total}
use Rattle.std.specs.FinMap.{IsAntisymmetric, nat_cmp-IsAntisymmetric, slice_cmp-IsAntisymmetric}
use Rattle.changeset_model.specs.Path.{Path, path_cmp, path_lt, is_prefix, comparable}

pub path_cmp_total : IsTotalOrder path_cmp
path_cmp_total = lists_total (lists_total nat_cmp_total)

pub path_cmp-IsAntisymmetric : IsAntisymmetric path_cmp
path_cmp-IsAntisymmetric = slice_cmp-IsAntisymmetric (slice_cmp-IsAntisymmetric nat_cmp-IsAntisymmetric)

pub ||-comm : (a b : Bool) → (a || b) ≡ (b || a)
||-comm true true = refl
||-comm true false = refl
||-comm false true = refl
||-comm false false = refl

pub comparable-comm : (p q : Path) → comparable p q ≡ comparable q p
comparable-comm p q = ||-comm (is_prefix p q) (is_prefix q p)

by_order : (o r : Ordering) → o ≡ ordering_reverse r → (o ≢ Equal) → (is_lt o ≡ true) ⊎ (is_lt r ≡ true)
by_order Less r e n = inl refl
by_order Equal r e n = absurd (n refl)
by_order Greater Less e n = inr refl
by_order Greater Equal e n = absurd (cc)
by_order Greater Greater e n = absurd (cc)

pub path_lt_or : (p q : Path) → (p ≢ q) → (path_lt p q ≡ true) ⊎ (path_lt q p ≡ true)
path_lt_or p q n = by_order (path_cmp p q) (path_cmp q p) (path_cmp_total.antisymm p q) (λ e. n (path_cmp-IsAntisymmetric p q e))
