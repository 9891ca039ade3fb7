-- The laws of the order of paths.
--     path_eq_equiv      equality of paths is an equivalence
--     path_eq_ties      paths tie exactly where they are equal
--     path_partial_order      the order as a partial one
use Rattle.std.specs.Prelude.{◌≡◌, Some, refl}
use Rattle.std.specs.Ordering.{nat_cmp, eq_by_cmp}
use Rattle.std.specs.Cmp.{IsEquivalence, IsPartialOrder, partial_order_from_agreeing_total}
use Rattle.std.specs.Cmp.Lexicographic.{slice_cmp, lists_equiv, lists_ties, texts_ties, nat_list_eq_equiv}
use Rattle.changeset_model.specs.Path.{Path, path_eq, path_cmp}
use Rattle.changeset_model.proofs.Paths.{path_cmp_total}

pub path_eq_equiv : IsEquivalence path_eq
path_eq_equiv = lists_equiv nat_list_eq_equiv

pub path_eq_ties : (p q : Path) → path_eq p q ≡ eq_by_cmp path_cmp p q
path_eq_ties = lists_ties (slice_cmp nat_cmp) texts_ties

pub path_partial_order : IsPartialOrder path_eq (λ p q. Some (path_cmp p q))
path_partial_order = partial_order_from_agreeing_total path_cmp path_cmp_total (λ p q. refl) path_eq_ties
