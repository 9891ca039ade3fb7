-- Rising paths, by neighbours.
use Rattle.std.proofs.Common.{◌≡◌, Bool, true, false, ◌&&◌, List, [], ◌∷◌, refl, ap, ◌∙◌}
use Rattle.std.specs.Prelude.{Some, None}
use Rattle.std.specs.FinMap.{is_sorted}
use Rattle.std.specs.FinMap.Entries.{below_all}
use Rattle.changeset_model.specs.Path.{Path, path_lt, path_cmp}
use Rattle.changeset_model.specs.Changeset.{FileChange}
use Rattle.bonsai.specs.Making.{rises_from}
use Rattle.changeset_model.proofs.Accepting.{below_later}

regroup : (less below after sorted : Bool) → (less ≡ true → after ≡ true → below ≡ true) → (less && (after && sorted)) ≡ ((less && below) && (after && sorted))
regroup false below after sorted h = refl
regroup true true after sorted h = refl
regroup true false false sorted h = refl
regroup true false true sorted h = absurd (let no : false ≡ true = h refl refl in cc)

rises_after : (x : Path) (es : List (Path × FileChange)) → rises_from (Some x) es ≡ (below_all path_cmp x es && is_sorted path_cmp es)
rises_after x [] = refl
rises_after x (e ∷ es) =
    ap (λ b. path_lt x e.0 && b) (rises_after e.0 es)
    ∙ regroup (path_lt x e.0) (below_all path_cmp x es) (below_all path_cmp e.0 es) (is_sorted path_cmp es) (below_later x e.0 es)

pub rises_sorted : (es : List (Path × FileChange)) → rises_from None es ≡ is_sorted path_cmp es
rises_sorted [] = refl
rises_sorted (e ∷ es) = rises_after e.0 es
