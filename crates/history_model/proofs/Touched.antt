-- A landing without a clash finds the paths that it touches as the root has them.
use Rattle.std.proofs.Common.{◌≡◌, Bool, true, false, cond, ◌||◌, ◌&&◌, List, [], ◌∷◌, ◌++◌, map, refl, ap, ◌∙◌}
use Rattle.std.specs.Prelude.{None, Contains, flat_map, bytes_eq}
use mathlib.Core.Bool.{true≢false}
use Rattle.std.specs.List.{AllByRecursion, list_any}
use Rattle.changeset_model.specs.Path.{Path, path_eq, is_prefix, comparable}
use Rattle.changeset_model.specs.Changeset.{FileChange, Set, Delete, Changeset, touched_paths}
use Rattle.history_model.specs.Tree.{decides_at, decides, tree}
use Rattle.history_model.specs.Pushrebase.{clash}
use Rattle.changeset_model.proofs.Paths.{comparable-comm}
use Rattle.changeset_model.proofs.Rising.{from_rising}
use Rattle.byte_fields.proofs.Lists.{each_of, both_parts}
use Rattle.history_model.proofs.Clashes.{all_apart}
use Rattle.history_model.proofs.Trees.{tree-append}
use Rattle.byte_fields.proofs.Booleans.{neither as either_false}

-- ---- what isn't comparable isn't decided

and_false : (b x y : Bool) → (x ≡ false → y ≡ false) → (b && x) ≡ false → (b && y) ≡ false
and_false true x y f h = f h
and_false false x y f h = refl

path_eq_prefix : (p q : Path) → is_prefix p q ≡ false → path_eq p q ≡ false
path_eq_prefix [] q h = absurd (true≢false h)
path_eq_prefix (e ∷ p) [] h = refl
path_eq_prefix (e ∷ p) (f ∷ q) h = and_false (bytes_eq e f) (is_prefix p q) (path_eq p q) (path_eq_prefix p q) h

undecided : (c : FileChange) (r p : Path) → comparable p r ≡ false → decides_at c r p ≡ false
undecided (Set f copied) r p h = comparable-comm r p ∙ h
undecided Delete r p h = path_eq_prefix r p (either_false (is_prefix p r) (is_prefix r p) h).1

none_of : (p : Path) (es : List (Path × FileChange)) → AllByRecursion (λ r. comparable p r ≡ false) (map (λ e. e.0) es) → list_any (λ e. decides_at e.1 e.0 p) es ≡ false
none_of p [] all = refl
none_of p (e ∷ es) all = (λ i. undecided e.1 e.0 p all.0 i || none_of p es all.1 i)

pub nothing_decides : (p : Path) (cs : List Changeset) → AllByRecursion (λ r. comparable p r ≡ false) (flat_map (λ c. map (λ e. e.0) c.changes) cs) → list_any (λ c. decides c p) cs ≡ false
nothing_decides p [] all = refl
nothing_decides p (c ∷ cs) all =
    let parts = both_parts (λ r. comparable p r ≡ false) (map (λ e. e.0) c.changes) (flat_map (λ c. map (λ e. e.0) c.changes) cs) all in
    (λ i. none_of p c.changes parts.0 i || nothing_decides p cs parts.1 i)

-- where there is no clash, the range leaves the paths that the stack touches as the root has them
pub unchanged_since_root : (root range stack : List Changeset) → clash (touched_paths stack) (touched_paths range) ≡ None → (p : Path) → Contains (touched_paths stack) p → tree (root ++ range) p ≡ tree root p
unchanged_since_root root range stack none p touched =
    let apart = each_of (λ l. AllByRecursion (λ r. comparable l r ≡ false) (touched_paths range)) (touched_paths stack) p (all_apart (touched_paths stack) (touched_paths range) none) touched in
    let undecided_by_range = nothing_decides p range (from_rising (λ r. comparable p r ≡ false) (flat_map (λ c. map (λ e. e.0) c.changes) range) apart) in
    tree-append root range p ∙ ap (λ b. cond b (tree range p) (tree root p)) undecided_by_range
