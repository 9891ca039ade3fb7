-- A set at or above a path decides all that is at or under it.
use Rattle.std.proofs.Common.{◌≡◌, Bool, true, false, ◌&&◌, ◌||◌, List, [], ◌∷◌, ◌++◌, length, refl, sym, ap, ◌∙◌, arith}
use Rattle.std.specs.Prelude.{bytes_eq, nat_lt}
use mathlib.Core.Bool.{true≢false}
use Rattle.std.specs.List.{list_any}
use Rattle.std.proofs.lemmas.Bool.{and_parts, lt-ltb, or_right}
use Rattle.changeset_model.specs.Path.{Path, path_eq, is_prefix, is_strict_prefix, comparable}
use Rattle.changeset_model.specs.Changeset.{FileChange, Set, Delete, Changeset}
use Rattle.history_model.specs.Tree.{decides, decides_at}
use Rattle.manifest_laws.specs.Changes.{covers, is_covered}
use Rattle.manifest_laws.proofs.Lists.{one_longer}

front_on : (p d r : Path) → is_prefix p d ≡ true → is_prefix p (d ++ r) ≡ true
front_on [] d r h = refl
front_on (e ∷ p) [] r h = absurd (true≢false (sym h))
front_on (e ∷ p) (f ∷ d) r h = let parts = and_parts (bytes_eq e f) (is_prefix p d) h in λ i. parts.0 i && front_on p d r parts.1 i

any_covers : (es : List (Path × FileChange)) (d r : Path) → list_any (λ e. covers e d) es ≡ true → list_any (λ e. decides_at e.1 e.0 (d ++ r)) es ≡ true
any_covers [] d r h = absurd (true≢false (sym h))
any_covers ((p, Set f copied) ∷ es) d r h = by (any_covers es d r) (is_prefix p d) refl h
  where
    by : (list_any (λ e. covers e d) es ≡ true → list_any (λ e. decides_at e.1 e.0 (d ++ r)) es ≡ true) → (b : Bool) → is_prefix p d ≡ b → (b || list_any (λ e. covers e d) es) ≡ true → (comparable p (d ++ r) || list_any (λ e. decides_at e.1 e.0 (d ++ r)) es) ≡ true
    by later true e h = λ i. (front_on p d r e i || is_prefix (d ++ r) p) || list_any (λ e. decides_at e.1 e.0 (d ++ r)) es
    by later false e h = or_right (comparable p (d ++ r)) (list_any (λ e. decides_at e.1 e.0 (d ++ r)) es) (later h)
any_covers ((p, Delete) ∷ es) d r h = or_right (path_eq p (d ++ r)) (list_any (λ e. decides_at e.1 e.0 (d ++ r)) es) (any_covers es d r h)

pub covered_decides : (c : Changeset) (d r : Path) → is_covered c d ≡ true → decides c (d ++ r) ≡ true
covered_decides c d r h = any_covers c.changes d r h

pub prefix_either : (p q : Path) → is_prefix p q ≡ (path_eq p q || is_strict_prefix p q)
prefix_either [] [] = refl
prefix_either [] (e ∷ q) = sym (lt-ltb 0 (length (e ∷ q)) (omega arith))
prefix_either (e ∷ p) [] = refl
prefix_either (e ∷ p) (f ∷ q) = by (bytes_eq e f) (prefix_either p q)
  where
    by : (b : Bool) → is_prefix p q ≡ (path_eq p q || is_strict_prefix p q) → (b && is_prefix p q) ≡ ((b && path_eq p q) || ((b && is_prefix p q) && nat_lt (length (e ∷ p)) (length (f ∷ q))))
    by false ih = refl
    by true ih = ih ∙ ap (λ l. path_eq p q || (is_prefix p q && l)) (sym (one_longer (length p) (length q)))

pub either_by : (p q : Path) (b s r : Bool) → path_eq p q ≡ b → is_strict_prefix p q ≡ s → r ≡ (b || s) → r ≡ is_prefix p q
either_by p q b s r e g h = h ∙ (λ i. sym e i || sym g i) ∙ sym (prefix_either p q)
