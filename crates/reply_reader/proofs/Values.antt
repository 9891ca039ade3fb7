-- Headers of one name, one after another.
use Rattle.std.proofs.Common.{◌≡◌, ℕ, ◌+◌, ◌<◌, ◌≤◌, true, List, [], ◌∷◌, ◌++◌, length, get_or, take, drop, map, sym, ap, ◌∙◌, arith}
use Rattle.std.specs.Prelude.{filter}
use Rattle.std.proofs.lemmas.List.{take-append-drop, map-append}
use Rattle.std.proofs.lemmas.List.Elements.{filter-append}
use Rattle.http_model.specs.Head.{Header, is_named, values_of}
use Rattle.http_wire.proofs.HeaderLemmas.{values_more}

values-append : (name : List ℕ) (hs gs : List Header) → values_of name (hs ++ gs) ≡ values_of name hs ++ values_of name gs
values-append name hs gs = ap (map (λ h. h.1)) (filter-append (is_named name) hs gs) ∙ map-append (λ h. h.1) (filter (is_named name) hs) (filter (is_named name) gs)

-- a second header of a name
pub two_values : {X : Type 0} (name : List ℕ) (f : X → Header) (xs : List X) (i : ℕ) (d : X) (text : List ℕ) → i < length xs → is_named name (f (get_or xs i d)) ≡ true
    → values_of name (map f (take i xs)) ≡ text ∷ [] → 2 ≤ length (values_of name (map f xs))
two_values name f xs i d text inside named before =
    let all : values_of name (map f xs) ≡ values_of name (map f (take (i + 1) xs)) ++ values_of name (map f (drop (i + 1) xs)) =
    ap (λ ys. values_of name (map f ys)) (sym (take-append-drop (i + 1) xs)) ∙ ap (values_of name) (map-append f (take (i + 1) xs) (drop (i + 1) xs))
    ∙ values-append name (map f (take (i + 1) xs)) (map f (drop (i + 1) xs)) in
    let two = values_more name f xs i d inside named ∙ ap (λ vs. vs ++ (f (get_or xs i d)).1 ∷ []) before in
    let long = ap length (all ∙ ap (λ vs. vs ++ values_of name (map f (drop (i + 1) xs))) two) in
    omega arith
