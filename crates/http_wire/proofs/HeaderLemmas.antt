-- Headers one after another.
use Rattle.std.proofs.Common.{◌≡◌, ℕ, zero, suc, ◌+◌, ◌<◌, Bool, true, false, refl, List, [], ◌∷◌, ◌++◌, length, get_or, take, drop, map, sym, ap, ◌∙◌, arith}
use Rattle.std.specs.Prelude.{filter, ◌||◌}
use Rattle.std.specs.List.{list_any}
use Rattle.std.proofs.lemmas.Bool.{cond-true, cond-false}
use Rattle.std.proofs.lemmas.List.{take_more, take-append-drop, map-append}
use Rattle.std.proofs.lemmas.List.Elements.{filter-append}
use Rattle.http_model.specs.Head.{Header, is_named, values_of, are_one_length, Several, caller_in}
use Rattle.http_wire.proofs.HeadLemmas.{append_none}

or_true : (b : Bool) → (b || true) ≡ true
or_true true = refl
or_true false = refl

-- an element that passes
pub any_at : {X Y : Type 0} (p : Y → Bool) (f : X → Y) (xs : List X) (i : ℕ) (d : X) → i < length xs → p (f (get_or xs i d)) ≡ true → list_any p (map f xs) ≡ true
any_at p f [] i d inside passes = absurd (omega arith)
any_at p f (x ∷ xs) zero d inside passes = ap (λ b. b || list_any p (map f xs)) passes
any_at p f (x ∷ xs) (suc i) d inside passes = ap (λ b. p (f x) || b) (any_at p f xs i d (omega arith) passes) ∙ or_true (p (f x))

values-append : (name : List ℕ) (hs gs : List Header) → values_of name (hs ++ gs) ≡ values_of name hs ++ values_of name gs
values-append name hs gs = ap (map (λ h. h.1)) (filter-append (is_named name) hs gs) ∙ map-append (λ h. h.1) (filter (is_named name) hs) (filter (is_named name) gs)

one_named : (name : List ℕ) (h : Header) → is_named name h ≡ true → values_of name (h ∷ []) ≡ h.1 ∷ []
one_named name h named = ap (map (λ g. g.1)) (cond-true _ (h ∷ []) [] named)

one_other : (name : List ℕ) (h : Header) → is_named name h ≡ false → values_of name (h ∷ []) ≡ []
one_other name h other = ap (map (λ g. g.1)) (cond-false _ (h ∷ []) [] other)

next_one : {X : Type 0} (f : X → Header) (xs : List X) (i : ℕ) (d : X) → i < length xs → map f (take (i + 1) xs) ≡ map f (take i xs) ++ f (get_or xs i d) ∷ []
next_one f xs i d inside = ap (map f) (take_more xs i d inside) ∙ map-append f (take i xs) (get_or xs i d ∷ [])

pub values_more : {X : Type 0} (name : List ℕ) (f : X → Header) (xs : List X) (i : ℕ) (d : X) → i < length xs → is_named name (f (get_or xs i d)) ≡ true
    → values_of name (map f (take (i + 1) xs)) ≡ values_of name (map f (take i xs)) ++ (f (get_or xs i d)).1 ∷ []
values_more name f xs i d inside named =
    ap (values_of name) (next_one f xs i d inside) ∙ values-append name (map f (take i xs)) (f (get_or xs i d) ∷ [])
    ∙ ap (λ vs. values_of name (map f (take i xs)) ++ vs) (one_named name (f (get_or xs i d)) named)

pub values_first : {X : Type 0} (name : List ℕ) (f : X → Header) (xs : List X) (i : ℕ) (d : X) → i < length xs → is_named name (f (get_or xs i d)) ≡ true
    → values_of name (map f (take i xs)) ≡ [] → values_of name (map f (take (i + 1) xs)) ≡ (f (get_or xs i d)).1 ∷ []
values_first name f xs i d inside named before = values_more name f xs i d inside named ∙ ap (λ vs. vs ++ (f (get_or xs i d)).1 ∷ []) before

pub values_same : {X : Type 0} (name : List ℕ) (f : X → Header) (xs : List X) (i : ℕ) (d : X) → i < length xs → is_named name (f (get_or xs i d)) ≡ false
    → values_of name (map f (take (i + 1) xs)) ≡ values_of name (map f (take i xs))
values_same name f xs i d inside other =
    ap (values_of name) (next_one f xs i d inside) ∙ values-append name (map f (take i xs)) (f (get_or xs i d) ∷ [])
    ∙ ap (λ vs. values_of name (map f (take i xs)) ++ vs) (one_other name (f (get_or xs i d)) other) ∙ append_none _

-- a value that passes, of a header of this name
pub any_value_at : {X : Type 0} (p : List ℕ → Bool) (name : List ℕ) (f : X → Header) (xs : List X) (i : ℕ) (d : X) → i < length xs → is_named name (f (get_or xs i d)) ≡ true
    → p (f (get_or xs i d)).1 ≡ true → list_any p (values_of name (map f xs)) ≡ true
any_value_at p name f [] i d inside named passes = absurd (omega arith)
any_value_at p name f (x ∷ xs) zero d inside named passes =
    ap (list_any p) (values-append name (f x ∷ []) (map f xs)) ∙ ap (λ vs. list_any p (vs ++ values_of name (map f xs))) (one_named name (f x) named)
    ∙ ap (λ b. b || list_any p (values_of name (map f xs))) passes
any_value_at p name f (x ∷ xs) (suc i) d inside named passes = by_test (is_named name (f x)) refl (any_value_at p name f xs i d (omega arith) named passes)
  where
    by_test : (t : Bool) → is_named name (f x) ≡ t → list_any p (values_of name (map f xs)) ≡ true → list_any p (values_of name (f x ∷ map f xs)) ≡ true
    by_test true is later =
        ap (list_any p) (values-append name (f x ∷ []) (map f xs)) ∙ ap (λ vs. list_any p (vs ++ values_of name (map f xs))) (one_named name (f x) is)
        ∙ ap (λ b. p (f x).1 || b) later ∙ or_true (p (f x).1)
    by_test false other later =
        ap (list_any p) (values-append name (f x ∷ []) (map f xs)) ∙ ap (λ vs. list_any p (vs ++ values_of name (map f xs))) (one_other name (f x) other) ∙ later

-- a second header of a name
two_values : {X : Type 0} (name : List ℕ) (f : X → Header) (xs : List X) (i : ℕ) (d : X) (text : List ℕ) → i < length xs → is_named name (f (get_or xs i d)) ≡ true
    → values_of name (map f (take i xs)) ≡ text ∷ [] → values_of name (map f xs) ≡ text ∷ (f (get_or xs i d)).1 ∷ values_of name (map f (drop (i + 1) xs))
two_values name f xs i d text inside named before =
    let all : values_of name (map f xs) ≡ values_of name (map f (take (i + 1) xs)) ++ values_of name (map f (drop (i + 1) xs)) =
    ap (λ ys. values_of name (map f ys)) (sym (take-append-drop (i + 1) xs)) ∙ ap (values_of name) (map-append f (take (i + 1) xs) (drop (i + 1) xs))
    ∙ values-append name (map f (take (i + 1) xs)) (map f (drop (i + 1) xs)) in
    let two = values_more name f xs i d inside named ∙ ap (λ vs. vs ++ (f (get_or xs i d)).1 ∷ []) before in
    all ∙ ap (λ vs. vs ++ values_of name (map f (drop (i + 1) xs))) two

pub second_value : {X : Type 0} (name : List ℕ) (f : X → Header) (xs : List X) (i : ℕ) (d : X) (text : List ℕ) → i < length xs → is_named name (f (get_or xs i d)) ≡ true
    → values_of name (map f (take i xs)) ≡ text ∷ [] → are_one_length (values_of name (map f xs)) ≡ false
second_value name f xs i d text inside named before = ap are_one_length (two_values name f xs i d text inside named before)

pub several_values : {X : Type 0} (name : List ℕ) (f : X → Header) (xs : List X) (i : ℕ) (d : X) (text : List ℕ) → i < length xs → is_named name (f (get_or xs i d)) ≡ true
    → values_of name (map f (take i xs)) ≡ text ∷ [] → Several ≡ caller_in (values_of name (map f xs))
several_values name f xs i d text inside named before = sym (ap caller_in (two_values name f xs i d text inside named before))
