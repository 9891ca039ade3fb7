-- Elements of lists, by recursion.
use Rattle.std.proofs.Common.{◌≡◌, ◌⊎◌, inl, inr, ℕ, zero, suc, ◌<◌, Bool, true, false, cond, List, [], ◌∷◌, ◌++◌, map, length, refl, sym, ap, subst, ◌∙◌, arith}
use Rattle.std.specs.Prelude.{Contains, flat_map, slice_index_or, Some}
use mathlib.Core.Bool.{true≢false}
use Rattle.std.specs.List.{AllByRecursion, list_any}
use Rattle.std.specs.Ordering.{eq_by_cmp}
use Rattle.std.specs.FinMap.{find as find_key}
use Rattle.std.proofs.lemmas.Bool.{or_left, or_right}
use Rattle.changeset_model.specs.Path.{Path, path_cmp}
use Rattle.manifest_model.proofs.Derivations.{tied_same}
use Rattle.manifest_model.proofs.Derivations.{or_case as or_either}
use Rattle.byte_fields.proofs.Booleans.{same_some}
use Rattle.manifest_laws.proofs.Flat.{tied_self}
use Rattle.byte_fields.proofs.Lists.{all_both as all_append}

abbrev pub Has : {X : Type 0} → List X → X → Type 0
Has [] x = ⊥
Has (y ∷ ys) x = (y ≡ x) ⊎ Has ys x

pub has_contains : {X : Type 0} (xs : List X) (x : X) → Has xs x → Contains xs x
has_contains [] x h = absurd h
has_contains (y ∷ ys) x (inl e) = (0, omega arith, e)
has_contains (y ∷ ys) x (inr h) = let rest = has_contains ys x h in (suc rest.0, (let less = rest.1 in omega (arith, less)), rest.2)

at_has : {X : Type 0} (xs : List X) (x : X) (k : ℕ) → k < length xs → slice_index_or xs k x ≡ x → Has xs x
at_has [] x k less e = absurd (omega arith)
at_has (y ∷ ys) x zero less e = inl e
at_has (y ∷ ys) x (suc k) less e = inr (at_has ys x k (omega arith) e)

pub contains_has : {X : Type 0} (xs : List X) (x : X) → Contains xs x → Has xs x
contains_has xs x h = at_has xs x h.0 h.1 h.2

pub has_left : {X : Type 0} (xs ys : List X) (x : X) → Has xs x → Has (xs ++ ys) x
has_left [] ys x h = absurd h
has_left (y ∷ xs) ys x (inl e) = inl e
has_left (y ∷ xs) ys x (inr h) = inr (has_left xs ys x h)

pub has_right : {X : Type 0} (xs ys : List X) (x : X) → Has ys x → Has (xs ++ ys) x
has_right [] ys x h = h
has_right (y ∷ xs) ys x h = inr (has_right xs ys x h)

pub has_either : {X : Type 0} (xs ys : List X) (x : X) → Has (xs ++ ys) x → Has xs x ⊎ Has ys x
has_either [] ys x h = inr h
has_either (y ∷ xs) ys x (inl e) = inl (inl e)
has_either (y ∷ xs) ys x (inr h) = by (has_either xs ys x h)
  where
    by : Has xs x ⊎ Has ys x → Has (y ∷ xs) x ⊎ Has ys x
    by (inl g) = inl (inr g)
    by (inr g) = inr g

pub has_map : {X Y : Type 0} (f : X → Y) (xs : List X) (x : X) → Has xs x → Has (map f xs) (f x)
has_map f [] x h = absurd h
has_map f (y ∷ xs) x (inl e) = inl (ap f e)
has_map f (y ∷ xs) x (inr h) = inr (has_map f xs x h)

pub map_has : {X Y : Type 0} (f : X → Y) (xs : List X) (y : Y) → Has (map f xs) y → (x : X) × Has xs x × (f x ≡ y)
map_has f [] y h = absurd h
map_has f (x ∷ xs) y (inl e) = (x, inl refl, e)
map_has f (x ∷ xs) y (inr h) = let rest = map_has f xs y h in (rest.0, inr rest.1, rest.2)

pub has_flat : {X Y : Type 0} (f : X → List Y) (xs : List X) (x : X) (y : Y) → Has xs x → Has (f x) y → Has (flat_map f xs) y
has_flat f [] x y h g = absurd h
has_flat f (z ∷ xs) x y (inl e) g = has_left (f z) (flat_map f xs) y (same e)
  where
    same : z ≡ x → Has (f z) y
    same e = let P : _ → Type 0 = λ w. Has (f w) y in subst P (sym e) g
has_flat f (z ∷ xs) x y (inr h) g = has_right (f z) (flat_map f xs) y (has_flat f xs x y h g)

-- ---- each element

pub all_flat : {X Y : Type 0} (P : Y → Type 0) (f : X → List Y) → ((x : X) → AllByRecursion P (f x)) → (xs : List X) → AllByRecursion P (flat_map f xs)
all_flat P f each [] = tt
all_flat P f each (x ∷ xs) = all_append P (f x) (flat_map f xs) (each x) (all_flat P f each xs)

pub all_map : {X Y : Type 0} (P : Y → Type 0) (f : X → Y) (xs : List X) → AllByRecursion (λ x. P (f x)) xs → AllByRecursion P (map f xs)
all_map P f [] h = tt
all_map P f (x ∷ xs) h = (h.0, all_map P f xs h.1)

pub all_has : {X : Type 0} (P : X → Type 0) (xs : List X) (x : X) → AllByRecursion P xs → Has xs x → P x
all_has P [] x all h = absurd h
all_has P (y ∷ xs) x all (inl e) = subst P e all.0
all_has P (y ∷ xs) x all (inr h) = all_has P xs x all.1 h

-- ---- paths

pub any_has : (ps : List Path) (p : Path) → list_any (eq_by_cmp path_cmp p) ps ≡ true → Has ps p
any_has [] p h = absurd (true≢false (sym h))
any_has (q ∷ ps) p h = or_either (eq_by_cmp path_cmp p q) (list_any (eq_by_cmp path_cmp p) ps) (λ same. inl (sym (tied_same p q same))) (λ rest. inr (any_has ps p rest)) h

pub has_any : (ps : List Path) (p : Path) → Has ps p → list_any (eq_by_cmp path_cmp p) ps ≡ true
has_any [] p h = absurd h
has_any (q ∷ ps) p (inl e) = or_left (eq_by_cmp path_cmp p q) (list_any (eq_by_cmp path_cmp p) ps) (ap (eq_by_cmp path_cmp p) e ∙ tied_self p)
has_any (q ∷ ps) p (inr h) = or_right (eq_by_cmp path_cmp p q) (list_any (eq_by_cmp path_cmp p) ps) (has_any ps p h)

pub any_all : (P : Path → Type 0) (ps : List Path) → ((p : Path) → list_any (eq_by_cmp path_cmp p) ps ≡ true → P p) → AllByRecursion P ps
any_all P [] h = tt
any_all P (q ∷ ps) h = (h q (or_left (eq_by_cmp path_cmp q q) (list_any (eq_by_cmp path_cmp q) ps) (tied_self q)), any_all P ps (λ p g. h p (or_right (eq_by_cmp path_cmp p q) (list_any (eq_by_cmp path_cmp p) ps) g)))

pub found_has : {V : Type 0} (p : Path) (v : V) (es : List (Path × V)) → find_key path_cmp p es ≡ Some v → Has es (p, v)
found_has p v [] h = absurd (cc)
found_has {V} p v ((q, w) ∷ es) h = by (eq_by_cmp path_cmp p q) refl (found_has p v es) h
  where
    by : (b : Bool) → eq_by_cmp path_cmp p q ≡ b → (find_key path_cmp p es ≡ Some v → Has es (p, v)) → cond b (Some w) (find_key path_cmp p es) ≡ Some v → Has ((q, w) ∷ es) (p, v)
    by true same ih e = inl (λ i. (sym (tied_same p q same) i, same_some w v e i))
    by false apart ih e = inr (ih e)
