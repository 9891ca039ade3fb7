-- Elements of lists.
use Rattle.std.proofs.Common.{◌≡◌, ◌⊎◌, inl, inr, ℕ, zero, suc, ◌<◌, Bool, true, false, List, [], ◌∷◌, ◌++◌, map, length, refl, sym, ap, subst, ◌∙◌, arith}
use Rattle.std.specs.Prelude.{Contains, slice_index_or}
use mathlib.Core.Bool.{true≢false}
use Rattle.std.specs.List.{AllByRecursion, list_any}
use Rattle.std.specs.Ordering.{eq_by_cmp}
use Rattle.std.proofs.lemmas.Bool.{or_left, or_right}
use Rattle.changeset_model.specs.Path.{Path, path_cmp}
use Rattle.manifest_model.proofs.Derivations.{tied_same, or_case as or_either}
use Rattle.manifest_laws.proofs.Flat.{tied_self}

abbrev pub Has : {X : Type 0} → List X → X → Type 0
Has [] x = ⊥
Has (y ∷ ys) x = (y ≡ x) ⊎ Has ys x

pub has_contains : {X : Type 0} (xs : List X) (x : X) → Has xs x → Contains xs x
has_contains [] x h = absurd h
has_contains (y ∷ ys) x (inl e) = (0, omega arith, e)
has_contains (y ∷ ys) x (inr h) = let rest = has_contains ys x h in (suc rest.0, (let less = rest.1 in omega (arith, less)), rest.2)

at_has : {X : Type 0} (xs : List X) (x : X) (k : ℕ) → k < length xs → slice_index_or xs k x ≡ x → Has xs x
at_has [] x k less e = absurd (omega arith)
at_has (y ∷ ys) x zero less e = inl e
at_has (y ∷ ys) x (suc k) less e = inr (at_has ys x k (omega arith) e)

pub contains_has : {X : Type 0} (xs : List X) (x : X) → Contains xs x → Has xs x
contains_has xs x h = at_has xs x h.0 h.1 h.2

pub has_left : {X : Type 0} (xs ys : List X) (x : X) → Has xs x → Has (xs ++ ys) x
has_left [] ys x h = absurd h
has_left (y ∷ xs) ys x (inl e) = inl e
has_left (y ∷ xs) ys x (inr h) = inr (has_left xs ys x h)

pub has_right : {X : Type 0} (xs ys : List X) (x : X) → Has ys x → Has (xs ++ ys) x
has_right [] ys x h = h
has_right (y ∷ xs) ys x h = inr (has_right xs ys x h)

pub has_map : {X Y : Type 0} (f : X → Y) (xs : List X) (x : X) → Has xs x → Has (map f xs) (f x)
has_map f [] x h = absurd h
has_map f (y ∷ xs) x (inl e) = inl (ap f e)
has_map f (y ∷ xs) x (inr h) = inr (has_map f xs x h)

pub all_has : {X : Type 0} (P : X → Type 0) (xs : List X) (x : X) → AllByRecursion P xs → Has xs x → P x
all_has P [] x all h = absurd h
all_has P (y ∷ xs) x all (inl e) = subst P e all.0
all_has P (y ∷ xs) x all (inr h) = all_has P xs x all.1 h

-- ---- paths

pub any_has : (ps : List Path) (p : Path) → list_any (eq_by_cmp path_cmp p) ps ≡ true → Has ps p
any_has [] p h = absurd (true≢false (sym h))
any_has (q ∷ ps) p h = or_either (eq_by_cmp path_cmp p q) (list_any (eq_by_cmp path_cmp p) ps) (λ same. inl (sym (tied_same p q same))) (λ rest. inr (any_has ps p rest)) h

pub has_any : (ps : List Path) (p : Path) → Has ps p → list_any (eq_by_cmp path_cmp p) ps ≡ true
has_any [] p h = absurd h
has_any (q ∷ ps) p (inl e) = or_left (eq_by_cmp path_cmp p q) (list_any (eq_by_cmp path_cmp p) ps) (ap (eq_by_cmp path_cmp p) e ∙ tied_self p)
has_any (q ∷ ps) p (inr h) = or_right (eq_by_cmp path_cmp p q) (list_any (eq_by_cmp path_cmp p) ps) (has_any ps p h)

pub by_test : {P : Type 0} (b : Bool) → (b ≡ true → P) → (b ≡ false → P) → P
by_test true f g = f refl
by_test false f g = g refl
