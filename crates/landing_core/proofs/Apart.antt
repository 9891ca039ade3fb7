-- Nodes of which no two different ones have one digest.
use Rattle.std.proofs.Common.{◌≡◌, ℕ, Bool, true, false, not, ◌||◌, List, [], ◌∷◌, refl, sym, ap, ◌∙◌}
use Rattle.std.specs.Prelude.{Contains, bytes_eq}
use Rattle.std.specs.List.{AllByRecursion, list_all}
use mathlib.Core.Bool.{true≢false}
use Rattle.std.proofs.lemmas.Bool.{and_parts, and_from, or_left, or_right}
use Rattle.std.proofs.lemmas.Slice.Eq.{bytes_eq-Decides}
use Rattle.sha2.specs.Sha256.{sha256}
use Rattle.byte_fields.proofs.Lists.{contains_head, contains_tail, each_of}
use Rattle.core_model.specs.Core.{are_apart}

all_pass : {X : Type 0} (t : X → Bool) (xs : List X) → ((x : X) → Contains xs x → t x ≡ true) → list_all t xs ≡ true
all_pass t [] h = refl
all_pass t (x ∷ xs) h = and_from (t x) (list_all t xs) (h x (contains_head x xs)) (all_pass t xs (λ y c. h y (contains_tail x y xs c)))

passed : {X : Type 0} (t : X → Bool) (xs : List X) → list_all t xs ≡ true → AllByRecursion (λ x. t x ≡ true) xs
passed t [] h = tt
passed t (x ∷ xs) h = let both = and_parts (t x) (list_all t xs) h in (both.0, passed t xs both.1)

each_passes : {X : Type 0} (t : X → Bool) (xs : List X) (x : X) → list_all t xs ≡ true → Contains xs x → t x ≡ true
each_passes t xs x h c = each_of (λ x. t x ≡ true) xs x (passed t xs h) c

abbrev is_one : List ℕ → List ℕ → Bool
is_one a b = bytes_eq a b || not (bytes_eq (sha256 a) (sha256 b))

one_by : (a b : List ℕ) → (sha256 a ≡ sha256 b → a ≡ b) → (same : Bool) → bytes_eq (sha256 a) (sha256 b) ≡ same → (bytes_eq a b || not same) ≡ true
one_by a b h true e = or_left (bytes_eq a b) false ((bytes_eq-Decides a b).1 (h ((bytes_eq-Decides (sha256 a) (sha256 b)).0 e)))
one_by a b h false e = or_right (bytes_eq a b) true refl

pub apart_from : (nodes : List (List ℕ)) → ((a b : List ℕ) → Contains nodes a → Contains nodes b → sha256 a ≡ sha256 b → a ≡ b) → are_apart nodes ≡ true
apart_from nodes h =
    all_pass (λ a. list_all (is_one a) nodes) nodes (λ a first. all_pass (is_one a) nodes (λ b second. one_by a b (h a b first second) (bytes_eq (sha256 a) (sha256 b)) refl))

one_of : (a b : List ℕ) → sha256 a ≡ sha256 b → is_one a b ≡ true → a ≡ b
one_of a b same h = by (bytes_eq a b) refl h
  where
    by : (equal : Bool) → bytes_eq a b ≡ equal → (equal || not (bytes_eq (sha256 a) (sha256 b))) ≡ true → a ≡ b
    by true e h = (bytes_eq-Decides a b).0 e
    by false e h = absurd (true≢false (sym h ∙ ap not ((bytes_eq-Decides (sha256 a) (sha256 b)).1 same)))

pub apart_gives : (nodes : List (List ℕ)) → are_apart nodes ≡ true → (a b : List ℕ) → Contains nodes a → Contains nodes b → sha256 a ≡ sha256 b → a ≡ b
apart_gives nodes h a b first second same =
    one_of a b same (each_passes (is_one a) nodes b (each_passes (λ a. list_all (is_one a) nodes) nodes a h first) second)
