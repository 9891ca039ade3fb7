-- Going along lists, and paths under a directory.
use Rattle.std.proofs.Common.{◌≡◌, ◌⊎◌, inl, inr, ℕ, ◌<◌, ◌≤◌, ◌+◌, Bool, true, ◌&&◌, List, [], ◌∷◌, ◌++◌, length, drop, get_or, sym, ap, ◌∙◌, arith}
use Rattle.std.specs.Prelude.{nat_lt, nat_le}
use Rattle.std.specs.List.{list_all, list_any}
use mathlib.Core.Bool.{true≢false}
use Rattle.std.proofs.lemmas.Bool.{and_parts}
use Rattle.std.proofs.lemmas.List.{append-nil, drop_all}
use Rattle.changeset_model.specs.Path.{Path, text_of, is_element, is_path, is_prefix, is_strict_prefix}
use Rattle.manifest_model.proofs.Derivations.{or_case as or_either}
use Rattle.manifest_laws.proofs.Flat.{strict_parts}
use Rattle.tree_fold.proofs.Texts.{front_rest}
use Rattle.manifest_store.proofs.Taken.{from_here}

-- what was shown of an item leaves only those behind it
pub one_on : {X : Type 0} {P Q : Type 0} (t : X → Bool) (xs : List X) (i : ℕ) (x : X) → i < length xs → x ≡ get_or xs i x → (P → Q) → (t x ≡ true → Q) → P ⊎ (list_any t (drop i xs) ≡ true) → Q ⊎ (list_any t (drop (i + 1) xs) ≡ true)
one_on t xs i x less is more here (inl p) = inl (more p)
one_on t xs i x less is more here (inr h) = or_either (t x) (list_any t (drop (i + 1) xs)) (λ g. inl (here g)) (λ g. inr g) (sym (ap (list_any t) (from_here xs i x less is)) ∙ h)

pub none_behind : {X : Type 0} {P : Type 0} (t : X → Bool) (xs : List X) (i : ℕ) → length xs ≤ i → P ⊎ (list_any t (drop i xs) ≡ true) → P
none_behind t xs i most (inl p) = p
none_behind t xs i most (inr h) = absurd (true≢false (sym h ∙ ap (list_any t) (drop_all i xs most)))

-- what lies under a directory has a first name there
pub first_name : (d p : Path) → is_strict_prefix d p ≡ true → (n : List ℕ) × (r : Path) × (p ≡ d ++ n ∷ r)
first_name d p under = by (drop (length d) p) (front_rest d p parts.0)
  where
    parts : (is_prefix d p ≡ true) × (length d < length p)
    parts = strict_parts d p under

    by : (r : Path) → p ≡ d ++ r → (n : List ℕ) × (r : Path) × (p ≡ d ++ n ∷ r)
    by [] e = absurd (let long = ap length (e ∙ append-nil d) in let less = parts.1 in omega arith)
    by (n ∷ r) e = (n, r, e)

pub under_root : (d : Path) → is_path d ≡ true → is_strict_prefix [] d ≡ true
under_root d h = (and_parts (nat_lt 0 (length d)) (list_all is_element d) (and_parts (nat_lt 0 (length d) && list_all is_element d) (nat_le (length (text_of d)) 4096) h).0).0
