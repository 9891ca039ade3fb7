-- The files below a directory, by their paths from there.
use Rattle.std.proofs.Common.{◌≡◌, ℕ, zero, suc, ◌≤◌, max, Bool, true, false, cond, ◌&&◌, List, [], ◌∷◌, ◌++◌, map, length, drop, refl, ap, ◌∙◌, arith}
use Rattle.std.specs.Prelude.{Option, Some, None, filter_map, fold, bytes_eq, option_and_then}
use Rattle.std.specs.List.{AllByRecursion, cons_option, dedup}
use Rattle.changeset_model.specs.Path.{Path, is_prefix}
use Rattle.changeset_model.specs.Changeset.{File}
use Rattle.history_model.specs.Tree.{file_at, below, first_element, children, depth}
use Rattle.manifest_laws.proofs.Lists.{filter_map-twice, filter_map-same}

abbrev pub Files : Type 0
Files = List (Path × File)

-- ---- below a directory that is below another

abbrev pub one_below : Path → Path × File → Option (Path × File)
one_below d f = cond (is_prefix d f.0) (Some (drop (length d) f.0, f.1)) None

under_both : (d e p : Path) (f : File) → option_and_then (one_below e) (one_below d (p, f)) ≡ one_below (d ++ e) (p, f)
under_both [] e p f = refl
under_both (k ∷ d) e [] f = refl
under_both (k ∷ d) e (m ∷ p) f = by (bytes_eq k m) (under_both d e p f)
  where
    by : (b : Bool) → option_and_then (one_below e) (one_below d (p, f)) ≡ one_below (d ++ e) (p, f) → option_and_then (one_below e) (cond (b && is_prefix d p) (Some (drop (length d) p, f)) None) ≡ cond (b && is_prefix (d ++ e) p) (Some (drop (length (d ++ e)) p, f)) None
    by true h = h
    by false h = refl

pub below-twice : (d e : Path) (fs : Files) → below e (below d fs) ≡ below (d ++ e) fs
below-twice d e fs = filter_map-twice (one_below e) (one_below d) fs ∙ filter_map-same (λ f. option_and_then (one_below e) (one_below d f)) (one_below (d ++ e)) fs (λ f. under_both d e f.0 f.1)

-- ---- depth

abbrev pub IsWithin : ℕ → Files → Type 0
IsWithin n fs = AllByRecursion (λ f. length f.0 ≤ n) fs

deepest : (a : ℕ) (fs : Files) → (a ≤ fold (λ most f. max most (length f.0)) a fs) × IsWithin (fold (λ most f. max most (length f.0)) a fs) fs
deepest a [] = (omega arith, tt)
deepest a (f ∷ fs) =
    let rest = deepest (max a (length f.0)) fs in
    let most : max a (length f.0) ≤ fold (λ most f. max most (length f.0)) (max a (length f.0)) fs = rest.0 in
    (omega arith, (omega arith, rest.1))

pub within_depth : (fs : Files) → IsWithin (depth fs) fs
within_depth fs = (deepest 0 fs).1

shorter : (n k : ℕ) (p : Path) → length p ≤ n → length (drop k p) ≤ n
shorter n zero p h = h
shorter n (suc k) [] h = h
shorter n (suc k) (e ∷ p) h = shorter n k p (omega arith)

within_by : (n : ℕ) (d : Path) (f : Path × File) (rest : Files) (b : Bool) → length f.0 ≤ n → IsWithin n rest → IsWithin n (cons_option (cond b (Some (drop (length d) f.0, f.1)) None) rest)
within_by n d f rest true h hs = (shorter n (length d) f.0 h, hs)
within_by n d f rest false h hs = hs

pub within_below : (n : ℕ) (d : Path) (fs : Files) → IsWithin n fs → IsWithin n (below d fs)
within_below n d [] h = tt
within_below n d (f ∷ fs) h = within_by n d f (below d fs) (is_prefix d f.0) h.0 (within_below n d fs h.1)

less_by : (n : ℕ) (k : List ℕ) (f : Path × File) (rest : Files) → length f.0 ≤ suc n → IsWithin n rest → IsWithin n (cons_option (one_below (k ∷ []) f) rest)
less_by n k ([], f) rest h hs = hs
less_by n k (m ∷ p, f) rest h hs = by (bytes_eq k m)
  where
    by : (b : Bool) → IsWithin n (cons_option (cond (b && true) (Some (p, f)) None) rest)
    by true = (omega arith, hs)
    by false = hs

pub within_less : (n : ℕ) (k : List ℕ) (fs : Files) → IsWithin (suc n) fs → IsWithin n (below (k ∷ []) fs)
within_less n k [] h = tt
within_less n k (f ∷ fs) h = less_by n k f (below (k ∷ []) fs) h.0 (within_less n k fs h.1)

no_first : (fs : Files) → IsWithin 0 fs → filter_map (λ f. first_element f.0) fs ≡ []
no_first [] h = refl
no_first (([], f) ∷ fs) h = no_first fs h.1
no_first ((e ∷ p, f) ∷ fs) h = absurd (let k : suc (length p) ≤ 0 = h.0 in omega arith)

pub no_children : (fs : Files) → IsWithin 0 fs → children fs ≡ []
no_children fs h = ap (λ ns. map (λ name. (name, file_at fs (name ∷ []))) (dedup bytes_eq ns)) (no_first fs h)
