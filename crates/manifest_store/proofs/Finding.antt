-- Entries found by going through them.
use Rattle.std.proofs.Common.{◌≡◌, ℕ, suc, ◌<◌, true, false, cond, List, ◌∷◌, map, length, drop, drop-cons, get_or, sym, ap, ◌∙◌, ◌+◌, arith}
use Rattle.std.specs.Prelude.{Option, Some, bytes_eq}
use Rattle.std.specs.Ordering.{nat_cmp, eq_by_cmp}
use Rattle.std.specs.Cmp.Lexicographic.{slice_cmp, texts_ties}
use Rattle.std.specs.FinMap.{find as find_key}
use Rattle.std.proofs.lemmas.Slice.Eq.{bytes_eq-Decides}
use Rattle.manifest_laws.proofs.Steps.{both_ways}

flipped : (a b : List ℕ) → bytes_eq a b ≡ bytes_eq b a
flipped a b = both_ways (bytes_eq a b) (bytes_eq b a) (λ e. (bytes_eq-Decides b a).1 (sym ((bytes_eq-Decides a b).0 e))) (λ e. (bytes_eq-Decides a b).1 (sym ((bytes_eq-Decides b a).0 e)))

one : (i : ℕ) → i + 1 ≡ suc i
one i = omega arith

module _ {C E : Type 0} (seen : C → List ℕ × E) where
  abbrev pub looked : List ℕ → List C → Option E
  looked n cs = find_key (slice_cmp nat_cmp) n (map seen cs)

  here : (n : List ℕ) (cs : List C) (i : ℕ) (x : C) → i < length cs → x ≡ get_or cs i x → looked n (drop i cs) ≡ cond (eq_by_cmp (slice_cmp nat_cmp) n (seen x).0) (Some (seen x).1) (looked n (drop (suc i) cs))
  here n cs i x less is = ap (looked n) (drop-cons cs i x less ∙ (λ k. sym is k ∷ drop (suc i) cs))

  pub found_here : (n : List ℕ) (cs : List C) (i : ℕ) (x : C) → i < length cs → x ≡ get_or cs i x → bytes_eq (seen x).0 n ≡ true → Some (seen x).1 ≡ looked n (drop i cs)
  found_here n cs i x less is same = sym (here n cs i x less is ∙ ap (λ b. cond b (Some (seen x).1) (looked n (drop (suc i) cs))) (sym (texts_ties n (seen x).0) ∙ flipped n (seen x).0 ∙ same))

  pub passed : (n : List ℕ) (cs : List C) (i : ℕ) (x : C) → i < length cs → x ≡ get_or cs i x → bytes_eq (seen x).0 n ≡ false → looked n (drop (i + 1) cs) ≡ looked n (drop i cs)
  passed n cs i x less is other = ap (λ k. looked n (drop k cs)) (one i) ∙ sym (here n cs i x less is ∙ ap (λ b. cond b (Some (seen x).1) (looked n (drop (suc i) cs))) (sym (texts_ties n (seen x).0) ∙ flipped n (seen x).0 ∙ other))
