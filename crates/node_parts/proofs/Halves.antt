-- The last part whose first name isn't greater than a name, found by halves.
--     IsReached ps n low      the first name of the part before this place isn't greater than n, if there is such a part
--     last_there      parts from the place on begin with greater names
use Rattle.std.proofs.Common.{◌≡◌, ℕ, zero, suc, ◌+◌, ◌-◌, ◌<◌, ◌≤◌, false, true, List, [], ◌∷◌, ◌++◌, length, take, drop, get_or, refl, sym, ap, subst, ◌∙◌, arith}
use Rattle.std.proofs.lemmas.List.{take-append-drop}
use Rattle.std.proofs.Math.Seq.{drop-cons, drop-length}
use Rattle.node_fields.specs.Lookup.{sized}
use Rattle.node_parts.specs.Finding.{IsLastTo, IsPast, is_past}

abbrev pub IsReached : List (List ℕ) → List ℕ → ℕ → Type 0
IsReached ps n low = (0 < low) → is_past (sized (get_or ps (low - 1) [])) n ≡ false

pub not_yet : (ps : List (List ℕ)) (n : List ℕ) → IsReached ps n 0
not_yet ps n less = absurd (omega arith)

pub none_behind : (ps : List (List ℕ)) (n : List ℕ) → IsPast (drop (length ps) ps) n
none_behind ps n = subst (λ qs. IsPast qs n) (sym (drop-length ps)) tt

pub from_here : (ps : List (List ℕ)) (n p : List ℕ) (at : ℕ) → at < length ps → p ≡ get_or ps at p → is_past (sized p) n ≡ true → IsPast (drop at ps) n
from_here ps n p at less is past = subst (λ qs. IsPast qs n) (sym (drop-cons ps at p less ∙ ap (λ q. q ∷ drop (suc at) ps) (sym is))) past

same_there : (ps : List (List ℕ)) (at : ℕ) (d e : List ℕ) → at < length ps → get_or ps at d ≡ get_or ps at e
same_there [] at d e less = absurd (omega arith)
same_there (p ∷ ps) zero d e less = refl
same_there (p ∷ ps) (suc at) d e less = same_there ps at d e (omega arith)

pub reached_here : (ps : List (List ℕ)) (n p : List ℕ) (at : ℕ) → at < length ps → p ≡ get_or ps at p → is_past (sized p) n ≡ false → IsReached ps n (at + 1)
reached_here ps n p at less is not some =
    ap (λ q. is_past (sized q) n) (ap (λ k. get_or ps k []) back ∙ same_there ps at [] p less ∙ sym is) ∙ not
  where
    back : (at + 1) - 1 ≡ at
    back = omega arith

pub last_there : (ps : List (List ℕ)) (n p : List ℕ) (low high : ℕ) → 0 < low → low ≤ length ps → low ≤ high → high ≤ low → p ≡ get_or ps (low - 1) p → IsReached ps n low → IsPast (drop high ps) n → IsLastTo ps n p
last_there ps n p low high some within order over is reached past = record {
  front = take (low - 1) ps;
  later = drop low ps;
  parts = sym (take-append-drop (low - 1) ps) ∙ ap (λ qs. take (low - 1) ps ++ qs) (drop-cons ps (low - 1) p (omega arith) ∙ ap (λ q. q ∷ drop (suc (low - 1)) ps) (sym is) ∙ ap (λ k. p ∷ drop k ps) next);
  reached = ap (λ q. is_past (sized q) n) (is ∙ same_there ps (low - 1) p [] (omega arith)) ∙ reached some;
  past = subst (λ k. IsPast (drop k ps) n) same past;
}
  where
    next : suc (low - 1) ≡ low
    next = omega arith

    same : high ≡ low
    same = omega arith
