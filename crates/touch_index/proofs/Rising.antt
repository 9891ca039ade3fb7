-- Rising lists of numbers.
--     rises_pushed      where a number is put at the end that bounds the list;  rises_to      where the bound rises
--     none_later      below a number that isn't above a bound none is
use Rattle.std.proofs.Common.{◌≡◌, ℕ, ◌+◌, ◌<◌, ◌≤◌, List, [], ◌∷◌, ◌++◌, length, get_or, refl, subst, arith, ⊎_elim, length-append}
use Rattle.std.proofs.lemmas.Bool.{cases_lt}
use Rattle.std.proofs.lemmas.List.{get_or_push, get_or_append_left}
use Rattle.touch_index.specs.Lists.{IsRisingTo}

pub rises_nil : (most : ℕ) → IsRisingTo most []
rises_nil most = record { rising = λ i j less below. absurd (omega arith); bounded = λ i below. absurd (omega arith) }

pub rises_to : (most more : ℕ) (xs : List ℕ) → most ≤ more → IsRisingTo most xs → IsRisingTo more xs
rises_to most more xs up h = record { rising = h.rising; bounded = λ i below. (let less = h.bounded i below in omega arith) }

module _ (most : ℕ) (xs : List ℕ) (h : IsRisingTo most xs) where
  at_end : get_or (xs ++ most ∷ []) (length xs) 0 ≡ most
  at_end = get_or_push xs most 0 (length xs) refl

  before_end : (i : ℕ) → i < length xs → get_or (xs ++ most ∷ []) i 0 ≡ get_or xs i 0
  before_end i below = get_or_append_left xs (most ∷ []) 0 i below

  below_most : (i : ℕ) → i < length xs + 1 → get_or (xs ++ most ∷ []) i 0 ≤ most
  below_most i below = ⊎_elim
      (λ less. let same = before_end i less in let bound = h.bounded i less in omega arith)
      (λ past. let is : length xs ≡ i = omega arith in subst (λ i. get_or (xs ++ most ∷ []) i 0 ≤ most) is (let same = at_end in omega arith))
      (cases_lt i (length xs))

  rising_pushed : (i j : ℕ) → i ≤ j → j < length xs + 1 → get_or (xs ++ most ∷ []) i 0 ≤ get_or (xs ++ most ∷ []) j 0
  rising_pushed i j order below = ⊎_elim
      (λ less. let first = before_end i (omega arith) in let then = before_end j less in let up = h.rising i j order less in omega arith)
      (λ past. let is : length xs ≡ j = omega arith in let bound = below_most i (omega arith) in subst (λ j. get_or (xs ++ most ∷ []) i 0 ≤ get_or (xs ++ most ∷ []) j 0) is (let same = at_end in omega arith))
      (cases_lt j (length xs))

  pub rises_pushed : IsRisingTo most (xs ++ most ∷ [])
  rises_pushed = record {
    rising = λ i j order below. rising_pushed i j order (let long = length-append xs (most ∷ []) in omega arith);
    bounded = λ i below. below_most i (let long = length-append xs (most ∷ []) in omega arith);
  }
