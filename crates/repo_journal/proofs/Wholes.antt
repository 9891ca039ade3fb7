-- What a file holds of the parts of wholes, when its records stay and others follow them.
use Rattle.std.proofs.Common.{◌≡◌, ℕ, zero, suc, ◌+◌, ◌-◌, ◌≤◌, cond, List, [], ◌∷◌, ◌++◌, take, drop, refl, sym, ap, ◌∙◌, arith}
use Rattle.std.specs.Prelude.{sum_by, bytes_eq}
use Rattle.std.specs.List.{AllByRecursion}
use Rattle.std.proofs.lemmas.List.{drop-take}
use Rattle.std.proofs.lemmas.List.Sums.{sum_by-cons}
use Rattle.sha2.specs.Sha256.{sha256}
use Rattle.byte_fields.specs.Bytes.{Id}
use Rattle.byte_fields.proofs.Lists.{weaker}
use Rattle.history_model.specs.History.{Body, Content, Whole, Change, Book, Land, Policy, Fault}
use Rattle.history_model.specs.Journal.{record_len, held, joined, HoldsParts}
use Rattle.reply_model.specs.Legal.{HasParts}
use Rattle.reply_model.proofs.Opened.{joined_more}

take_less : {X : Type 0} (k n : ℕ) (xs : List X) → k ≤ n → take k (take n xs) ≡ take k xs
take_less zero n xs le = refl
take_less (suc k) zero xs le = absurd (omega arith)
take_less (suc k) (suc n) [] le = refl
take_less (suc k) (suc n) (x ∷ xs) le = ap (λ ys. x ∷ ys) (take_less k n xs (omega arith))

fits_on : (at end : ℕ) (b : Body) (bs : List Body) → at + sum_by record_len (b ∷ bs) ≤ end → at + record_len b + sum_by record_len bs ≤ end
fits_on at end b bs fits = let sum = sum_by-cons record_len b bs in omega arith

fits_here : (at end : ℕ) (y : Id) (n : ℕ) (bs : List Body) → at + sum_by record_len (Content y n ∷ bs) ≤ end → at + 6 + (record_len (Content y n) - 6) ≤ end
fits_here at end y n bs fits = let sum = sum_by-cons record_len (Content y n) bs in omega arith

-- files that are alike up to a place hold alike what stands before it
module _ (file other : List ℕ) (end : ℕ) (same : take end file ≡ take end other) where
  front : (k : ℕ) → k ≤ end → take k file ≡ take k other
  front k le = sym (take_less k end file le) ∙ ap (take k) same ∙ take_less k end other le

  piece : (n m : ℕ) → n + m ≤ end → take m (drop n file) ≡ take m (drop n other)
  piece n m le = sym (drop-take n m file) ∙ ap (drop n) (front (n + m) le) ∙ drop-take n m other

  held_front : (at : ℕ) (bs : List Body) (x : Id) → at + sum_by record_len bs ≤ end → held file at bs x ≡ held other at bs x
  held_front at [] x fits = refl
  held_front at (Content y n ∷ bs) x fits =
      let here = piece (at + 6) (record_len (Content y n) - 6) (fits_here at end y n bs fits) in
      let later = held_front (at + record_len (Content y n)) bs x (fits_on at end (Content y n) bs fits) in
      (λ i. cond (bytes_eq x y) (here i) (later i))
  held_front at (Whole y n parts ∷ bs) x fits = held_front (at + record_len (Whole y n parts)) bs x (fits_on at end (Whole y n parts) bs fits)
  held_front at (Change c ∷ bs) x fits = held_front (at + record_len (Change c)) bs x (fits_on at end (Change c) bs fits)
  held_front at (Book move ∷ bs) x fits = held_front (at + record_len (Book move)) bs x (fits_on at end (Book move) bs fits)
  held_front at (Land landing ∷ bs) x fits = held_front (at + record_len (Land landing)) bs x (fits_on at end (Land landing) bs fits)
  held_front at (Policy caller text ∷ bs) x fits = held_front (at + record_len (Policy caller text)) bs x (fits_on at end (Policy caller text) bs fits)
  held_front at (Fault breaking ∷ bs) x fits = held_front (at + record_len (Fault breaking)) bs x (fits_on at end (Fault breaking) bs fits)

  module _ (all : List Body) (fits : 16 + sum_by record_len all ≤ end) where
    joined_front : (parts : List Id) → joined file all parts ≡ joined other all parts
    joined_front [] = refl
    joined_front (x ∷ parts) = (λ i. held_front 16 all x fits i ++ joined_front parts i)

    one_same : (b : Body) → HoldsParts other all b → HoldsParts file all b
    one_same (Content x n) h = tt
    one_same (Whole x n parts) h = ap sha256 (joined_front parts) ∙ h
    one_same (Change c) h = tt
    one_same (Book move) h = tt
    one_same (Land landing) h = tt
    one_same (Policy caller text) h = tt
    one_same (Fault breaking) h = tt

    pub each_same : (bs : List Body) → AllByRecursion (HoldsParts other all) bs → AllByRecursion (HoldsParts file all) bs
    each_same bs each = weaker (HoldsParts other all) (HoldsParts file all) one_same bs each

    one_still : (more : List Body) (b : Body) → HasParts all b → HoldsParts other all b → HoldsParts file (all ++ more) b
    one_still more (Content x n) there h = tt
    one_still more (Whole x n parts) there h = ap sha256 (joined_more file all more parts there ∙ joined_front parts) ∙ h
    one_still more (Change c) there h = tt
    one_still more (Book move) there h = tt
    one_still more (Land landing) there h = tt
    one_still more (Policy caller text) there h = tt
    one_still more (Fault breaking) there h = tt

    -- also where more records follow, for wholes whose parts stand before
    pub each_still : (more bs : List Body) → AllByRecursion (HasParts all) bs → AllByRecursion (HoldsParts other all) bs → AllByRecursion (HoldsParts file (all ++ more)) bs
    each_still more [] there each = tt
    each_still more (b ∷ bs) there each = (one_still more b there.0 each.0, each_still more bs there.1 each.1)
