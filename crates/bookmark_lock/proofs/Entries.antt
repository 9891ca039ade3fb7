-- The entries of one seat in beginnings of one history, and the longer of two beginnings.
use Rattle.std.specs.Prelude.{All, nat_lt}
use Rattle.std.proofs.Common.{◌≡◌, ℕ, zero, suc, ◌<◌, ◌≤◌, ◌⊎◌, List, [], ◌∷◌, ◌++◌, length, Bool, true, false, cond, eqb, ne_eqb, refl, sym, ap, ◌∙◌, subst, ⊎_elim, arith, length-append}
use Rattle.std.proofs.lemmas.List.Elements.{filter-append}
use Rattle.std.proofs.lemmas.List.{append-nil}
use Rattle.std.proofs.lemmas.Bool.{ltb-true, ltb-false}
use mathlib.Core.List.{IsPrefix}
use Rattle.history_model.specs.History.{Entry, entries_by}
use Rattle.bookmark_lock.specs.Place.{longer}
use Rattle.bookmark_lock.proofs.Prefixes.{prefix_shorter, prefix_whole, prefix_length}
use Rattle.byte_fields.proofs.Lists.{prefix_self}

pub all_front : {A : Type 0} (P : A → Type 0) (xs ys : List A) → All P (xs ++ ys) → All P xs
all_front P [] ys a k d h = absurd (omega arith)
all_front P (x ∷ xs) ys a zero d h = a zero d (omega arith)
all_front P (x ∷ xs) ys a (suc k) d h = all_front P xs ys (λ i e l. a (suc i) e (omega arith)) k d (omega arith)

pub all_prefix : {A : Type 0} (P : A → Type 0) (xs ys : List A) → IsPrefix xs ys → All P ys → All P xs
all_prefix P xs ys p a = all_front P xs p.0 (subst (λ l. All P l) (sym p.1) a)

pub entries_none : (n most : ℕ) (l : List Entry) → most < n → All (λ (e : Entry). e.who ≤ most) l → entries_by n l ≡ []
entries_none n most [] less a = refl
entries_none n most (e ∷ l) less a =
    let here : e.who ≤ most = a zero e (omega arith) in
    let rest = entries_none n most l less (λ k d h. a (suc k) d (omega arith)) in
    ap (λ (t : Bool). cond t (e ∷ entries_by n l) (entries_by n l)) (ne_eqb e.who n (λ is. omega arith)) ∙ rest

pub entries_unused : (n : ℕ) (l : List Entry) → All (λ (e : Entry). e.who < n) l → entries_by n l ≡ []
entries_unused n [] a = refl
entries_unused n (e ∷ l) a =
    let here : e.who < n = a zero e (omega arith) in
    let rest = entries_unused n l (λ k d h. a (suc k) d (omega arith)) in
    ap (λ (t : Bool). cond t (e ∷ entries_by n l) (entries_by n l)) (ne_eqb e.who n (λ is. omega arith)) ∙ rest

none_left : (l : List Entry) → length l ≡ 0 → l ≡ []
none_left [] e = refl
none_left (x ∷ l) e = absurd (omega arith)

-- what the shortest has of a seat is what the longest has of it: so has the one between
pub sandwich : (n : ℕ) (a b c : List Entry) → IsPrefix a b → IsPrefix b c → entries_by n c ≡ entries_by n a → entries_by n c ≡ entries_by n b
sandwich n a b c p q same =
    let t = p.0 in
    let u = q.0 in
    let whole : entries_by n c ≡ entries_by n b ++ entries_by n u = ap (entries_by n) (sym q.1) ∙ filter-append (λ (x : Entry). eqb x.who n) b u in
    let part : entries_by n b ≡ entries_by n a ++ entries_by n t = ap (entries_by n) (sym p.1) ∙ filter-append (λ (x : Entry). eqb x.who n) a t in
    let none : entries_by n u ≡ [] = none_left (entries_by n u)
    (omega (arith, ap length whole, ap length part, ap length same, length-append (entries_by n b) (entries_by n u), length-append (entries_by n a) (entries_by n t))) in
    whole ∙ (ap (λ (l : List Entry). entries_by n b ++ l) none ∙ append-nil (entries_by n b))

longer_by : (F : List Entry → Type 0) (a b : List Entry) (t : Bool) → nat_lt (length a) (length b) ≡ t → (length a < length b → F b) → (length b ≤ length a → F a) → F (cond t b a)
longer_by F a b true is more less = more (ltb-true (length a) (length b) is)
longer_by F a b false is more less = less (ltb-false (length a) (length b) is)

pub longer_cases : (F : List Entry → Type 0) (a b : List Entry) → (length a < length b → F b) → (length b ≤ length a → F a) → F (longer a b)
longer_cases F a b more less = longer_by F a b (nat_lt (length a) (length b)) refl more less

module _ (a b log : List Entry) (p : IsPrefix a log) (q : IsPrefix b log) where
  pub longer_begins : IsPrefix (longer a b) log
  longer_begins = longer_cases (λ l. IsPrefix l log) a b (λ _. q) (λ _. p)

  pub begins_longer : IsPrefix a (longer a b)
  begins_longer = longer_cases (λ l. IsPrefix a l) a b (λ h. prefix_shorter a b log p q (omega arith)) (λ _. prefix_self a)

  pub begins_longer_too : IsPrefix b (longer a b)
  begins_longer_too = longer_cases (λ l. IsPrefix b l) a b (λ _. prefix_self b) (λ h. prefix_shorter b a log q p h)

  -- where one of them is the whole, so is the longer
  pub longer_whole : (a ≡ log) ⊎ (b ≡ log) → longer a b ≡ log
  longer_whole whole = longer_cases (λ l. l ≡ log) a b
      (λ h. ⊎_elim (λ (e : a ≡ log). let m = prefix_length b log q in absurd (omega (arith, ap length e))) (λ (e : b ≡ log). e) whole)
      (λ h. ⊎_elim (λ (e : a ≡ log). e) (λ (e : b ≡ log). prefix_whole a log p (omega (arith, ap length e))) whole)
