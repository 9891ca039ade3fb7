-- What stands at numbers, by falling numbers.
--     falling f q n      of the numbers below n that pass a test
use Rattle.std.proofs.Common.{◌≡◌, ℕ, zero, suc, ◌<◌, Bool, true, false, cond, List, [], ◌∷◌, length, reverse, refl, sym, ap, ◌∙◌, arith, ⊎_elim}
use Rattle.std.specs.Prelude.{Some, None, filter_map, bytes_eq}
use Rattle.std.specs.List.{list_any, cons_option}
use Rattle.std.proofs.lemmas.Bool.{cases_eq}
use Rattle.std.proofs.lemmas.List.{length-reverse, reverse-reverse}
use Rattle.byte_fields.specs.Bytes.{Id}
use Rattle.changeset_model.specs.Path.{Path}
use Rattle.history_model.specs.History.{Known}
use Rattle.history_model.specs.Past.{past}
use Rattle.manifest_model.specs.Merged.{makers, history_of}
use Rattle.changeset_store.specs.Store.{known_at}
use Rattle.changeset_store.proofs.Numbering.{at_older, at_newest}

abbrev pub falling : {X : Type 0} → (ℕ → X) → (ℕ → Bool) → ℕ → List X
falling f q zero = []
falling f q (suc n) = cond (q n) (f n ∷ falling f q n) (falling f q n)

module _ {X : Type 0} where
  pub falling_same : (f g : ℕ → X) (q r : ℕ → Bool) (n : ℕ) → ((j : ℕ) → j < n → f j ≡ g j) → ((j : ℕ) → j < n → q j ≡ r j) → falling f q n ≡ falling g r n
  falling_same f g q r zero e h = refl
  falling_same f g q r (suc n) e h =
      let here : n < suc n = omega arith in
      let rest = falling_same f g q r n (λ j less. e j (omega arith)) (λ j less. h j (omega arith)) in
      (λ i. cond (h n here i) (e n here i ∷ rest i) (rest i))

  pub falling_none : (f : ℕ → X) (q : ℕ → Bool) (n : ℕ) → ((j : ℕ) → q j ≡ false) → falling f q n ≡ []
  falling_none f q zero h = refl
  falling_none f q (suc n) h = ap (λ b. cond b (f n ∷ falling f q n) (falling f q n)) (h n) ∙ falling_none f q n h

  -- the first of them, and those that are left without it
  pub falling_cut : (f : ℕ → X) (q r : ℕ → Bool) (m n : ℕ) → m < n → q m ≡ true → r m ≡ false
      → ((j : ℕ) → j < n → m < j → q j ≡ false) → ((j : ℕ) → j < n → (j ≡ m → ⊥) → r j ≡ q j) → falling f q n ≡ f m ∷ falling f r n
  falling_cut f q r m zero less here gone above same = absurd (omega arith)
  falling_cut f q r m (suc n) less here gone above same =
      let last : n < suc n = omega arith in
      ⊎_elim
      (λ e.
      ap (λ b. cond b (f n ∷ falling f q n) (falling f q n)) (ap q e ∙ here)
      ∙ (λ i. f (e i) ∷ falling_same f f q r n (λ j below. refl) (λ j below. sym (same j (omega arith) (λ k. absurd (omega arith)))) i)
      ∙ sym (ap (λ b. f m ∷ cond b (f n ∷ falling f r n) (falling f r n)) (ap r e ∙ gone)))
      (λ other.
      let high : q n ≡ false = above n last (omega arith) in
      ap (λ b. cond b (f n ∷ falling f q n) (falling f q n)) high
      ∙ falling_cut f q r m n (omega arith) here gone (λ j below. above j (omega arith)) (λ j below. same j (omega arith))
      ∙ sym (ap (λ b. f m ∷ cond b (f n ∷ falling f r n) (falling f r n)) (same n last other ∙ high)))
      (cases_eq n m)

-- ---- ids of known changesets that pass a test, the last known first

abbrev ids_that : (Id → Bool) → List Known → List Id
ids_that q ks = filter_map (λ k. cond (q k.id) (Some k.id) None) ks

one_more : (b : Bool) (x : Id) (rest : List Id) → cons_option (cond b (Some x) None) rest ≡ cond b (x ∷ rest) rest
one_more true x rest = refl
one_more false x rest = refl

abbrev id_back : List Known → ℕ → Id
id_back js j = (known_at (reverse js) j).id

picked : (q : Id → Bool) (js : List Known) → ids_that q js ≡ falling (id_back js) (λ j. q (id_back js j)) (length js)
picked q [] = refl
picked q (k ∷ older) =
    let newest : k.id ≡ id_back (k ∷ older) (length older) = sym (ap (λ (k : Known). k.id) (at_newest k older)) in
    let kept : (j : ℕ) → j < length older → id_back older j ≡ id_back (k ∷ older) j = λ j less. sym (ap (λ (k : Known). k.id) (at_older k older j less)) in
    let rest : ids_that q older ≡ falling (id_back (k ∷ older)) (λ j. q (id_back (k ∷ older) j)) (length older) =
    picked q older ∙ falling_same (id_back older) (id_back (k ∷ older)) (λ j. q (id_back older j)) (λ j. q (id_back (k ∷ older) j)) (length older) kept (λ j less. ap q (kept j less)) in
    one_more (q k.id) k.id (ids_that q older) ∙ (λ i. cond (q (newest i)) (newest i ∷ rest i) (rest i))

abbrev pub id_at : List Known → ℕ → Id
id_at ks j = (known_at ks j).id

pub history_falls : (ks : List Known) (x : Id) (p : Path) → history_of ks x p ≡ falling (id_at ks) (λ j. list_any (bytes_eq (id_at ks j)) (makers (past ks x) p)) (length ks)
history_falls ks x p =
    picked (λ y. list_any (bytes_eq y) (makers (past ks x) p)) (reverse ks)
    ∙ (λ i. falling (id_at (reverse-reverse ks i)) (λ j. list_any (bytes_eq (id_at (reverse-reverse ks i) j)) (makers (past ks x) p)) (length-reverse ks i))
