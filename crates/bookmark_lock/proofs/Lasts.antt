-- The stored entries, with their seats' numbers.
use Rattle.std.proofs.Common.{◌≡◌, ◌≢◌, ℕ, zero, suc, ◌+◌, ◌-◌, ◌<◌, ◌≤◌, List, [], ◌∷◌, ◌++◌, length, take, drop, Bool, true, false, cond, ◌||◌, eqb, eq-eqb, ne_eqb, refl, sym, ap, ◌∙◌, subst, inl, inr, ⊎_elim, arith, length-append}
use Rattle.std.specs.Prelude.{All, MatchBool}
use Rattle.std.proofs.lemmas.Bool.{cases_lt}
use Rattle.std.proofs.lemmas.List.{append-nil, take-append-drop, drop-drop, drop-append-le, drop_all}
use Rattle.std.proofs.lemmas.List.Folds.{list_any-append}
use Rattle.std.proofs.lemmas.List.Elements.{filter-append, All-filter}
use mathlib.Core.Bool.{true≢false}
use mathlib.Core.Option.{some, some-ne-none, some-injective}
use lib.ListN.{get_elem?}
use Rattle.history_model.specs.History.{Body, Content, Whole, Change, Book, Land, Policy, Fault, Entry, bodies, entries_by, is_breaking, is_down, is_stored}
use Rattle.bookmark_lock.specs.Lasting.{AreFew, AreLast, entered, waiting_by}
use Rattle.bookmark_lock.specs.Turns.{stored_length}
use Rattle.bookmark_lock.proofs.Members.{at_end, at_inside}
use Rattle.bookmark_lock.proofs.Rosters.{others_entry}

one_length : (b : Bool) (e : Entry) (es : List Entry) (bs : List Body) → length bs ≡ length es → length (cond b (e.body ∷ bs) bs) ≡ length (cond b (e ∷ es) es)
one_length true e es bs same = omega arith
one_length false e es bs same = same

pub entered_length : (h : List Entry) → stored_length h ≡ length (entered h)
entered_length [] = refl
entered_length (e ∷ es) = one_length (is_stored e.body) e (entered es) (bodies es) (entered_length es)

pub entered_push : (h : List Entry) (e : Entry) → entered (h ++ e ∷ []) ≡ entered h ++ cond (is_stored e.body) (e ∷ []) []
entered_push h e = filter-append (λ (x : Entry). is_stored x.body) h (e ∷ [])

stored_calm : (b : Body) → is_stored b ≡ true → is_breaking b ≡ false
stored_calm (Content x n) is = refl
stored_calm (Whole x n parts) is = refl
stored_calm (Change c) is = refl
stored_calm (Book move) is = refl
stored_calm (Land landing) is = refl
stored_calm (Policy caller text) is = refl
stored_calm (Fault breaking) is = absurd (true≢false (sym is))

-- ---- what one turn stores

pub data Stores (number : ℕ) (before after : List Entry) : Type 0 where
  stays : entered after ≡ entered before → Stores number before after
  stores : (e : Entry) → e.who ≡ number → is_down after ≡ false → entered after ≡ entered before ++ e ∷ [] → Stores number before after

-- once down it stores nothing
pub stores_of : (number : ℕ) (before after : List Entry) (added : Bool) → MatchBool added ((e : Entry) × (e.who ≡ number) × (after ≡ before ++ e ∷ [])) (after ≡ before) → (is_down before ≡ true → entered after ≡ entered before) → Stores number before after
stores_of number before after false same ends = stays (ap entered same)
stores_of number before after true adds ends = by (is_stored e.body) refl (is_down before) refl
  where
    e : Entry
    e = adds.0

    more : (b : Bool) → is_stored e.body ≡ b → entered after ≡ entered before ++ cond b (e ∷ []) []
    more b is = ap entered adds.2 ∙ (entered_push before e ∙ ap (λ (c : Bool). entered before ++ cond c (e ∷ []) []) is)

    calm : is_stored e.body ≡ true → is_down before ≡ false → is_down after ≡ false
    calm is up =
        ap is_down adds.2
        ∙ (list_any-append (λ (x : Entry). is_breaking x.body) before (e ∷ [])
        ∙ (ap (λ (b : Bool). b || (is_breaking e.body || false)) up ∙ ap (λ (b : Bool). false || (b || false)) (stored_calm e.body is)))

    by : (s : Bool) → is_stored e.body ≡ s → (d : Bool) → is_down before ≡ d → Stores number before after
    by false is d down = stays (more false is ∙ append-nil (entered before))
    by true is true down = stays (ends down)
    by true is false up = stores e adds.1 (calm is up) (more true is)

module _ (number : ℕ) (before after : List Entry) (s : Stores number before after) where
  -- an entry that was there is there still
  pub at_old : (i : ℕ) (d : Entry) → i < stored_length before → get_elem? (entered after) i ≡ some d → get_elem? (entered before) i ≡ some d
  at_old i d inside e = by s
    where
      by : Stores number before after → get_elem? (entered before) i ≡ some d
      by (stays same) = ap (λ (l : List Entry). get_elem? l i) (sym same) ∙ e
      by (stores x who up same) = ⊎_elim
          (λ (h : get_elem? (entered before) i ≡ some d). h)
          (λ (t : (i ≡ length (entered before)) × (x ≡ d)). let end = t.0 in let long = entered_length before in absurd (omega arith))
          (at_end (entered before) x d i (ap (λ (l : List Entry). get_elem? l i) (sym same) ∙ e))

  -- and another is the seat's
  pub at_new : (i : ℕ) (d : Entry) → stored_length before ≤ i → get_elem? (entered after) i ≡ some d → (i ≡ stored_length before) × (d.who ≡ number) × (is_down after ≡ false)
  at_new i d behind e = by s
    where
      by : Stores number before after → (i ≡ stored_length before) × (d.who ≡ number) × (is_down after ≡ false)
      by (stays same) = let inside = at_inside (entered before) i d (ap (λ (l : List Entry). get_elem? l i) (sym same) ∙ e) in let long = entered_length before in absurd (omega arith)
      by (stores x who up same) = ⊎_elim
          (λ (h : get_elem? (entered before) i ≡ some d). let inside = at_inside (entered before) i d h in let long = entered_length before in absurd (omega arith))
          (λ (t : (i ≡ length (entered before)) × (x ≡ d)). (t.0 ∙ sym (entered_length before), ap (λ (y : Entry). y.who) (sym t.1) ∙ who, up))
          (at_end (entered before) x d i (ap (λ (l : List Entry). get_elem? l i) (sym same) ∙ e))

-- ---- at the beginning

at_all : (P : Entry → Type 0) (l : List Entry) (i : ℕ) (d : Entry) → All P l → get_elem? l i ≡ some d → P d
at_all P [] i d a e = absurd (some-ne-none d (sym e))
at_all P (x ∷ l) zero d a e = subst P (some-injective x d e) (a zero d (omega arith))
at_all P (x ∷ l) (suc i) d a e = at_all P l i d (λ k y h. a (suc k) y (omega arith)) e

at_front : (l : List Entry) (i j : ℕ) (d : Entry) → i < j → get_elem? l i ≡ some d → get_elem? (take j l) i ≡ some d
at_front [] i j d less e = absurd (some-ne-none d (sym e))
at_front (x ∷ l) i zero d less e = absurd (omega arith)
at_front (x ∷ l) zero (suc j) d less e = e
at_front (x ∷ l) (suc i) (suc j) d less e = at_front l i j d (omega arith) e

at_rest : (l : List Entry) (j i : ℕ) (d : Entry) → get_elem? l (j + i) ≡ some d → get_elem? (drop j l) i ≡ some d
at_rest l zero i d e = let same : 0 + i ≡ i = omega arith in ap (λ (k : ℕ). get_elem? l k) (sym same) ∙ e
at_rest [] (suc j) i d e = absurd (some-ne-none d (sym e))
at_rest (x ∷ l) (suc j) i d e = let same : suc j + i ≡ suc (j + i) = omega arith in at_rest l j i d (ap (λ (k : ℕ). get_elem? (x ∷ l) k) (sym same) ∙ e)

at_later : (l : List Entry) (n i : ℕ) (d : Entry) → n ≤ i → get_elem? l i ≡ some d → get_elem? (drop n l) (i - n) ≡ some d
at_later l n i d le e = let sum : n + (i - n) ≡ i = omega arith in at_rest l n (i - n) d (ap (λ (k : ℕ). get_elem? l k) sum ∙ e)

at_most_one : (who : ℕ) (e : Entry) → length (entries_by who (e ∷ [])) ≤ 1
at_most_one who e = by (eqb e.who who)
  where
    by : (b : Bool) → length (cond b (e ∷ []) []) ≤ 1
    by true = omega arith
    by false = omega arith

one_by : (who : ℕ) (l : List Entry) (i : ℕ) (d : Entry) → get_elem? l i ≡ some d → d.who ≡ who → 1 ≤ length (entries_by who l)
one_by who [] i d e mine = absurd (some-ne-none d (sym e))
one_by who (x ∷ l) zero d e mine =
    let is : eqb x.who who ≡ true = eq-eqb x.who who (ap (λ (y : Entry). y.who) (some-injective x d e) ∙ mine) in
    let all : entries_by who (x ∷ l) ≡ x ∷ entries_by who l = ap (λ (b : Bool). cond b (x ∷ entries_by who l) (entries_by who l)) is in
    omega (arith, ap length all)
one_by who (x ∷ l) (suc i) d e mine = let rest = one_by who l i d e mine in by (eqb x.who who) rest
  where
    by : (b : Bool) → 1 ≤ length (entries_by who l) → 1 ≤ length (cond b (x ∷ entries_by who l) (entries_by who l))
    by true rest = omega arith
    by false rest = rest

entries_without : (who : ℕ) (l : List Entry) → All (λ (e : Entry). e.who ≢ who) l → entries_by who l ≡ []
entries_without who [] all = refl
entries_without who (x ∷ l) all =
    let rest = entries_without who l (λ k d h. all (suc k) d (omega arith)) in
    ap (λ (b : Bool). cond b (x ∷ entries_by who l) (entries_by who l)) (ne_eqb x.who who (all zero x (omega arith))) ∙ rest

-- ---- how many are of one seat

fewer : (who k : ℕ) (l : List Entry) → length (entries_by who (drop k l)) ≤ length (entries_by who l)
fewer who k l =
    let whole : entries_by who l ≡ entries_by who (take k l) ++ entries_by who (drop k l) = ap (entries_by who) (sym (take-append-drop k l)) ∙ filter-append (λ (x : Entry). eqb x.who who) (take k l) (drop k l) in
    omega (arith, ap length whole, length-append (entries_by who (take k l)) (entries_by who (drop k l)))

-- past more entries there are no more
pub fewer_past : (who m n : ℕ) (log : List Entry) → m ≤ n → waiting_by who log n ≤ waiting_by who log m
fewer_past who m n log le =
    let sum : m + (n - m) ≡ n = omega arith in
    let is : drop (n - m) (drop m (entered log)) ≡ drop n (entered log) = drop-drop (n - m) m (entered log) ∙ ap (λ (k : ℕ). drop k (entered log)) sum in
    subst (λ (l : List Entry). length (entries_by who l) ≤ waiting_by who log m) is (fewer who (n - m) (drop m (entered log)))

pub waiting_past : (who : ℕ) (log : List Entry) (n : ℕ) → stored_length log ≤ n → waiting_by who log n ≡ 0
waiting_past who log n le = let long = entered_length log in ap (λ (l : List Entry). length (entries_by who l)) (drop_all n (entered log) (omega arith))

pub waiting_same : (who : ℕ) (before after : List Entry) → entered after ≡ entered before → (n : ℕ) → waiting_by who after n ≡ waiting_by who before n
waiting_same who before after is n = ap (λ (l : List Entry). length (entries_by who (drop n l))) is

module _ (before after : List Entry) (e : Entry) (is : entered after ≡ entered before ++ e ∷ []) (who n : ℕ) where
  -- past these it is the last
  pushed : n ≤ stored_length before → drop n (entered after) ≡ drop n (entered before) ++ e ∷ []
  pushed le = let long = entered_length before in ap (drop n) is ∙ drop-append-le n (entered before) (e ∷ []) (omega arith)

  long : stored_length after ≡ stored_length before + 1
  long = let old = entered_length before in let new = entered_length after in omega (arith, ap length is, length-append (entered before) (e ∷ []))

  push_other : who ≢ e.who → waiting_by who after n ≡ waiting_by who before n
  push_other other = elim (cases_lt (stored_length before) n) as (λ _. waiting_by who after n ≡ waiting_by who before n) [
    | inl less ↦ (let l = long in waiting_past who after n (omega arith) ∙ sym (waiting_past who before n (omega arith)))
    | inr more ↦ ap (λ (l : List Entry). length (entries_by who l)) (pushed more) ∙ ap length (others_entry who (drop n (entered before)) e other)
  ]

  push_one : waiting_by who after n ≤ waiting_by who before n + 1
  push_one = elim (cases_lt (stored_length before) n) as (λ _. waiting_by who after n ≤ waiting_by who before n + 1) [
    | inl less ↦ (let l = long in let none = waiting_past who after n (omega arith) in omega arith)
    | inr more ↦ (let whole = ap (λ (l : List Entry). length (entries_by who l)) (pushed more) in
        let split = ap length (filter-append (λ (x : Entry). eqb x.who who) (drop n (entered before)) (e ∷ [])) in
        let both = length-append (entries_by who (drop n (entered before))) (entries_by who (e ∷ [])) in
        let one = at_most_one who e in
        omega arith)
  ]

pub waiting_one : (who : ℕ) (before after : List Entry) (e : Entry) → entered after ≡ entered before ++ e ∷ [] → (n : ℕ) → waiting_by who after n ≤ waiting_by who before n + 1
waiting_one who before after e is n = push_one before after e is who n

-- of a seat that had not the turn there are as many as before
pub waiting_other : (number : ℕ) (before after : List Entry) → Stores number before after → (who : ℕ) → who ≢ number → (n : ℕ) → waiting_by who after n ≡ waiting_by who before n
waiting_other number before after (stays is) who other n = waiting_same who before after is n
waiting_other number before after (stores e mine up is) who other n = push_other before after e is who n (λ same. other (same ∙ mine))

-- ---- at the beginning

-- a seat that stored none of these
pub none_by : (who : ℕ) (log : List Entry) (n : ℕ) → All (λ (e : Entry). e.who ≢ who) log → waiting_by who log n ≡ 0
none_by who log n all =
    let fewer : waiting_by who log n ≤ waiting_by who log 0 = fewer_past who 0 n log (omega arith) in
    let none : entries_by who (entered log) ≡ [] = entries_without who (entered log) (All-filter (λ (x : Entry). is_stored x.body) (λ (x : Entry). x.who ≢ who) log all) in
    omega (arith, ap length none)

pub none_few : (most : ℕ) (h : List Entry) (n : ℕ) → All (λ (e : Entry). e.who ≡ 0) h → AreFew most h n
none_few most h n zero_all = record { few = λ who led. (let none = none_by who h n (λ k d i. λ same. led (sym same ∙ zero_all k d i)) in omega arith) }

-- ---- one of each seat at most

-- two are two
two_by : (who : ℕ) (l : List Entry) (i j : ℕ) (d e : Entry) → i < j → get_elem? l i ≡ some d → get_elem? l j ≡ some e → d.who ≡ who → e.who ≡ who → 2 ≤ length (entries_by who l)
two_by who l i j d e less at_i at_j mine mine' =
    let first = one_by who (take j l) i d (at_front l i j d less at_i) mine in
    let same : j + 0 ≡ j = omega arith in
    let second = one_by who (drop j l) 0 e (at_rest l j 0 e (ap (λ (k : ℕ). get_elem? l k) same ∙ at_j)) mine' in
    let whole : entries_by who l ≡ entries_by who (take j l) ++ entries_by who (drop j l) = ap (entries_by who) (sym (take-append-drop j l)) ∙ filter-append (λ (x : Entry). eqb x.who who) (take j l) (drop j l) in
    omega (arith, ap length whole, length-append (entries_by who (take j l)) (entries_by who (drop j l)))

pub few_last : (h : List Entry) (n : ℕ) → AreFew 1 h n → AreLast h n
few_last h n few = record {
  apart = λ i j d e le less at_i at_j seat same. (let one = few.few e.who seat in
      let two = two_by e.who (drop n (entered h)) (i - n) (j - n) d e (omega arith) (at_later (entered h) n i d le at_i) (at_later (entered h) n j e (omega arith) at_j) same refl in
      absurd (omega arith));
}
