-- What waits to be sealed at the end is of each lane one entry at most.
use Rattle.std.proofs.Common.{◌≡◌, ◌≢◌, ℕ, zero, suc, ◌+◌, ◌<◌, ◌≤◌, ◌==◌, List, [], ◌∷◌, ◌++◌, length, Bool, true, false, cond, refl, sym, ap, subst, ◌∙◌, arith, eq-eqb, eqb-true, length-append}
use Rattle.std.specs.Prelude.{All}
use Rattle.std.specs.List.{AllByRecursion}
use Rattle.std.proofs.lemmas.List.Elements.{filter-append}
use mathlib.Core.List.{IsPrefix}
use mathlib.Core.Option.{some}
use lib.ListN.{get_elem?}
use Rattle.history_model.specs.History.{Body, Entry, bodies, entries_by, is_stored}
use Rattle.bookmark_lock.specs.Lasting.{AreLast, entered}

abbrev Each : (Entry → Type 0) → List Entry → Type 0
Each P l = AllByRecursion P l

each_map : (P Q : Entry → Type 0) (l : List Entry) → ((e : Entry) → P e → Q e) → Each P l → Each Q l
each_map P Q [] f all = tt
each_map P Q (e ∷ l) f all = (f e all.0, each_map P Q l f all.1)

each_both : (P Q : Entry → Type 0) (l : List Entry) → Each P l → Each Q l → Each (λ e. P e × Q e) l
each_both P Q [] p q = tt
each_both P Q (e ∷ l) p q = ((p.0, q.0), each_both P Q l p.1 q.1)

each_at : (P : Entry → Type 0) (l : List Entry) → ((i : ℕ) (e : Entry) → get_elem? l i ≡ some e → P e) → Each P l
each_at P [] f = tt
each_at P (e ∷ l) f = (f zero e refl, each_at P l (λ i d at. f (suc i) d at))

each_all : (P : Entry → Type 0) (l : List Entry) → All P l → Each P l
each_all P [] all = tt
each_all P (e ∷ l) all = (all zero e (omega arith), each_all P l (λ k d below. all (suc k) d (omega arith)))

kept_if : (P : Entry → Type 0) (b : Bool) (e : Entry) (l : List Entry) → P e → Each P l → Each P (cond b (e ∷ l) l)
kept_if P true e l here rest = (here, rest)
kept_if P false e l here rest = rest

each_kept : (P : Entry → Type 0) (l : List Entry) → Each P l → Each P (entered l)
each_kept P [] all = tt
each_kept P (e ∷ l) all = kept_if P (is_stored e.body) e (entered l) all.0 (each_kept P l all.1)

-- ---- numbers that are apart

abbrev Apart : List Entry → Type 0
Apart [] = Unit {0}
Apart (e ∷ l) = Each (λ d. d.who ≢ e.who) l × Apart l

-- all but the first of this number
abbrev without_if : Bool → Entry → List Entry → List Entry → List Entry
without_if true e l rest = l
without_if false e l rest = e ∷ rest

abbrev without : ℕ → List Entry → List Entry
without k [] = []
without k (e ∷ l) = without_if (e.who == k) e l (without k l)

less_if : (b : Bool) (e : Entry) (l rest : List Entry) → length l ≤ length rest + 1 → length (e ∷ l) ≤ length (without_if b e l rest) + 1
less_if true e l rest less = omega arith
less_if false e l rest less = omega arith

one_less : (k : ℕ) (l : List Entry) → length l ≤ length (without k l) + 1
one_less k [] = omega arith
one_less k (e ∷ l) = less_if (e.who == k) e l (without k l) (one_less k l)

without_each : (P : Entry → Type 0) (b : Bool) (e : Entry) (l rest : List Entry) → Each P (e ∷ l) → Each P rest → Each P (without_if b e l rest)
without_each P true e l rest all less = all.1
without_each P false e l rest all less = (all.0, less)

each_without : (P : Entry → Type 0) (k : ℕ) (l : List Entry) → Each P l → Each P (without k l)
each_without P k [] all = tt
each_without P k (e ∷ l) all = without_each P (e.who == k) e l (without k l) all (each_without P k l all.1)

without_apart : (b : Bool) (e : Entry) (l rest : List Entry) → Apart l → Each (λ d. d.who ≢ e.who) rest → Apart rest → Apart (without_if b e l rest)
without_apart true e l rest all here less = all
without_apart false e l rest all here less = (here, less)

apart_without : (k : ℕ) (l : List Entry) → Apart l → Apart (without k l)
apart_without k [] all = tt
apart_without k (e ∷ l) all = without_apart (e.who == k) e l (without k l) all.1 (each_without (λ d. d.who ≢ e.who) k l all.0) (apart_without k l all.1)

gone_if : (k : ℕ) (b : Bool) (e : Entry) (l rest : List Entry) → (e.who == k) ≡ b → Apart (e ∷ l) → Each (λ d. d.who ≢ k) rest → Each (λ d. d.who ≢ k) (without_if b e l rest)
gone_if k true e l rest is all less = each_map (λ d. d.who ≢ e.who) (λ d. d.who ≢ k) l (λ d other same. other (same ∙ sym (eqb-true e.who k is))) all.0
gone_if k false e l rest is all less = ((λ same. absurd (cc (eq-eqb e.who k same, is))), less)

gone : (k : ℕ) (l : List Entry) → Apart l → Each (λ d. d.who ≢ k) (without k l)
gone k [] all = tt
gone k (e ∷ l) all = gone_if k (e.who == k) e l (without k l) refl all (gone k l all.1)

abbrev IsLane : ℕ → Entry → Type 0
IsLane most e = (1 ≤ e.who) × (e.who ≤ most)

few_apart : (most : ℕ) (l : List Entry) → Each (IsLane most) l → Apart l → length l ≤ most
few_apart zero [] all apart = omega arith
few_apart zero (e ∷ l) all apart = (let low = all.0.0 in let high = all.0.1 in absurd (omega arith))
few_apart (suc m) l all apart =
    let lanes = each_map (λ e. IsLane (suc m) e × (e.who ≢ suc m)) (IsLane m) (without (suc m) l)
    (λ e h. let low = h.0.0 in let high = h.0.1 in let other = h.1 in (low, omega arith))
    (each_both (IsLane (suc m)) (λ e. e.who ≢ suc m) (without (suc m) l) (each_without (IsLane (suc m)) (suc m) l all) (gone (suc m) l apart)) in
    let few = few_apart m (without (suc m) l) lanes (apart_without (suc m) l apart) in
    let more = one_less (suc m) l in omega arith

-- ---- those past the first n

abbrev past : ℕ → List Entry → List Entry
past zero l = l
past (suc n) [] = []
past (suc n) (e ∷ l) = past n l

past_length : (n : ℕ) (l : List Entry) → length l ≤ n + length (past n l)
past_length zero l = omega arith
past_length (suc n) [] = omega arith
past_length (suc n) (e ∷ l) = (let more = past_length n l in omega arith)

each_past : (P : Entry → Type 0) (n : ℕ) (l : List Entry) → Each P l → Each P (past n l)
each_past P zero l all = all
each_past P (suc n) [] all = tt
each_past P (suc n) (e ∷ l) all = each_past P n l all.1

each_behind : (P : Entry → Type 0) (n : ℕ) (a b : List Entry) → length a ≤ n → Each P b → Each P (past n (a ++ b))
each_behind P n [] b few all = each_past P n b all
each_behind P zero (e ∷ a) b few all = absurd (omega arith)
each_behind P (suc n) (e ∷ a) b few all = each_behind P n a b (omega arith) all

abbrev AreApartFrom : ℕ → List Entry → Type 0
AreApartFrom n l = (i j : ℕ) (d e : Entry) → n ≤ i → i < j → get_elem? l i ≡ some d → get_elem? l j ≡ some e → e.who ≢ 0 → d.who ≢ e.who

apart_all : (l : List Entry) → Each (λ e. 1 ≤ e.who) l → AreApartFrom 0 l → Apart l
apart_all [] some_seat apart = tt
apart_all (e ∷ l) some_seat apart = (
  each_map (λ d. (1 ≤ d.who) × (d.who ≢ 0 → e.who ≢ d.who)) (λ d. d.who ≢ e.who) l (λ d h same. h.1 (let low = h.0 in omega arith) (sym same))
      (each_both (λ d. 1 ≤ d.who) (λ d. d.who ≢ 0 → e.who ≢ d.who) l some_seat.1 (each_at (λ d. d.who ≢ 0 → e.who ≢ d.who) l (λ i d at. apart zero (suc i) e d (omega arith) (omega arith) refl at))),
  apart_all l some_seat.1 (λ i j d x from less at_i at_j. apart (suc i) (suc j) d x (omega arith) (omega arith) at_i at_j),
)

apart_past : (n : ℕ) (l : List Entry) → Each (λ e. 1 ≤ e.who) (past n l) → AreApartFrom n l → Apart (past n l)
apart_past zero l seats apart = apart_all l seats apart
apart_past (suc n) [] seats apart = tt
apart_past (suc n) (e ∷ l) seats apart = apart_past n l seats (λ i j d x from less at_i at_j. apart (suc i) (suc j) d x (omega arith) (omega arith) at_i at_j)

-- ---- entries of the lead

none_here : (b : Bool) (e : Entry) (rest : List Entry) → cond b (e ∷ rest) rest ≡ [] → (b ≡ false) × (rest ≡ [])
none_here true e rest none = absurd (cc none)
none_here false e rest none = (refl, none)

of_others : (l : List Entry) → entries_by 0 l ≡ [] → Each (λ e. 1 ≤ e.who) l
of_others [] none = tt
of_others (e ∷ l) none = (by (e.who) refl, of_others l (none_here (e.who == 0) e (entries_by 0 l) none).1)
  where
    by : (n : ℕ) → e.who ≡ n → 1 ≤ e.who
    by zero is = absurd (cc (eq-eqb e.who 0 is, (none_here (e.who == 0) e (entries_by 0 l) none).0))
    by (suc n) is = omega arith

cancel : (a b : List Entry) → a ++ b ≡ a → b ≡ []
cancel a [] same = refl
cancel a (e ∷ b) same = (let long = ap (λ (l : List Entry). length l) same in absurd (omega (arith, length-append a (e ∷ b))))

few_if : (b : Bool) (e : Entry) (a l : List Entry) → length a ≤ length l → length (cond b (e ∷ a) a) ≤ length (e ∷ l)
few_if true e a l few = omega arith
few_if false e a l few = omega arith

few_entered : (l : List Entry) → length (entered l) ≤ length l
few_entered [] = omega arith
few_entered (e ∷ l) = few_if (is_stored e.body) e (entered l) l (few_entered l)

as_many : (b : Bool) (e : Entry) (bs : List Body) (l : List Entry) → length bs ≡ length l → length (cond b (e.body ∷ bs) bs) ≡ length (cond b (e ∷ l) l)
as_many true e bs l same = omega arith
as_many false e bs l same = same

bodies_entered : (l : List Entry) → length (bodies l) ≡ length (entered l)
bodies_entered [] = refl
bodies_entered (e ∷ l) = as_many (is_stored e.body) e (bodies l) (entered l) (bodies_entered l)

pub few_waiting : (opened h : List Entry) (n lanes : ℕ) → IsPrefix opened h → entries_by 0 h ≡ entries_by 0 opened → length opened ≤ n → All (λ (e : Entry). e.who ≤ lanes) h → AreLast h n → length (bodies h) ≤ n + lanes
few_waiting opened h n lanes begins own few seats last =
    let more = begins.0 in
    let split : entered h ≡ entered opened ++ entered more = ap entered (sym begins.1) ∙ filter-append (λ (e : Entry). is_stored e.body) opened more in
    let others : entries_by 0 more ≡ [] = cancel (entries_by 0 opened) (entries_by 0 more) (sym (filter-append (λ (e : Entry). e.who == 0) opened more) ∙ (ap (entries_by 0) begins.1 ∙ own)) in
    let first : length (entered opened) ≤ n = (let less = few_entered opened in omega arith) in
    let low : Each (λ e. 1 ≤ e.who) (past n (entered h)) = subst (λ (l : List Entry). Each (λ e. 1 ≤ e.who) (past n l)) (sym split) (each_behind (λ e. 1 ≤ e.who) n (entered opened) (entered more) first (each_kept (λ e. 1 ≤ e.who) more (of_others more others))) in
    let high : Each (λ e. e.who ≤ lanes) (past n (entered h)) = each_past (λ e. e.who ≤ lanes) n (entered h) (each_kept (λ e. e.who ≤ lanes) h (each_all (λ e. e.who ≤ lanes) h seats)) in
    let waiting = few_apart lanes (past n (entered h)) (each_both (λ e. 1 ≤ e.who) (λ e. e.who ≤ lanes) (past n (entered h)) low high) (apart_past n (entered h) low last.apart) in
    let all = past_length n (entered h) in
    let count = bodies_entered h in omega arith
