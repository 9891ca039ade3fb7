-- What every list of steps keeps: the history is legal, and each acknowledged entry stands at its log number.
use Rattle.std.proofs.Common.{◌<◌, ◌+◌, ◌≤◌, length-append, arith, ◌≡◌, ℕ, zero, suc, Bool, true, false, cond, List, [], ◌∷◌, ◌++◌, ◌||◌, map, take, drop, length, refl, sym, ap, subst, ◌∙◌}
use Rattle.std.specs.Prelude.{◌&&◌, not, filter, is_none, Option, None, Some, Result, Ok, Err, slice_get, find, bytes_eq, nat_lt, ◌==◌, option_map, unwrap_or, if◌then◌else◌}
use mathlib.Core.Bool.{true≢false}
use Rattle.std.specs.List.{AllByRecursion}
use Rattle.std.specs.Option.{option_and_then, option_map_or}
use Rattle.std.proofs.lemmas.Bool.{and_parts, eqb-true, eqb-false, ltb-true, not-true}
use Rattle.std.proofs.lemmas.List.{map-append, length-take, take-append-drop}
use Rattle.std.proofs.lemmas.List.Folds.{list_any-append}
use Rattle.history_model.specs.History.{Body, Content, Whole, Change, Book, Land, Policy, Fault, Entry, is_breaking, is_stored, unnumbered, bodies, is_down}
use Rattle.history_model.specs.Journal.{Header}
use Rattle.reply_model.specs.Reply.{is_ask, Ask, Refusal, Granted, Judged, judge}
use Rattle.reply_model.specs.Legal.{MayFollow, GoesOn, IsLegal}
use Rattle.core_model.specs.Core.{Once, set_for, no_numbers, State, Step, Sealing, Stage, Written, Flushed, Opened, PlanLanding, Exchange, Look, LayContent, WriteGroup, SyncGroup, OpenGate, Seal, Acknowledge, TakeJob, Settle, Crash, is_left_over, is_as_planned, entry_of, entered, exchanged, added, sealed_alone, broken, come_to, group_sealed, group_end, laid, written, device_call, acknowledged_with, answer, may_be_kept, kept_of, opened, reopened, settled_with, job_of, when, after_step, after_steps}
use Rattle.manifest_model.specs.Manifests.{Job, derive}
use Rattle.byte_fields.proofs.Lists.{weaker, all_push, all_filter}
use Rattle.reply_model.proofs.Granted.{MakesStored, judge_stored, follows_granted}
use Rattle.reply_model.proofs.Histories.{bodies-append, IsLegal-push}
use Rattle.reply_model.proofs.Stored.{granted_is_up, IsLegal-stored}

-- ---- what holds of a state

abbrev StandsAt : List Entry → ℕ × Body → Type 0
StandsAt h a = slice_get (bodies h) a.0 ≡ Some a.1

-- ---- entries keep their places

pub get_front : {X : Type 0} (xs ys : List X) (n : ℕ) (x : X) → slice_get xs n ≡ Some x → slice_get (xs ++ ys) n ≡ Some x
get_front [] ys n x e = absurd cc
get_front (y ∷ xs) ys zero x e = e
get_front (y ∷ xs) ys (suc n) x e = get_front xs ys n x e

still_stand : (h g : List Entry) (acks : List (ℕ × Body)) → AllByRecursion (StandsAt h) acks → AllByRecursion (StandsAt (h ++ g)) acks
still_stand h g acks all = weaker (StandsAt h) (StandsAt (h ++ g)) (λ a e. ap (λ bs. slice_get bs a.0) (bodies-append h g) ∙ get_front (bodies h) (bodies g) a.0 a.1 e) acks all

-- of all entries up to this one
pub get_take : {X : Type 0} (xs : List X) (k n : ℕ) (x : X) → k < n → slice_get xs k ≡ Some x → slice_get (take n xs) k ≡ Some x
get_take [] k n x less e = absurd cc
get_take (y ∷ xs) k zero x less e = absurd (omega arith)
get_take (y ∷ xs) zero (suc n) x less e = e
get_take (y ∷ xs) (suc k) (suc n) x less e = get_take xs k n x (omega arith) e

-- ---- log numbers

-- no entry with this number is acknowledged
abbrev IsFree : List (ℕ × Body) → ℕ → Type 0
IsFree acks n = AllByRecursion (λ a. a.0 ≡ n → ⊥) acks

-- the number isn't among these
abbrev IsOther : List ℕ → ℕ → Type 0
IsOther numbers n = AllByRecursion (λ m. m ≡ n → ⊥) numbers

abbrev AreDistinct : List ℕ → Type 0
AreDistinct [] = Unit {0}
AreDistinct (n ∷ numbers) = IsOther numbers n × AreDistinct numbers

-- the waiting numbers are of stored entries, each of one seat, once, and not acknowledged, and none is acknowledged twice
record Numbers (h : List Entry) (waiting : ℕ → List ℕ) (acks : List (ℕ × Body)) : Type 0 where
  below : (w : ℕ) → AllByRecursion (λ n. n < length (bodies h)) (waiting w)
  free : (w : ℕ) → AllByRecursion (IsFree acks) (waiting w)
  distinct : (w : ℕ) → AreDistinct (waiting w)
  apart : (w v : ℕ) → (w ≡ v → ⊥) → AllByRecursion (IsOther (waiting v)) (waiting w)
  once : Once acks

get_below : {X : Type 0} (xs : List X) (n : ℕ) (x : X) → slice_get xs n ≡ Some x → n < length xs
get_below [] n x e = absurd cc
get_below (y ∷ xs) zero x e = omega arith
get_below (y ∷ xs) (suc n) x e = let rest = get_below xs n x e in omega arith

longer : (h g : List Entry) → length (bodies h) ≤ length (bodies (h ++ g))
longer h g = let sum = length-append (bodies h) (bodies g) in let same = ap length (bodies-append h g) in omega arith

below_more : (n m : ℕ) → n ≤ m → (numbers : List ℕ) → AllByRecursion (λ k. k < n) numbers → AllByRecursion (λ k. k < m) numbers
below_more n m le numbers all = weaker (λ k. k < n) (λ k. k < m) (λ k less. omega arith) numbers all

numbers_grow : (h g : List Entry) (u : ℕ → List ℕ) (acks : List (ℕ × Body)) → Numbers h u acks → Numbers (h ++ g) u acks
numbers_grow h g u acks k = record {
  below = λ w. below_more (length (bodies h)) (length (bodies (h ++ g))) (longer h g) (u w) (k.below w);
  free = k.free;
  distinct = k.distinct;
  apart = k.apart;
  once = k.once;
}

numbers_none : (h : List Entry) (acks : List (ℕ × Body)) → Once acks → Numbers h no_numbers acks
numbers_none h acks once = record {
  below = λ w. tt;
  free = λ w. tt;
  distinct = λ w. tt;
  apart = λ w v other. tt;
  once = once;
}

-- of one seat or of another
pub seat_case : (P : List ℕ → Type 0) (who w : ℕ) (x : List ℕ) (u : ℕ → List ℕ) → (w ≡ who → P x) → ((w ≡ who → ⊥) → P (u w)) → P (set_for who x u w)
seat_case P who w x u mine other = by (w == who) refl
  where
    by : (b : Bool) → (w == who) ≡ b → P (cond b x (u w))
    by true h = mine (eqb-true w who h)
    by false h = other (eqb-false w who h)

all_two : {X : Type 0} (P Q R : X → Type 0) → ((x : X) → P x → Q x → R x) → (xs : List X) → AllByRecursion P xs → AllByRecursion Q xs → AllByRecursion R xs
all_two P Q R f [] p q = tt
all_two P Q R f (x ∷ xs) p q = (f x p.0 q.0, all_two P Q R f xs p.1 q.1)

distinct_push : (numbers : List ℕ) (n : ℕ) → AreDistinct numbers → AllByRecursion (λ k. k < n) numbers → AreDistinct (numbers ++ n ∷ [])
distinct_push [] n d less = (tt, tt)
distinct_push (m ∷ numbers) n d less = (
  all_push (λ k. k ≡ m → ⊥) numbers n d.0 (λ same. (let lt = less.0 in omega arith)),
  distinct_push numbers n d.1 less.1,
)

other_than : (numbers : List ℕ) (n : ℕ) → AllByRecursion (λ k. k < n) numbers → IsOther numbers n
other_than numbers n less = weaker (λ k. k < n) (λ k. k ≡ n → ⊥) (λ k lt same. omega arith) numbers less

distinct_filter : (t : ℕ → Bool) (numbers : List ℕ) → AreDistinct numbers → AreDistinct (filter t numbers)
distinct_filter t [] d = tt
distinct_filter t (n ∷ numbers) d = by (t n) (distinct_filter t numbers d.1)
  where
    by : (b : Bool) → AreDistinct (filter t numbers) → AreDistinct (cond b (n ∷ filter t numbers) (filter t numbers))
    by true rest = (all_filter (λ m. m ≡ n → ⊥) t numbers d.0, rest)
    by false rest = rest

pub one_more : (h : List Entry) (who : ℕ) (body : Body) → is_stored body ≡ true → length (bodies (h ++ record { who = who; body = body } ∷ [])) ≡ length (bodies h) + 1
one_more h who body s =
    ap length (bodies-append h (record { who = who; body = body } ∷ []) ∙ (λ i. bodies h ++ cond (s i) (body ∷ []) []))
    ∙ length-append (bodies h) (body ∷ [])

acks_free : (h : List Entry) (n : ℕ) (acks : List (ℕ × Body)) → length (bodies h) ≤ n → AllByRecursion (StandsAt h) acks → IsFree acks n
acks_free h n acks le stand = weaker (StandsAt h) (λ a. a.0 ≡ n → ⊥) (λ a stands same. (let lt = get_below (bodies h) a.0 a.1 stands in omega arith)) acks stand

module _ (h : List Entry) (who : ℕ) (body : Body) (u : ℕ → List ℕ) (acks : List (ℕ × Body)) (s : is_stored body ≡ true) (stand : AllByRecursion (StandsAt h) acks) (k : Numbers h u acks) where
  abbrev new : ℕ
  new = length (bodies h)

  abbrev now : List Entry
  now = h ++ record { who = who; body = body } ∷ []

  abbrev mine_now : List ℕ
  mine_now = u who ++ new ∷ []

  grown : length (bodies now) ≡ new + 1
  grown = one_more h who body s

  more_below : (w : ℕ) → AllByRecursion (λ n. n < length (bodies now)) (u w)
  more_below w = below_more new (length (bodies now)) (let g = grown in omega arith) (u w) (k.below w)

  apart_mine : (v : ℕ) → (v ≡ who → ⊥) → AllByRecursion (IsOther (u v)) mine_now
  apart_mine v other = all_push (IsOther (u v)) (u who) new (k.apart who v (λ same. other (sym same))) (other_than (u v) new (k.below v))

  apart_other : (w : ℕ) → (w ≡ who → ⊥) → AllByRecursion (IsOther mine_now) (u w)
  apart_other w other = all_two (λ n. n < new) (IsOther (u who)) (IsOther mine_now) (λ n less is. all_push (λ m. m ≡ n → ⊥) (u who) new is (λ same. omega arith)) (u w) (k.below w) (k.apart w who other)

  numbers_sealed : Numbers now (set_for who mine_now u) acks
  numbers_sealed = record {
    below = λ w. seat_case (AllByRecursion (λ n. n < length (bodies now))) who w mine_now u (λ _. all_push (λ n. n < length (bodies now)) (u who) new (more_below who) (let g = grown in omega arith)) (λ _. more_below w);
    free = λ w. seat_case (AllByRecursion (IsFree acks)) who w mine_now u (λ _. all_push (IsFree acks) (u who) new (k.free who) (acks_free h new acks (omega arith) stand)) (λ _. k.free w);
    distinct = λ w. seat_case AreDistinct who w mine_now u (λ _. distinct_push (u who) new (k.distinct who) (k.below who)) (λ _. k.distinct w);
    apart = λ w v differ. seat_case (λ ns. AllByRecursion (IsOther (set_for who mine_now u v)) ns) who w mine_now u
        (λ mine. seat_case (λ ms. AllByRecursion (IsOther ms) mine_now) who v mine_now u (λ his. absurd (differ (mine ∙ sym his))) (apart_mine v))
        (λ other. seat_case (λ ms. AllByRecursion (IsOther ms) (u w)) who v mine_now u (λ _. apart_other w other) (λ _. k.apart w v differ));
    once = k.once;
  }

once_push : (acks : List (ℕ × Body)) (n : ℕ) (body : Body) → Once acks → AllByRecursion (λ a. a.0 ≡ n → ⊥) acks → Once (acks ++ (n, body) ∷ [])
once_push [] n body once free = (tt, tt)
once_push (a ∷ acks) n body once free = (
  all_push {X = ℕ × Body} (λ b. b.0 ≡ a.0 → ⊥) acks (n, body) once.0 (λ same. free.0 (sym same)),
  once_push acks n body once.1 free.1,
)

module _ (h : List Entry) (who number : ℕ) (rest : List ℕ) (body : Body) (u : ℕ → List ℕ) (acks : List (ℕ × Body)) (at : u who ≡ number ∷ rest) (k : Numbers h u acks) where
  abbrev with_this : List (ℕ × Body)
  with_this = acks ++ (number, body) ∷ []

  mine_free : AllByRecursion (IsFree acks) (number ∷ rest)
  mine_free = subst (AllByRecursion (IsFree acks)) at (k.free who)

  mine_distinct : AreDistinct (number ∷ rest)
  mine_distinct = subst AreDistinct at (k.distinct who)

  still_free : (n : ℕ) → IsFree acks n → (number ≡ n → ⊥) → IsFree with_this n
  still_free n free other = all_push {X = ℕ × Body} (λ a. a.0 ≡ n → ⊥) acks (number, body) free other

  others_apart : (w : ℕ) → (w ≡ who → ⊥) → AllByRecursion (IsOther (number ∷ rest)) (u w)
  others_apart w other = subst (λ ns. AllByRecursion (IsOther ns) (u w)) at (k.apart w who other)

  numbers_answered : Numbers h (set_for who rest u) with_this
  numbers_answered = record {
    below = λ w. seat_case (AllByRecursion (λ n. n < length (bodies h))) who w rest u (λ _. (subst (AllByRecursion (λ n. n < length (bodies h))) at (k.below who)).1) (λ _. k.below w);
    free = λ w. seat_case (AllByRecursion (IsFree with_this)) who w rest u
        (λ _. all_two (IsFree acks) (λ n. n ≡ number → ⊥) (IsFree with_this) (λ n free other. still_free n free (λ same. other (sym same))) rest mine_free.1 mine_distinct.0)
        (λ other. all_two (IsFree acks) (IsOther (number ∷ rest)) (IsFree with_this) (λ n free apart. still_free n free apart.0) (u w) (k.free w) (others_apart w other));
    distinct = λ w. seat_case AreDistinct who w rest u (λ _. mine_distinct.1) (λ _. k.distinct w);
    apart = λ w v differ. seat_case (λ ns. AllByRecursion (IsOther (set_for who rest u v)) ns) who w rest u
        (λ mine. seat_case (λ ms. AllByRecursion (IsOther ms) rest) who v rest u (λ his. absurd (differ (mine ∙ sym his)))
        (λ other. (subst (AllByRecursion (IsOther (u v))) at (k.apart who v (λ same. other (sym same)))).1))
        (λ other. seat_case (λ ms. AllByRecursion (IsOther ms) (u w)) who v rest u
        (λ _. weaker (IsOther (number ∷ rest)) (IsOther rest) (λ n apart. apart.1) (u w) (others_apart w other))
        (λ _. k.apart w v differ));
    once = once_push acks number body k.once mine_free.0;
  }

-- While entries are pending, and while they are sealed, no breaking fault is held
abbrev UpFact : List Entry → ℕ → Option Sealing → Type 0
UpFact h n None = n < length (bodies h) → is_down h ≡ false
UpFact h n (Some r) = is_left_over r.stage ≡ false → is_down h ≡ false

pub record Kept (header : Header) (s : State) : Type 0 where
  pub legal : IsLegal header s.history
  -- what is sealed, where the group ends, and what is stored
  least : s.sealed ≤ group_end s
  most : group_end s ≤ length (bodies s.history)
  up : UpFact s.history s.sealed s.sealing
  acknowledged : AllByRecursion (StandsAt s.history) s.acknowledged
  -- what is acknowledged is sealed
  first : AllByRecursion (λ (a : ℕ × Body). a.0 < s.sealed) s.acknowledged
  numbers : Numbers s.history s.waiting s.acknowledged

-- ---- who waits

numbers_alone : (h : List Entry) (n : ℕ) (u : ℕ → List ℕ) (acks : List (ℕ × Body)) → Numbers h u acks → Numbers h (λ seat. sealed_alone n (u seat)) acks
numbers_alone h n u acks k =
    let t : ℕ → Bool = λ number. nat_lt number n in
    record {
      below = λ w. all_filter (λ m. m < length (bodies h)) t (u w) (k.below w);
      free = λ w. all_filter (IsFree acks) t (u w) (k.free w);
      distinct = λ w. distinct_filter t (u w) (k.distinct w);
      apart = λ w v differ. all_filter (IsOther (filter t (u v))) t (u w) (weaker (IsOther (u v)) (IsOther (filter t (u v))) (λ m other. all_filter (λ j. j ≡ m → ⊥) t (u v) other) (u w) (k.apart w v differ));
      once = k.once;
    }

-- ---- breaking faults

down_push : (h : List Entry) (e : Entry) → is_breaking e.body ≡ false → is_down h ≡ false → is_down (h ++ e ∷ []) ≡ false
down_push h e calm up = list_any-append (λ (x : Entry). is_breaking x.body) h (e ∷ []) ∙ (λ i. up i || (calm i || false))

-- an entry may be made only where no breaking fault is held, and is none
made_is_calm : (body : Body) → is_stored body ≡ true → is_breaking body ≡ false
made_is_calm (Content x n) s = refl
made_is_calm (Whole x n parts) s = refl
made_is_calm (Policy caller text) s = refl
made_is_calm (Change c) s = refl
made_is_calm (Book move) s = refl
made_is_calm (Land landing) s = refl
made_is_calm (Fault breaking) s = absurd (true≢false (sym s))

-- a fault that isn't breaking changes nothing here
up_fault : (h : List Entry) (who n : ℕ) (o : Option Sealing) → UpFact h n o → UpFact (h ++ record { who = who; body = Fault false } ∷ []) n o
up_fault h who n None fact = λ less. down_push h (record { who = who; body = Fault false }) refl (fact (let same = ap length (bodies-append h (record { who = who; body = Fault false } ∷ [])) in let sum = length-append (bodies h) [] in omega arith))
up_fault h who n (Some r) fact = λ busy. down_push h (record { who = who; body = Fault false }) refl (fact busy)

-- ---- each step

pub some_is : (s t : State) → ◌≡◌ {A = Option State} (Some s) (Some t) → s ≡ t
some_is s t e = ap (λ o. unwrap_or o s) e

pub when_ok : (b : Bool) (s t : State) → when b s ≡ Some t → (b ≡ true) × (s ≡ t)
when_ok true s t e = (refl, some_is s t e)
when_ok false s t e = absurd cc

choose : (header : Header) (b : Bool) (s t : State) → Kept header s → Kept header t → Kept header (cond b s t)
choose header true s t k l = k
choose header false s t k l = l

fault_kept : (header : Header) (s : State) (who : ℕ) → Kept header s → Kept header (added who (Fault false) s)
fault_kept header s who k = record {
  legal = (IsLegal-push header s.history (record { who = who; body = Fault false })).1 (k.legal, refl);
  least = k.least;
  most = (let more = longer s.history (record { who = who; body = Fault false } ∷ []) in let old = k.most in omega arith);
  up = up_fault s.history who s.sealed s.sealing k.up;
  acknowledged = still_stand s.history _ s.acknowledged k.acknowledged;
  first = k.first;
  numbers = numbers_grow s.history (record { who = who; body = Fault false } ∷ []) s.waiting s.acknowledged k.numbers;
}

-- an entry that is made is pending
entered_kept : (header : Header) (s : State) (who : ℕ) (body : Body) → MayFollow header s.history body → is_stored body ≡ true → is_down s.history ≡ false → UpFact (s.history ++ record { who = who; body = body } ∷ []) s.sealed s.sealing → Kept header s → Kept header (entered who (Some body) s)
entered_kept header s who body follows stored up fact k = record {
  legal = (IsLegal-push header s.history (record { who = who; body = body })).1 (k.legal, follows);
  least = k.least;
  most = (let more = longer s.history (record { who = who; body = body } ∷ []) in let old = k.most in omega arith);
  up = fact;
  acknowledged = still_stand s.history _ s.acknowledged k.acknowledged;
  first = k.first;
  numbers = numbers_sealed s.history who body s.waiting s.acknowledged stored k.acknowledged k.numbers;
}

up_entered : (h : List Entry) (who : ℕ) (body : Body) (n : ℕ) (o : Option Sealing) → is_stored body ≡ true → is_down h ≡ false → UpFact (h ++ record { who = who; body = body } ∷ []) n o
up_entered h who body n None stored up = λ less. down_push h (record { who = who; body = body }) (made_is_calm body stored) up
up_entered h who body n (Some r) stored up = λ busy. down_push h (record { who = who; body = body }) (made_is_calm body stored) up

exchanged_by : (header : Header) (s : State) (who : ℕ) (ask : Ask) → is_ask s.history ask ≡ true → (granted : Granted) (made : Option Body) → judge header s.history ask ≡ Ok (record { granted = granted; made = made }) → Kept header s → Kept header (entered who made s)
exchanged_by header s who ask a granted None e k = k
exchanged_by header s who ask a granted (Some body) e k =
    let stored : is_stored body ≡ true = subst MakesStored e (judge_stored header s.history ask) body refl in
    let up = granted_is_up header s.history ask _ e in
    entered_kept header s who body (follows_granted header s.history ask granted body a stored e) stored up (up_entered s.history who body s.sealed s.sealing stored up) k

exchanged_of : (header : Header) (s : State) (who : ℕ) (ask : Ask) → is_ask s.history ask ≡ true → (r : Result Judged Refusal) → judge header s.history ask ≡ r → Kept header s → Kept header (entered who (entry_of r) s)
exchanged_of header s who ask a (Ok judged) e k = exchanged_by header s who ask a judged.granted judged.made e k
exchanged_of header s who ask a (Err refusal) e k = k

unplanned_kept : (header : Header) (s : State) (who : ℕ) → Kept header s → Kept header (record s { plan = set_for who None s.plan })
unplanned_kept header s who k = record { legal = k.legal; least = k.least; most = k.most; up = k.up; acknowledged = k.acknowledged; first = k.first; numbers = k.numbers }

exchanged_kept : (header : Header) (s : State) (who : ℕ) (ask : Ask) → is_ask s.history ask ≡ true → Kept header s → Kept header (exchanged header s who ask)
exchanged_kept header s who ask a k =
    choose header (is_as_planned s.history (s.plan who) ask) (entered who (entry_of (judge header s.history ask)) s) (record s { plan = set_for who None s.plan })
    (exchanged_of header s who ask a (judge header s.history ask) refl k) (unplanned_kept header s who k)

-- with a group that ends behind what is sealed, within what is stored
broken_kept : (header : Header) (s : State) (who upto : ℕ) (opening : Bool) → is_down s.history ≡ false → s.sealed ≤ upto → upto ≤ length (bodies s.history) → Kept header s → Kept header (broken who upto opening s)
broken_kept header s who upto opening up least most k = record {
  legal = (IsLegal-push header s.history (record { who = who; body = Fault true })).1 (k.legal, up);
  least = least;
  most = (let more = longer s.history (record { who = who; body = Fault true } ∷ []) in omega arith);
  up = λ no. absurd (true≢false no);
  acknowledged = still_stand s.history _ s.acknowledged k.acknowledged;
  first = k.first;
  numbers = numbers_grow s.history (record { who = who; body = Fault true } ∷ []) (λ seat. sealed_alone s.sealed (s.waiting seat)) s.acknowledged (numbers_alone s.history s.sealed s.waiting s.acknowledged k.numbers);
}

come_kept : (header : Header) (s : State) (upto : ℕ) (stage : Stage) → is_down s.history ≡ false → s.sealed ≤ upto → upto ≤ length (bodies s.history) → Kept header s → Kept header (come_to upto stage s)
come_kept header s upto stage up least most k = record { legal = k.legal; least = least; most = most; up = λ busy. up; acknowledged = k.acknowledged; first = k.first; numbers = k.numbers }

all_below : (n m : ℕ) → n ≤ m → (acks : List (ℕ × Body)) → AllByRecursion (λ (a : ℕ × Body). a.0 < n) acks → AllByRecursion (λ (a : ℕ × Body). a.0 < m) acks
all_below n m le acks all = weaker (λ (a : ℕ × Body). a.0 < n) (λ (a : ℕ × Body). a.0 < m) (λ a less. omega arith) acks all

group_sealed_kept : (header : Header) (s : State) (upto : ℕ) → is_down s.history ≡ false → s.sealed ≤ upto → upto ≤ length (bodies s.history) → Kept header s → Kept header (group_sealed upto s)
group_sealed_kept header s upto up least most k = record {
  legal = k.legal;
  least = omega arith;
  most = most;
  up = λ less. up;
  acknowledged = k.acknowledged;
  first = all_below s.sealed upto least s.acknowledged k.first;
  numbers = k.numbers;
}

call_kept : (header : Header) (step : Step) (upto : ℕ) (stage : Stage) (s t : State) → (is_left_over stage ≡ false → is_down s.history ≡ false) → s.sealed ≤ upto → upto ≤ length (bodies s.history) → Kept header s → device_call step upto stage s ≡ Some t → Kept header t
call_kept header (SyncGroup who done) upto Written s t up least most k e =
    subst (Kept header) (some_is _ t e) (choose header done (come_to upto Flushed s) (broken who upto false s) (come_kept header s upto Flushed (up refl) least most k) (broken_kept header s who upto false (up refl) least most k))
call_kept header (OpenGate who done) upto Flushed s t up least most k e =
    subst (Kept header) (some_is _ t e) (choose header done (come_to upto Opened s) (broken who upto true s) (come_kept header s upto Opened (up refl) least most k) (broken_kept header s who upto true (up refl) least most k))
call_kept header (Seal who done) upto Opened s t up least most k e =
    subst (Kept header) (some_is _ t e) (choose header done (group_sealed upto s) (broken who upto true s) (group_sealed_kept header s upto (up refl) least most k) (broken_kept header s who upto true (up refl) least most k))
call_kept header step upto stage s t up least most k e = absurd cc

-- where the group ends, as the sealing tells it
end_is : (s : State) (r : Sealing) → s.sealing ≡ Some r → group_end s ≡ r.upto
end_is s r e = ap (λ o. option_map_or (λ r. r.upto) o s.sealed) e

seals_kept : (header : Header) (step : Step) (s t : State) (o : Option Sealing) → s.sealing ≡ o → UpFact s.history s.sealed o → Kept header s → option_and_then (λ r. device_call step r.upto r.stage s) o ≡ Some t → Kept header t
seals_kept header step s t None is up k e = absurd cc
seals_kept header step s t (Some r) is up k e = call_kept header step r.upto r.stage s t up (subst (λ n. s.sealed ≤ n) (end_is s r is) k.least) (subst (λ n. n ≤ length (bodies s.history)) (end_is s r is) k.most) k e

-- something is pending, and no group is being sealed or left over
begins_up : (h : List Entry) (n : ℕ) (o : Option Sealing) → is_none o ≡ true → n < length (bodies h) → UpFact h n o → is_down h ≡ false
begins_up h n None none less up = up less
begins_up h n (Some r) none less up = absurd (true≢false (sym none))

written_kept : (header : Header) (s : State) (who : ℕ) (done : Bool) → is_down s.history ≡ false → Kept header s → Kept header (written s who done)
written_kept header s who done up k =
    let all = length (bodies s.history) in
    let least = k.least in
    let most = k.most in
    choose header done (come_to all Written s) (broken who all false s) (come_kept header s all Written up (omega arith) (omega arith) k) (broken_kept header s who all false up (omega arith) (omega arith) k)

laid_kept : (header : Header) (s : State) (who : ℕ) (done : Bool) → is_down s.history ≡ false → Kept header s → Kept header (laid s who done)
laid_kept header s who done up k = choose header done s (broken who (group_end s) (may_be_kept s.sealing) s) k (broken_kept header s who (group_end s) (may_be_kept s.sealing) up k.least k.most k)

answer_by : (header : Header) (s t : State) (who number : ℕ) (rest : List ℕ) (o : Option Body) → s.waiting who ≡ number ∷ rest → number < s.sealed → slice_get (bodies s.history) number ≡ o → option_map (acknowledged_with s who number rest) o ≡ Some t → Kept header s → Kept header t
answer_by header s t who number rest None at less stands e k = absurd cc
answer_by header s t who number rest (Some body) at less stands e k =
    subst (Kept header) (some_is _ t e) (record {
      legal = k.legal;
      least = k.least;
      most = k.most;
      up = k.up;
      acknowledged = all_push (StandsAt s.history) s.acknowledged (number, body) k.acknowledged stands;
      first = all_push {X = ℕ × Body} (λ a. a.0 < s.sealed) s.acknowledged (number, body) k.first less;
      numbers = numbers_answered s.history who number rest body s.waiting s.acknowledged at k.numbers;
    })

answer_if : (header : Header) (s t : State) (who number : ℕ) (rest : List ℕ) (b : Bool) → nat_lt number s.sealed ≡ b → s.waiting who ≡ number ∷ rest → (if b then option_map (acknowledged_with s who number rest) (slice_get (bodies s.history) number) else None) ≡ Some t → Kept header s → Kept header t
answer_if header s t who number rest true is at e k = answer_by header s t who number rest (slice_get (bodies s.history) number) at (ltb-true number s.sealed is) refl e k
answer_if header s t who number rest false is at e k = absurd cc

answer_kept : (header : Header) (s t : State) (who : ℕ) (numbers : List ℕ) → s.waiting who ≡ numbers → answer s who numbers ≡ Some t → Kept header s → Kept header t
answer_kept header s t who [] at e k = absurd cc
answer_kept header s t who (number ∷ rest) at e k = answer_if header s t who number rest (nat_lt number s.sealed) refl at e k

-- ---- a crash

stored_one : (b : Body) (bs : List Body) (x : Bool) → is_stored b ≡ x → AllByRecursion (λ b. is_stored b ≡ true) bs → AllByRecursion (λ b. is_stored b ≡ true) (cond x (b ∷ bs) bs)
stored_one b bs true e all = (e, all)
stored_one b bs false e all = all

each_stored : (bs : List Body) → AllByRecursion (λ b. is_stored b ≡ true) (filter is_stored bs)
each_stored [] = tt
each_stored (b ∷ bs) = stored_one b (filter is_stored bs) (is_stored b) refl (each_stored bs)

stored_front : (n : ℕ) (bs : List Body) → AllByRecursion (λ b. is_stored b ≡ true) bs → filter is_stored (take n bs) ≡ take n bs
stored_front zero bs all = refl
stored_front (suc n) [] all = refl
stored_front (suc n) (b ∷ bs) all = (λ i. cond (all.0 i) (b ∷ filter is_stored (take n bs)) (filter is_stored (take n bs))) ∙ ap (λ xs. b ∷ xs) (stored_front n bs all.1)

bodies_again : (bs : List Body) → map (λ (e : Entry). e.body) (map unnumbered bs) ≡ bs
bodies_again [] = refl
bodies_again (b ∷ bs) = ap (λ xs. b ∷ xs) (bodies_again bs)

-- the stored entries that a crash leaves
pub bodies_left : (h : List Entry) (n : ℕ) → bodies (map unnumbered (take n (bodies h))) ≡ take n (bodies h)
bodies_left h n = ap (λ bs. filter is_stored bs) (bodies_again (take n (bodies h))) ∙ stored_front n (bodies h) (each_stored (map (λ (e : Entry). e.body) h))

goes_on_front : (header : Header) (before xs ys : List Entry) → GoesOn header before (xs ++ ys) → GoesOn header before xs
goes_on_front header before [] ys g = tt
goes_on_front header before (x ∷ xs) ys g = (g.0, goes_on_front header (before ++ x ∷ []) xs ys g.1)

legal_left : (header : Header) (h : List Entry) (n : ℕ) → IsLegal header h → IsLegal header (map unnumbered (take n (bodies h)))
legal_left header h n legal =
    goes_on_front header [] (map unnumbered (take n (bodies h))) (map unnumbered (drop n (bodies h)))
    (subst (IsLegal header) (ap (λ bs. map unnumbered bs) (sym (take-append-drop n (bodies h))) ∙ map-append unnumbered (take n (bodies h)) (drop n (bodies h))) (IsLegal-stored header h legal))

stand_left : (h : List Entry) (m n : ℕ) → m ≤ n → (acks : List (ℕ × Body)) → AllByRecursion (StandsAt h) acks → AllByRecursion (λ (a : ℕ × Body). a.0 < m) acks → AllByRecursion (StandsAt (map unnumbered (take n (bodies h)))) acks
stand_left h m n le [] all first = tt
stand_left h m n le (a ∷ acks) all first = (
  ap (λ bs. slice_get bs a.0) (bodies_left h n) ∙ get_take (bodies h) a.0 n a.1 (let less = first.0 in omega arith) all.0,
  stand_left h m n le acks all.1 first.1,
)

left_length : (h : List Entry) (n : ℕ) → n ≤ length (bodies h) → length (bodies (map unnumbered (take n (bodies h)))) ≡ n
left_length h n le = ap length (bodies_left h n) ∙ (let len = length-take n (bodies h) in omega arith)

reopened_kept : (header : Header) (s : State) (n : ℕ) → s.sealed ≤ n → n ≤ length (bodies s.history) → Kept header s → Kept header (reopened s n)
reopened_kept header s n least most k = record {
  legal = legal_left header s.history n k.legal;
  least = omega arith;
  most = omega arith;
  up = λ less. absurd (omega arith);
  acknowledged = stand_left s.history s.sealed n least s.acknowledged k.acknowledged k.first;
  first = subst (λ m. AllByRecursion (λ (a : ℕ × Body). a.0 < m) s.acknowledged) (sym (left_length s.history n most)) (all_below s.sealed n least s.acknowledged k.first);
  numbers = numbers_none (map unnumbered (take n (bodies s.history))) s.acknowledged k.numbers.once;
}

crash_by : (header : Header) (s t : State) (b : Bool) → option_map (reopened s) (if b then Some (group_end s) else None) ≡ Some t → Kept header s → Kept header t
crash_by header s t true e k = subst (Kept header) (some_is _ t e) (reopened_kept header s (group_end s) k.least k.most k)
crash_by header s t false e k = absurd cc

crash_kept : (header : Header) (s t : State) (kept : Bool) → option_map (reopened s) (kept_of s kept) ≡ Some t → Kept header s → Kept header t
crash_kept header s t false e k = subst (Kept header) (some_is _ t e) (reopened_kept header s s.sealed (omega arith) (let least = k.least in let most = k.most in omega arith) k)
crash_kept header s t true e k = crash_by header s t (may_be_kept s.sealing) e k

-- ---- jobs

taken_kept : (header : Header) (s t : State) (o : Option Job) → option_map (λ job. record s { jobs = s.jobs ++ job ∷ [] }) o ≡ Some t → Kept header s → Kept header t
taken_kept header s t None e k = absurd cc
taken_kept header s t (Some job) e k = subst (Kept header) (some_is _ t e) (record { legal = k.legal; least = k.least; most = k.most; up = k.up; acknowledged = k.acknowledged; first = k.first; numbers = k.numbers })

settled_kept : (header : Header) (s t : State) (o : Option Job) → option_map (λ job. record s { table = settled_with s.table (derive job) }) o ≡ Some t → Kept header s → Kept header t
settled_kept header s t None e k = absurd cc
settled_kept header s t (Some job) e k = subst (Kept header) (some_is _ t e) (record { legal = k.legal; least = k.least; most = k.most; up = k.up; acknowledged = k.acknowledged; first = k.first; numbers = k.numbers })

pub step_kept : (header : Header) (s t : State) (step : Step) → after_step header s step ≡ Some t → Kept header s → Kept header t
step_kept header s t (PlanLanding who name draft moment) e k = subst (Kept header) (some_is _ t e) (record { legal = k.legal; least = k.least; most = k.most; up = k.up; acknowledged = k.acknowledged; first = k.first; numbers = k.numbers })
step_kept header s t (Exchange who ask) e k =
    let w = when_ok (is_ask s.history ask) (exchanged header s who ask) t e in
    subst (Kept header) w.1 (exchanged_kept header s who ask w.0 k)
step_kept header s t (Look who done) e k = subst (Kept header) (some_is _ t e) (choose header done s (added who (Fault false) s) k (fault_kept header s who k))
step_kept header s t (LayContent who done) e k =
    let w = when_ok (not (is_down s.history)) (laid s who done) t e in
    subst (Kept header) w.1 (laid_kept header s who done (not-true (is_down s.history) w.0) k)
step_kept header s t (WriteGroup who done) e k =
    let w = when_ok (is_none s.sealing && nat_lt s.sealed (length (bodies s.history))) (written s who done) t e in
    let parts = and_parts (is_none s.sealing) (nat_lt s.sealed (length (bodies s.history))) w.0 in
    subst (Kept header) w.1 (written_kept header s who done (begins_up s.history s.sealed s.sealing parts.0 (ltb-true s.sealed (length (bodies s.history)) parts.1) k.up) k)
step_kept header s t (SyncGroup who done) e k = seals_kept header (SyncGroup who done) s t s.sealing refl k.up k e
step_kept header s t (OpenGate who done) e k = seals_kept header (OpenGate who done) s t s.sealing refl k.up k e
step_kept header s t (Seal who done) e k = seals_kept header (Seal who done) s t s.sealing refl k.up k e
step_kept header s t (Acknowledge who) e k = answer_kept header s t who (s.waiting who) refl e k
step_kept header s t (TakeJob x) e k = taken_kept header s t (job_of s x) e k
step_kept header s t (Settle x) e k = settled_kept header s t (find (λ job. bytes_eq job.changeset.id x) s.jobs) e k
step_kept header s t (Crash kept) e k = crash_kept header s t kept e k

steps_by : (header : Header) (t : State) (steps : List Step) (o : Option State) → ((s : State) → o ≡ Some s → Kept header s) → ((s : State) → after_steps header s steps ≡ Some t → Kept header s → Kept header t) → option_and_then (λ next. after_steps header next steps) o ≡ Some t → Kept header t
steps_by header t steps None first later e = absurd cc
steps_by header t steps (Some s) first later e = later s e (first s refl)

steps_kept : (header : Header) (steps : List Step) (s t : State) → after_steps header s steps ≡ Some t → Kept header s → Kept header t
steps_kept header [] s t e k = subst (Kept header) (some_is s t e) k
steps_kept header (step ∷ steps) s t e k =
    steps_by header t steps (after_step header s step) (λ next at. step_kept header s next step at k) (λ next at kept. steps_kept header steps next t at kept) e

pub started_kept : (header : Header) (h : List Entry) → IsLegal header h → Kept header (opened h)
started_kept header h legal = record { legal = legal; least = omega arith; most = omega arith; up = λ less. absurd (omega arith); acknowledged = tt; first = tt; numbers = numbers_none h [] tt }

-- whatever steps are taken from a legal history, the history stays legal, each acknowledged entry stands at its log number, and no number is acknowledged twice
pub core_keeps : (header : Header) (h : List Entry) (steps : List Step) (s : State) → IsLegal header h → after_steps header (opened h) steps ≡ Some s → IsLegal header s.history × AllByRecursion (λ a. slice_get (bodies s.history) a.0 ≡ Some a.1) s.acknowledged × Once s.acknowledged
core_keeps header h steps s legal e =
    let k = steps_kept header steps (opened h) s e (started_kept header h legal) in
    (k.legal, k.acknowledged, k.numbers.once)

-- and what is acknowledged is sealed
pub core_seals : (header : Header) (h : List Entry) (steps : List Step) (s : State) → IsLegal header h → after_steps header (opened h) steps ≡ Some s → AllByRecursion (λ (a : ℕ × Body). a.0 < s.sealed) s.acknowledged
core_seals header h steps s legal e = (steps_kept header steps (opened h) s e (started_kept header h legal)).first
