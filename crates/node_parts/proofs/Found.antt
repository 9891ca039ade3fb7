-- A name is found in one part as in all.
--     in_none, in_part      where no part's first name is as small, and in the last that has such a one
use Rattle.std.proofs.Common.{◌≡◌, ℕ, zero, suc, ◌+◌, ◌-◌, ◌≤◌, true, false, List, [], ◌∷◌, ◌++◌, length, refl, sym, ap, subst, ◌∙◌, arith, append_assoc}
use Rattle.std.specs.Prelude.{Option, Some, None, Ok}
use Rattle.std.specs.declared.cmp.Ordering.{Ordering}
use Rattle.std.specs.declared.cmp.Ordering.TheVariants.{Less, Equal, Greater}
use Rattle.std.specs.Ordering.{match_ordering, is_gt, ordering_reverse}
use Rattle.std.specs.Cmp.Lexicographic.{nat_list_cmp_total}
use Rattle.std.proofs.lemmas.List.{length-append, append-nil}
use Rattle.byte_fields.specs.Reading.{Reader}
use Rattle.node_fields.specs.Lookup.{named_in, sized}
use Rattle.node_parts.specs.Parts.{AllBelow, AreParts, IsRun, Parted, Runs, found_in, joined}
use Rattle.node_parts.specs.Finding.{IsLastTo, IsPast, is_past}
use Rattle.node_parts.proofs.Runs.{Bytes, by_name, all_runs, found_append, found_below, none_run}

-- ---- names

is_greater : (o : Ordering) → is_gt o ≡ true → o ≡ Greater
is_greater Less h = absurd (cc)
is_greater Equal h = absurd (cc)
is_greater Greater h = refl

-- what is less than a name is less than one that isn't before it
less_still : (a name n : Bytes) → by_name a name ≡ Less → is_gt (by_name name n) ≡ false → by_name a n ≡ Less
less_still a name n less reached = by (by_name name n) refl reached
  where
    by : (o : Ordering) → by_name name n ≡ o → is_gt o ≡ false → by_name a n ≡ Less
    by Less e h = nat_list_cmp_total.trans a name n less e
    by Equal e h = nat_list_cmp_total.antisymm a n ∙ ap ordering_reverse (sym (nat_list_cmp_total.congr name n a e)) ∙ sym (nat_list_cmp_total.antisymm a name) ∙ less
    by Greater e h = absurd (cc)

below_still : {X : Type 0} (es : List (Bytes × X)) (name n : Bytes) → is_gt (by_name name n) ≡ false → AllBelow es name → AllBelow es n
below_still [] name n reached below = tt
below_still (e ∷ es) name n reached below = (less_still e.0 name n below.0 reached, below_still es name n reached below.1)

-- ---- bytes with nothing behind them

none_left : {X : Type 0} (r : Reader X) (m : ℕ) (n : Bytes) → named_in r m n [] ≡ None
none_left r zero n = refl
none_left r (suc m) n = refl

first_read : {X : Type 0} (r : Reader X) (p : Bytes) (es : List (Bytes × X)) (run : IsRun r p es) → sized p ≡ Ok (run.first, run.behind)
first_read r p es run = ap sized (sym (append-nil p)) ∙ run.read [] ∙ ap (λ t. Ok (run.first, t)) (append-nil run.behind)

run_alone : {X : Type 0} (r : Reader X) (p : Bytes) (es : List (Bytes × X)) (n : Bytes) (count : ℕ) → Runs r p es → length es ≤ count → named_in r count n p ≡ found_in es n None
run_alone r p es n count runs few =
    ap (λ k. named_in r k n p) (omega arith)
    ∙ ap (named_in r (length es + (count - length es)) n) (sym (append-nil p))
    ∙ runs (count - length es) n []
    ∙ ap (found_in es n) (none_left r (count - length es) n)

-- ---- parts behind others

grows : {X : Type 0} (r : Reader X) (before : List (Bytes × X)) (ps : List Bytes) (all : List (Bytes × X)) → Parted r before ps all → (more : List (Bytes × X)) × (all ≡ before ++ more)
grows r before [] all parted = ([], parted ∙ sym (append-nil before))
grows r before (p ∷ ps) all parted =
    let later = grows r (before ++ parted.0) ps all parted.3 in
    (parted.0 ++ later.0, later.1 ∙ append_assoc before parted.0 later.0)

past_first : {X : Type 0} (r : Reader X) (p : Bytes) (es : List (Bytes × X)) (n : Bytes) (later : Option X) (run : IsRun r p es) → is_past (sized p) n ≡ true → found_in es n later ≡ None
past_first r p es n later run past =
    ap (λ fs. found_in fs n later) run.opens
    ∙ ap (λ o. match_ordering o (found_in run.more n later) (Some run.it) None) (is_greater (by_name run.first n) (sym (ap (λ s. is_past s n) (first_read r p es run)) ∙ past))

-- parts that begin with a greater name have nothing of this one
past_all : {X : Type 0} (r : Reader X) (before : List (Bytes × X)) (ps : List Bytes) (all : List (Bytes × X)) (n : Bytes) → Parted r before ps all → IsPast ps n → found_in all n None ≡ found_in before n None
past_all r before [] all n parted past = ap (λ es. found_in es n None) parted
past_all r before (p ∷ ps) all n parted past =
    let later = grows r (before ++ parted.0) ps all parted.3 in
    ap (λ es. found_in es n None) (later.1 ∙ append_assoc before parted.0 later.0)
    ∙ found_append before (parted.0 ++ later.0) n None
    ∙ ap (found_in before n) (found_append parted.0 later.0 n None ∙ past_first r p parted.0 n (found_in later.0 n None) parted.1 past)

-- ---- one part of all

pub record Split {X : Type 0} (r : Reader X) (part : Bytes) (later : List Bytes) (all : List (Bytes × X)) : Type 0 where
  pub before : List (Bytes × X)
  pub es : List (Bytes × X)
  pub run : IsRun r part es
  pub below : AllBelow before run.first
  pub rest : Parted r (before ++ es) later all

split_at : {X : Type 0} (r : Reader X) (before : List (Bytes × X)) (front : List Bytes) (part : Bytes) (later : List Bytes) (all : List (Bytes × X)) → Parted r before (front ++ part ∷ later) all → Split r part later all
split_at r before [] part later all parted = record { before = before; es = parted.0; run = parted.1; below = parted.2; rest = parted.3 }
split_at r before (p ∷ front) part later all parted = split_at r (before ++ parted.0) front part later all parted.3

module _ {X : Type 0} (r : Reader X) (count : ℕ) (ps : List Bytes) (n : Bytes) (are : AreParts r count ps) where
  in_all : named_in r count n (joined ps) ≡ found_in are.all n None
  in_all = run_alone r (joined ps) are.all n count (all_runs r [] [] ps are.all (none_run r) are.parted) (let many = are.many in omega arith)

  pub in_none : IsPast ps n → None ≡ named_in r count n (joined ps)
  in_none past = sym (in_all ∙ past_all r [] ps are.all n are.parted past)

  pub in_part : (part : Bytes) → IsLastTo ps n part → named_in r count n part ≡ named_in r count n (joined ps)
  in_part part last = by (split_at r [] last.front part last.later are.all (subst (λ qs. Parted r [] qs are.all) last.parts are.parted))
    where
      by : Split r part last.later are.all → named_in r count n part ≡ named_in r count n (joined ps)
      by s =
          run_alone r part s.es n count s.run.runs few
          ∙ sym (found_below s.before n (found_in s.es n None) (below_still s.before s.run.first n reached s.below))
          ∙ sym (found_append s.before s.es n None)
          ∙ sym (past_all r (s.before ++ s.es) last.later are.all n s.rest last.past)
          ∙ sym in_all
        where
          reached : is_gt (by_name s.run.first n) ≡ false
          reached = sym (ap (λ t. is_past t n) (first_read r part s.es s.run)) ∙ last.reached

          few : length s.es ≤ count
          few =
              let later = grows r (s.before ++ s.es) last.later are.all s.rest in
              let all = ap length later.1 in
              let two = length-append (s.before ++ s.es) later.0 in
              let one = length-append s.before s.es in
              let many = are.many in
              omega arith
