-- Entries that are looked up in their bytes, and in parts of them.
--     found_append, below_append      among entries, and others behind them
--     run_then, one_run      a run with another behind it, and of one entry
--     parted_more      one part more
--     all_runs      the parts as one
use Rattle.std.proofs.Common.{◌≡◌, ℕ, suc, ◌+◌, List, [], ◌∷◌, ◌++◌, length, refl, sym, ap, subst, ◌∙◌, arith, append_assoc}
use Rattle.std.specs.Prelude.{Option, Some, None, Ok}
use Rattle.std.specs.declared.cmp.Ordering.{Ordering}
use Rattle.std.specs.Ordering.{match_ordering, nat_cmp}
use Rattle.std.specs.Cmp.Lexicographic.{slice_cmp}
use Rattle.std.proofs.lemmas.List.{length-append, append-nil}
use Rattle.byte_fields.specs.Reading.{Reader}
use Rattle.node_fields.specs.Lookup.{at_entry, at_name, named_in, sized}
use Rattle.node_parts.specs.Parts.{AllBelow, IsRun, Parted, Runs, found_in, joined}

abbrev pub by_name : List ℕ → List ℕ → Ordering
by_name = slice_cmp nat_cmp

abbrev pub Bytes : Type 0
Bytes = List ℕ

-- ---- among entries

pub found_append : {X : Type 0} (es fs : List (Bytes × X)) (n : Bytes) (later : Option X) → found_in (es ++ fs) n later ≡ found_in es n (found_in fs n later)
found_append [] fs n later = refl
found_append (e ∷ es) fs n later = ap (λ x. match_ordering (by_name e.0 n) x (Some e.1) None) (found_append es fs n later)

pub found_below : {X : Type 0} (es : List (Bytes × X)) (n : Bytes) (later : Option X) → AllBelow es n → found_in es n later ≡ later
found_below [] n later below = refl
found_below (e ∷ es) n later below = ap (λ o. match_ordering o (found_in es n later) (Some e.1) None) below.0 ∙ found_below es n later below.1

pub below_append : {X : Type 0} (es fs : List (Bytes × X)) (n : Bytes) → AllBelow es n → AllBelow fs n → AllBelow (es ++ fs) n
below_append [] fs n one two = two
below_append (e ∷ es) fs n one two = (one.0, below_append es fs n one.1 two)

-- ---- runs

pub none_run : {X : Type 0} (r : Reader X) → Runs r [] []
none_run r m n other = ap (λ k. named_in r k n other) (omega arith)

pub run_then : {X : Type 0} (r : Reader X) (a b : Bytes) (es fs : List (Bytes × X)) → Runs r a es → Runs r b fs → Runs r (a ++ b) (es ++ fs)
run_then r a b es fs one two m n other =
    ap (λ k. named_in r k n ((a ++ b) ++ other)) count
    ∙ ap (named_in r (length es + (length fs + m)) n) (append_assoc a b other)
    ∙ one (length fs + m) n (b ++ other)
    ∙ ap (found_in es n) (two m n other)
    ∙ sym (found_append es fs n (named_in r m n other))
  where
    count : length (es ++ fs) + m ≡ length es + (length fs + m)
    count = let both = length-append es fs in omega arith

pub one_run : {X : Type 0} (r : Reader X) (a b name : Bytes) (x : X) → ((other : Bytes) → sized (a ++ other) ≡ Ok (name, other)) → ((other : Bytes) → r (b ++ other) ≡ Ok (x, other)) → Runs r (a ++ b) ((name, x) ∷ [])
one_run {X = X} r a b name x named gave m n other =
    ap (λ k. named_in r k n ((a ++ b) ++ other)) count
    ∙ ap (λ s. at_name r n s (named_in r m n)) (ap sized (append_assoc a b other) ∙ named (b ++ other))
    ∙ ap (λ e. at_entry (by_name name n) e (named_in r m n)) (gave other)
  where
    count : length {A = Bytes × X} ((name, x) ∷ []) + m ≡ suc m
    count = omega arith

-- ---- parts

pub parted_more : {X : Type 0} (r : Reader X) (before : List (Bytes × X)) (ps : List Bytes) (all : List (Bytes × X)) (p : Bytes) (es : List (Bytes × X)) → Parted r before ps all → (run : IsRun r p es) → AllBelow all run.first → Parted r before (ps ++ p ∷ []) (all ++ es)
parted_more r before [] all p es parted run below =
    (es, run, subst (λ b. AllBelow b run.first) parted below, ap (λ b. b ++ es) parted)
parted_more r before (q ∷ ps) all p es parted run below =
    (parted.0, parted.1, parted.2, parted_more r (before ++ parted.0) ps all p es parted.3 run below)

pub all_runs : {X : Type 0} (r : Reader X) (b : Bytes) (before : List (Bytes × X)) (ps : List Bytes) (all : List (Bytes × X)) → Runs r b before → Parted r before ps all → Runs r (b ++ joined ps) all
all_runs r b before [] all runs parted = subst (λ t. Runs r t all) (sym (append-nil b)) (subst (Runs r b) (sym parted) runs)
all_runs r b before (p ∷ ps) all runs parted =
    subst (λ t. Runs r t all) (append_assoc b p (joined ps))
    (all_runs r (b ++ p) (before ++ parted.0) ps all (run_then r b p before parted.0 runs parted.1.runs) parted.3)

pub joined_append : (ps qs : List Bytes) → joined (ps ++ qs) ≡ joined ps ++ joined qs
joined_append [] qs = refl
joined_append (p ∷ ps) qs = ap (λ t. p ++ t) (joined_append ps qs) ∙ sym (append_assoc p (joined ps) (joined qs))
