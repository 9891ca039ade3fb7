-- The first self-conflict is one of neighbours.
use Rattle.std.proofs.Common.{◌≡◌, Bool, true, false, cond, List, [], ◌∷◌, ◌++◌, map, Option, Some, None, refl, sym, ap, subst, ◌∙◌, append_assoc}
use Rattle.std.specs.Prelude.{find, filter_map, option_map}
use Rattle.std.specs.List.{AllByRecursion}
use Rattle.std.specs.Option.{option_or}
use Rattle.std.specs.FinMap.{is_sorted}
use Rattle.std.specs.FinMap.Entries.{below_all}
use Rattle.byte_fields.specs.Bytes.{first_some}
use Rattle.byte_fields.proofs.Lists.{both_parts, all_push, weaker}
use Rattle.changeset_model.specs.Path.{Path, path_cmp, path_lt, is_strict_prefix, IsRising}
use Rattle.changeset_model.specs.Changeset.{Changeset, File, FileChange, Set, Delete, file_of, sets_of, self_conflict}
use Rattle.bonsai.specs.Conflict.{below, neighbours}
use Rattle.bonsai.proofs.Between.{under_between, not_above, not_above_itself}
use Rattle.repo_path.proofs.Faults.{first_of_two as first_of, second_of_two as second_of}

-- ---- among paths

abbrev above_in : List Path → Path → Option (Path × Path)
above_in all long = option_map (λ short. (short, long)) (find (λ short. is_strict_prefix short long) all)

abbrev next_to : Option Path → List Path → Option (Path × Path)
next_to before [] = None
next_to before (p ∷ ps) = below before p (next_to (Some p) ps)

abbrev last : Path → List Path → Path
last x [] = x
last x (y ∷ ys) = last y ys

abbrev IsApart : List Path → Type 0
IsApart [] = Unit {0}
IsApart (p ∷ ps) = AllByRecursion (λ q. is_strict_prefix p q ≡ false) ps × IsApart ps

of_last : (P : Path → Type 0) (x : Path) (ps : List Path) → AllByRecursion P (x ∷ ps) → P (last x ps)
of_last P x [] all = all.0
of_last P x (y ∷ ys) all = of_last P y ys all.1

last_push : (x : Path) (ps : List Path) (p : Path) → last x (ps ++ p ∷ []) ≡ p
last_push x [] p = refl
last_push x (y ∷ ys) p = last_push y ys p

none_of : (p : Path) (ps : List Path) → AllByRecursion (λ s. is_strict_prefix s p ≡ false) ps → find (λ s. is_strict_prefix s p) ps ≡ None
none_of p [] all = refl
none_of p (s ∷ ps) all = ap (λ b. cond b (Some s) (find (λ s. is_strict_prefix s p) ps)) all.0 ∙ none_of p ps all.1

find_append : (p : Path) (xs ys : List Path) → find (λ s. is_strict_prefix s p) ys ≡ None → find (λ s. is_strict_prefix s p) (xs ++ ys) ≡ find (λ s. is_strict_prefix s p) xs
find_append p [] ys h = h
find_append p (x ∷ xs) ys h = ap (cond (is_strict_prefix x p) (Some x)) (find_append p xs ys h)

first_apart : (x y : Path) (ys : List Path) (p : Path) → IsRising (x ∷ y ∷ ys) → IsApart (x ∷ y ∷ ys) → AllByRecursion (λ r. path_lt r p ≡ true) (x ∷ y ∷ ys) → (b : Bool) → is_strict_prefix x p ≡ b → b ≡ false
first_apart x y ys p rises apart lower false e = refl
first_apart x y ys p rises apart lower true e =
    let q = last y ys in
    let under : is_strict_prefix x q ≡ true = under_between x q p e (of_last (λ r. path_lt x r ≡ true) y ys rises.0) (of_last (λ r. path_lt r p ≡ true) y ys lower.1) in
    let not_under : is_strict_prefix x q ≡ false = of_last (λ r. is_strict_prefix x r ≡ false) y ys apart.0 in
    absurd (cc)

-- of paths none of which lies under another, at most the last lies above the next one
only_last : (x : Path) (ps : List Path) (p : Path) → IsRising (x ∷ ps) → IsApart (x ∷ ps) → AllByRecursion (λ r. path_lt r p ≡ true) (x ∷ ps) → find (λ s. is_strict_prefix s p) (x ∷ ps) ≡ cond (is_strict_prefix (last x ps) p) (Some (last x ps)) None
only_last x [] p rises apart lower = refl
only_last x (y ∷ ys) p rises apart lower =
    ap (λ b. cond b (Some x) (find (λ s. is_strict_prefix s p) (y ∷ ys))) (first_apart x y ys p rises apart lower (is_strict_prefix x p) refl)
    ∙ only_last y ys p rises.1 apart.1 lower.1

all_apart : (x : Path) (ps : List Path) (p : Path) → IsRising (x ∷ ps) → IsApart (x ∷ ps) → AllByRecursion (λ r. path_lt r p ≡ true) (x ∷ ps) → is_strict_prefix (last x ps) p ≡ false → AllByRecursion (λ s. is_strict_prefix s p ≡ false) (x ∷ ps)
all_apart x [] p rises apart lower h = (h, tt)
all_apart x (y ∷ ys) p rises apart lower h = (first_apart x y ys p rises apart lower (is_strict_prefix x p) refl, all_apart y ys p rises.1 apart.1 lower.1 h)

apart_push : (ps : List Path) (p : Path) → IsApart ps → AllByRecursion (λ s. is_strict_prefix s p ≡ false) ps → IsApart (ps ++ p ∷ [])
apart_push [] p apart all = (tt, tt)
apart_push (s ∷ ps) p apart all = (all_push (λ q. is_strict_prefix s q ≡ false) ps p apart.0 all.0, apart_push ps p apart.1 all.1)

rising_front : (xs ys : List Path) → IsRising (xs ++ ys) → IsRising xs
rising_front [] ys h = tt
rising_front (x ∷ xs) ys h = ((both_parts (λ q. path_lt x q ≡ true) xs ys h.0).0, rising_front xs ys h.1)

rising_back : (xs ys : List Path) → IsRising (xs ++ ys) → IsRising ys
rising_back [] ys h = h
rising_back (x ∷ xs) ys h = rising_back xs ys h.1

front_lower : (xs : List Path) (p : Path) (ys : List Path) → IsRising (xs ++ p ∷ ys) → AllByRecursion (λ r. path_lt r p ≡ true) xs
front_lower [] p ys h = tt
front_lower (x ∷ xs) p ys h = ((both_parts (λ q. path_lt x q ≡ true) xs (p ∷ ys) h.0).1.0, front_lower xs p ys h.1)

none_after : (p : Path) (ps : List Path) → IsRising (p ∷ ps) → find (λ s. is_strict_prefix s p) (p ∷ ps) ≡ None
none_after p ps h = none_of p (p ∷ ps) (not_above_itself p, weaker (λ s. path_lt p s ≡ true) (λ s. is_strict_prefix s p ≡ false) (λ s less. not_above p s less) ps h.0)

found_by : (q p : Path) (later : Option (Path × Path)) (b : Bool) → option_or (option_map (λ short. (short, p)) (cond b (Some q) None)) later ≡ cond b (Some (q, p)) later
found_by q p later true = refl
found_by q p later false = refl

seek : (x : Path) (done rest all : List Path) → all ≡ (x ∷ done) ++ rest → IsRising all → IsApart (x ∷ done) → first_some (above_in all) rest ≡ next_to (Some (last x done)) rest
seek x done [] all e rises apart = refl
seek x done (p ∷ rest) all e rises apart =
    let q = last x done in
    let rises' : IsRising ((x ∷ done) ++ p ∷ rest) = subst IsRising e rises in
    let front = rising_front (x ∷ done) (p ∷ rest) rises' in
    let lower = front_lower (x ∷ done) p rest rises' in
    let found : find (λ s. is_strict_prefix s p) all ≡ cond (is_strict_prefix q p) (Some q) None =
    ap (find (λ s. is_strict_prefix s p)) e ∙ find_append p (x ∷ done) (p ∷ rest) (none_after p rest (rising_back (x ∷ done) (p ∷ rest) rises')) ∙ only_last x done p front apart lower in
    ap (λ o. option_or (option_map (λ short. (short, p)) o) (first_some (above_in all) rest)) found
    ∙ found_by q p (first_some (above_in all) rest) (is_strict_prefix q p)
    ∙ on (is_strict_prefix q p) refl (λ h. seek x (done ++ p ∷ []) rest all (e ∙ sym (append_assoc (x ∷ done) (p ∷ []) rest)) rises (apart_push (x ∷ done) p apart (all_apart x done p front apart lower h)) ∙ ap (λ r. next_to (Some r) rest) (last_push x done p))
  where
    on : (b : Bool) → is_strict_prefix (last x done) p ≡ b → (is_strict_prefix (last x done) p ≡ false → first_some (above_in all) rest ≡ next_to (Some p) rest) → cond b (Some (last x done, p)) (first_some (above_in all) rest) ≡ cond b (Some (last x done, p)) (next_to (Some p) rest)
    on true h later = refl
    on false h later = later h

next_to_is : (ps : List Path) → IsRising ps → first_some (above_in ps) ps ≡ next_to None ps
next_to_is [] h = refl
next_to_is (p ∷ ps) h = ap (λ o. option_or (option_map (λ short. (short, p)) o) (first_some (above_in (p ∷ ps)) ps)) (none_after p ps h) ∙ seek p [] ps (p ∷ ps) refl h (tt, tt)

-- ---- among edits

abbrev set_of : Path × FileChange → Option (Path × File)
set_of e = option_map (λ f. (e.0, f)) (file_of e.1)

abbrev sets : List (Path × FileChange) → List (Path × File)
sets es = filter_map set_of es

abbrev set_paths : List (Path × FileChange) → List Path
set_paths es = map (λ s. s.0) (sets es)

neighbours_sets : (before : Option Path) (es : List (Path × FileChange)) → neighbours before es ≡ next_to before (set_paths es)
neighbours_sets before [] = refl
neighbours_sets before ((p, Set f copied) ∷ es) = ap (below before p) (neighbours_sets (Some p) es)
neighbours_sets before ((p, Delete) ∷ es) = neighbours_sets before es

some_by : (long : Path) (s : Path × File) (b : Bool) (o : Option (Path × File)) (r : Option Path) → option_map (λ s. s.0) o ≡ r → option_map (λ s. s.0) (cond b (Some s) o) ≡ cond b (Some s.0) r
some_by long s true o r e = refl
some_by long s false o r e = e

find_path : (long : Path) (ss : List (Path × File)) → option_map (λ s. s.0) (find (λ s. is_strict_prefix s.0 long) ss) ≡ find (λ s. is_strict_prefix s long) (map (λ s. s.0) ss)
find_path long [] = refl
find_path long (s ∷ ss) = some_by long s (is_strict_prefix s.0 long) (find (λ s. is_strict_prefix s.0 long) ss) (find (λ s. is_strict_prefix s long) (map (λ s. s.0) ss)) (find_path long ss)

abbrev with_long : Path → Path → Path × Path
with_long long short = (short, long)

pair_by : (long : Path) (o : Option (Path × File)) → option_map (λ short. with_long long short.0) o ≡ option_map (with_long long) (option_map (λ s. s.0) o)
pair_by long None = refl
pair_by long (Some s) = refl

conflict_paths : (all ss : List (Path × File)) → first_some (λ long. option_map (λ short. (short.0, long.0)) (find (λ short. is_strict_prefix short.0 long.0) all)) ss ≡ first_some (above_in (map (λ s. s.0) all)) (map (λ s. s.0) ss)
conflict_paths all [] = refl
conflict_paths all (s ∷ ss) =
    (λ i. option_or ((pair_by s.0 (find (λ short. is_strict_prefix short.0 s.0) all) ∙ ap (option_map (with_long s.0)) (find_path s.0 all)) i) (conflict_paths all ss i))

below_sets : (p : Path) (es : List (Path × FileChange)) → below_all path_cmp p es ≡ true → AllByRecursion (λ q. path_lt p q ≡ true) (set_paths es)
below_sets p [] h = tt
below_sets p ((q, Set f copied) ∷ es) h = (first_of (path_lt p q) (below_all path_cmp p es) h, below_sets p es (second_of (path_lt p q) (below_all path_cmp p es) h))
below_sets p ((q, Delete) ∷ es) h = below_sets p es (second_of (path_lt p q) (below_all path_cmp p es) h)

sets_rise : (es : List (Path × FileChange)) → is_sorted path_cmp es ≡ true → IsRising (set_paths es)
sets_rise [] h = tt
sets_rise ((p, Set f copied) ∷ es) h = (below_sets p es (first_of (below_all path_cmp p es) (is_sorted path_cmp es) h), sets_rise es (second_of (below_all path_cmp p es) (is_sorted path_cmp es) h))
sets_rise ((p, Delete) ∷ es) h = sets_rise es (second_of (below_all path_cmp p es) (is_sorted path_cmp es) h)

pub neighbours_conflict : (c : Changeset) → is_sorted path_cmp c.changes ≡ true → neighbours None c.changes ≡ self_conflict c
neighbours_conflict c h = neighbours_sets None c.changes ∙ sym (next_to_is (set_paths c.changes) (sets_rise c.changes h)) ∙ sym (conflict_paths (sets_of c) (sets_of c))
