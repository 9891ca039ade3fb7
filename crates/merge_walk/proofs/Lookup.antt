-- What is found under a name, and what holds of all that is met in a directory.
use Rattle.std.proofs.Common.{◌≡◌, ℕ, ◌+◌, ◌<◌, ◌≤◌, Bool, true, false, cond, not, ◌||◌, List, [], ◌∷◌, ◌++◌, length, drop, map, refl, sym, ap, subst, ◌∙◌, append_assoc}
use Rattle.std.specs.Prelude.{Option, None, Some, filter_map, slice_index_or}
use mathlib.Core.Bool.{true≢false}
use Rattle.std.specs.List.{AllByRecursion, cons_option, list_any}
use Rattle.std.specs.Option.{option_and_then, option_to_list}
use Rattle.std.specs.declared.cmp.Ordering.{Ordering}
use Rattle.std.specs.declared.cmp.Ordering.TheVariants.{Less, Equal, Greater}
use Rattle.std.specs.Ordering.{is_eq, is_lt, eq_by_cmp, ordering_reverse}
use Rattle.std.specs.Cmp.{tied_itself}
use Rattle.std.specs.Cmp.Lexicographic.{nat_list_cmp_total}
use Rattle.std.specs.FinMap.{is_sorted, find as find_key}
use Rattle.std.specs.FinMap.Entries.{below_all}
use Rattle.std.proofs.lemmas.List.{append-nil, drop_all}
use Rattle.byte_fields.specs.Bytes.{Id}
use Rattle.byte_fields.proofs.Booleans.{same_some, neither}
use Rattle.changeset_model.specs.Path.{Path, is_path}
use Rattle.changeset_model.proofs.Rising.{less_of}
use Rattle.manifest_model.specs.Fsnode.{Summary, FsEntry, FsFile, FsDir}
use Rattle.manifest_laws.proofs.Names.{Name, name_cmp}
use Rattle.repo_path.proofs.Faults.{first_of_two as first_of, second_of_two as second_of}
use Rattle.merge_tree.proofs.Steps.{left_of}
use Rattle.merge_walk.specs.Meeting.{Meeting, is_same, met_here, met_among, met}
use Rattle.merge_walk.specs.Left.{dir_in}
use Rattle.merge_walk.proofs.Merging.{Entries, same_name, onto_list}

-- ---- found under a name

tied : (o : Ordering) → is_eq o ≡ true → o ≡ Equal
tied Less h = absurd (true≢false (sym h))
tied Equal h = refl
tied Greater h = absurd (true≢false (sym h))

-- a name above all that come before is found behind them
below_found : (k n : Name) (es : Entries) (e : FsEntry) → below_all name_cmp k es ≡ true → find_key name_cmp n es ≡ Some e → name_cmp k n ≡ Less
below_found k n [] e below found = absurd cc
below_found k n (g ∷ es) e below found = by (λ f. below_found k n es e (second_of (is_lt (name_cmp k g.0)) (below_all name_cmp k es) below) f) (eq_by_cmp name_cmp n g.0) refl found
  where
    by : (find_key name_cmp n es ≡ Some e → name_cmp k n ≡ Less) → (b : Bool) → eq_by_cmp name_cmp n g.0 ≡ b → cond b (Some g.1) (find_key name_cmp n es) ≡ Some e → name_cmp k n ≡ Less
    by later true same f = ap (name_cmp k) (same_name n g.0 (tied (name_cmp n g.0) same)) ∙ less_of (name_cmp k g.0) (first_of (is_lt (name_cmp k g.0)) (below_all name_cmp k es) below)
    by later false apart f = later f

later_found : (g : Name × FsEntry) (es : Entries) (n : Name) (e : FsEntry) → is_sorted name_cmp (g ∷ es) ≡ true → find_key name_cmp n es ≡ Some e → find_key name_cmp n (g ∷ es) ≡ Some e
later_found g es n e sorted found =
    let less = below_found g.0 n es e (first_of (below_all name_cmp g.0 es) (is_sorted name_cmp es) sorted) found in
    let greater : name_cmp n g.0 ≡ Greater = nat_list_cmp_total.antisymm n g.0 ∙ ap ordering_reverse less in
    ap (λ o. cond (is_eq o) (Some g.1) (find_key name_cmp n es)) greater ∙ found

first_found : (g : Name × FsEntry) (es : Entries) → find_key name_cmp g.0 (g ∷ es) ≡ Some g.1
first_found g es = ap (λ o. cond (is_eq o) (Some g.1) (find_key name_cmp g.0 es)) (tied_itself nat_list_cmp_total g.0)

-- what is found in these is found in all
abbrev pub AreFoundIn : Entries → Entries → Type 0
AreFoundIn all es = (n : Name) (e : FsEntry) → find_key name_cmp n es ≡ Some e → find_key name_cmp n all ≡ Some e

rest_found : (all : Entries) (g : Name × FsEntry) (es : Entries) → is_sorted name_cmp (g ∷ es) ≡ true → AreFoundIn all (g ∷ es) → AreFoundIn all es
rest_found all g es sorted found = λ n e h. found n e (later_found g es n e sorted h)

-- ---- what is met in a directory

met_each : (P : Meeting → Type 0) (d : Path) (es gs : Entries) (n : Name) (e g : FsEntry) → find_key name_cmp n es ≡ Some e → find_key name_cmp n gs ≡ Some g → is_same e g ≡ false → is_path (d ++ n ∷ []) ≡ true → AllByRecursion P (met d es gs) → P (d ++ n ∷ [], (e, g))
met_each P d [] gs n e g found other differ ruled all = absurd cc
met_each P d (h ∷ es) gs n e g found other differ ruled all = by (λ f a. met_each P d es gs n e g f other differ ruled a) (eq_by_cmp name_cmp n h.0) refl found
  where
    tail_of : (o : Option Meeting) → AllByRecursion P (cons_option o (met d es gs)) → AllByRecursion P (met d es gs)
    tail_of None a = a
    tail_of (Some m) a = a.1

    by : (find_key name_cmp n es ≡ Some e → AllByRecursion P (met d es gs) → P (d ++ n ∷ [], (e, g))) → (b : Bool) → eq_by_cmp name_cmp n h.0 ≡ b → cond b (Some h.1) (find_key name_cmp n es) ≡ Some e → P (d ++ n ∷ [], (e, g))
    by later true same f =
        let name = same_name n h.0 (tied (name_cmp n h.0) same) in
        let is : met_among d gs h ≡ Some (d ++ n ∷ [], (e, g)) =
        ap (λ k. option_and_then (met_here d (k, h.1)) (find_key name_cmp k gs)) (sym name)
        ∙ ap (λ o. option_and_then (met_here d (n, h.1)) o) other
        ∙ ap (λ x. met_here d (n, x) g) (same_some h.1 e f)
        ∙ (λ i. cond (differ i || not (ruled i)) None (Some (d ++ n ∷ [], (e, g)))) in
        (subst (λ o. AllByRecursion P (cons_option o (met d es gs))) is all).0
    by later false apart f = later f (tail_of (met_among d gs h) all)

met_sound : (P : Meeting → Type 0) (d : Path) (all gs es : Entries) → is_sorted name_cmp es ≡ true → AreFoundIn all es → ((n : Name) (e g : FsEntry) → find_key name_cmp n all ≡ Some e → find_key name_cmp n gs ≡ Some g → P (d ++ n ∷ [], (e, g))) → AllByRecursion P (met d es gs)
met_sound P d all gs [] sorted found holds = tt
met_sound P d all gs (h ∷ es) sorted found holds =
    by (met_sound P d all gs es (second_of (below_all name_cmp h.0 es) (is_sorted name_cmp es) sorted) (rest_found all h es sorted found) holds) (find_key name_cmp h.0 gs) refl
  where
    here : AllByRecursion P (met d es gs) → (g : FsEntry) → find_key name_cmp h.0 gs ≡ Some g → (s t : Bool) → AllByRecursion P (cons_option (cond (s || t) None (Some (d ++ h.0 ∷ [], (h.1, g)))) (met d es gs))
    here rest g other true t = rest
    here rest g other false true = rest
    here rest g other false false = (holds h.0 h.1 g (found h.0 h.1 (first_found h es)) other, rest)

    by : AllByRecursion P (met d es gs) → (o : Option FsEntry) → find_key name_cmp h.0 gs ≡ o → AllByRecursion P (cons_option (option_and_then (met_here d h) o) (met d es gs))
    by rest None other = rest
    by rest (Some g) other = here rest g other (is_same h.1 g) (not (is_path (d ++ h.0 ∷ [])))

pub each_met : (P : Meeting → Type 0) (d : Path) (es gs : Entries) → is_sorted name_cmp es ≡ true → ((n : Name) (e g : FsEntry) → find_key name_cmp n es ≡ Some e → find_key name_cmp n gs ≡ Some g → P (d ++ n ∷ [], (e, g))) → AllByRecursion P (met d es gs)
each_met P d es gs sorted holds = met_sound P d es gs es sorted (λ n e h. h) holds

pub of_met : (P : Meeting → Type 0) (d : Path) (es gs : Entries) (n : Name) (e g : FsEntry) → find_key name_cmp n es ≡ Some e → find_key name_cmp n gs ≡ Some g → is_same e g ≡ false → is_path (d ++ n ∷ []) ≡ true → AllByRecursion P (met d es gs) → P (d ++ n ∷ [], (e, g))
of_met = met_each

-- ---- the directories directly in a directory

dirs_sound : (P : Path × Id → Type 0) (d : Path) (all es : Entries) → is_sorted name_cmp es ≡ true → AreFoundIn all es → ((n : Name) (x : Id) (s : Summary) → find_key name_cmp n all ≡ Some (FsDir x s) → P (d ++ n ∷ [], x)) → AllByRecursion P (filter_map (dir_in d) es)
dirs_sound P d all [] sorted found holds = tt
dirs_sound P d all ((n, FsFile f) ∷ es) sorted found holds = dirs_sound P d all es (second_of (below_all name_cmp n es) (is_sorted name_cmp es) sorted) (rest_found all (n, FsFile f) es sorted found) holds
dirs_sound P d all ((n, FsDir x s) ∷ es) sorted found holds =
    by (dirs_sound P d all es (second_of (below_all name_cmp n es) (is_sorted name_cmp es) sorted) (rest_found all (n, FsDir x s) es sorted found) holds) (is_path (d ++ n ∷ []))
  where
    by : AllByRecursion P (filter_map (dir_in d) es) → (b : Bool) → AllByRecursion P (cons_option (cond b (Some (d ++ n ∷ [], x)) None) (filter_map (dir_in d) es))
    by rest true = (holds n x s (found n (FsDir x s) (first_found (n, FsDir x s) es)), rest)
    by rest false = rest

pub each_dir : (P : Path × Id → Type 0) (d : Path) (es : Entries) → is_sorted name_cmp es ≡ true → ((n : Name) (x : Id) (s : Summary) → find_key name_cmp n es ≡ Some (FsDir x s) → P (d ++ n ∷ [], x)) → AllByRecursion P (filter_map (dir_in d) es)
each_dir P d es sorted holds = dirs_sound P d es es sorted (λ n e h. h) holds

pub of_dirs : (P : Path × Id → Type 0) (d : Path) (es : Entries) (n : Name) (x : Id) (s : Summary) → find_key name_cmp n es ≡ Some (FsDir x s) → is_path (d ++ n ∷ []) ≡ true → AllByRecursion P (filter_map (dir_in d) es) → P (d ++ n ∷ [], x)
of_dirs P d [] n x s found ruled all = absurd cc
of_dirs P d (h ∷ es) n x s found ruled all = by (λ f a. of_dirs P d es n x s f ruled a) (eq_by_cmp name_cmp n h.0) refl found
  where
    tail_of : (o : Option (Path × Id)) → AllByRecursion P (cons_option o (filter_map (dir_in d) es)) → AllByRecursion P (filter_map (dir_in d) es)
    tail_of None a = a
    tail_of (Some m) a = a.1

    by : (find_key name_cmp n es ≡ Some (FsDir x s) → AllByRecursion P (filter_map (dir_in d) es) → P (d ++ n ∷ [], x)) → (b : Bool) → eq_by_cmp name_cmp n h.0 ≡ b → cond b (Some h.1) (find_key name_cmp n es) ≡ Some (FsDir x s) → P (d ++ n ∷ [], x)
    by later true same f =
        let name = same_name n h.0 (tied (name_cmp n h.0) same) in
        let is : dir_in d h ≡ Some (d ++ n ∷ [], x) =
        (λ i. dir_in d (sym name i, same_some h.1 (FsDir x s) f i)) ∙ (λ i. cond (ruled i) (Some (d ++ n ∷ [], x)) None) in
        (subst (λ o. AllByRecursion P (cons_option o (filter_map (dir_in d) es))) is all).0
    by later false apart f = later f (tail_of (dir_in d h) all)

-- ---- some entry passes

pub record Passes (t : Name × FsEntry → Bool) (es : Entries) : Type 0 where
  pub name : Name
  pub entry : FsEntry
  pub found : find_key name_cmp name es ≡ Some entry
  pub passes : t (name, entry) ≡ true

pub some_passes : (t : Name × FsEntry → Bool) (es : Entries) → is_sorted name_cmp es ≡ true → list_any t es ≡ true → Passes t es
some_passes t [] sorted h = absurd (true≢false (sym h))
some_passes t (g ∷ es) sorted h = by (some_passes t es (second_of (below_all name_cmp g.0 es) (is_sorted name_cmp es) sorted)) (t g) refl h
  where
    by : (list_any t es ≡ true → Passes t es) → (b : Bool) → t g ≡ b → (b || list_any t es) ≡ true → Passes t (g ∷ es)
    by later true e h = record { name = g.0; entry = g.1; found = first_found g es; passes = e }
    by later false e h = let p = later h in record { name = p.name; entry = p.entry; found = later_found g es p.name p.entry sorted p.found; passes = p.passes }

pub none_passes : (t : Name × FsEntry → Bool) (es : Entries) (n : Name) (e : FsEntry) → list_any t es ≡ false → find_key name_cmp n es ≡ Some e → t (n, e) ≡ false
none_passes t [] n e none found = absurd cc
none_passes t (g ∷ es) n e none found = by (none_passes t es n e (neither (t g) (list_any t es) none).1) (eq_by_cmp name_cmp n g.0) refl found
  where
    by : (find_key name_cmp n es ≡ Some e → t (n, e) ≡ false) → (b : Bool) → eq_by_cmp name_cmp n g.0 ≡ b → cond b (Some g.1) (find_key name_cmp n es) ≡ Some e → t (n, e) ≡ false
    by later true same f = (λ i. t (same_name n g.0 (tied (name_cmp n g.0) same) i, sym (same_some g.1 e f) i)) ∙ (neither (t g) (list_any t es) none).0
    by later false apart f = later f

-- ---- a step of a loop that gathers

pub gathered : {X Y Z : Type 0} (f : Y → Option Z) (seen : X → Y) (xs : List X) (i : ℕ) (x : X) (before after : List Z) → i < length xs → x ≡ slice_index_or xs i x → after ≡ before ++ option_to_list (f (seen x)) → after ++ filter_map f (map seen (drop (i + 1) xs)) ≡ before ++ filter_map f (map seen (drop i xs))
gathered f seen xs i x before after less item e =
    ap (λ ys. ys ++ filter_map f (map seen (drop (i + 1) xs))) e
    ∙ append_assoc before (option_to_list (f (seen x))) (filter_map f (map seen (drop (i + 1) xs)))
    ∙ ap (λ ys. before ++ ys) (sym (onto_list (f (seen x)) (filter_map f (map seen (drop (i + 1) xs)))) ∙ ap (λ ys. filter_map f (map seen ys)) (sym (left_of xs i x less item)))

pub all_gathered : {X Y Z : Type 0} (f : Y → Option Z) (seen : X → Y) (xs : List X) (i : ℕ) (before all : List Z) → length xs ≤ i → before ++ filter_map f (map seen (drop i xs)) ≡ all → before ≡ all
all_gathered f seen xs i before all most h = sym (append-nil before) ∙ ap (λ ys. before ++ filter_map f (map seen ys)) (sym (drop_all i xs most)) ∙ h
