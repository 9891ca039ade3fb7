-- A measure of directories that are to be opened: what is in one weighs less than it.
use Rattle.std.proofs.Common.{◌≡◌, ℕ, suc, ◌+◌, ◌-◌, ◌*◌, ◌^◌, ◌<◌, ◌≤◌, true, List, [], ◌∷◌, ◌++◌, length, map, refl, ap, ◌∙◌, arith}
use Rattle.std.specs.Prelude.{Bool, false, cond, not, ◌||◌, Option, None, Some, filter_map, nat_lt}
use Rattle.std.specs.List.{AllByRecursion, cons_option, list_all}
use Rattle.std.proofs.Common.{lit<}
use Rattle.std.specs.Option.{option_and_then}
use Rattle.std.specs.FinMap.{find as find_key}
use Rattle.std.proofs.Math.Nat.{one-le-pow, pow-succ', mul-lt-mul_of_pos_right}
use Rattle.manifest_model.specs.Fsnode.{FsEntry, FsFile, FsDir}
use Rattle.manifest_laws.proofs.Names.{Name, name_cmp}
use Rattle.manifest_laws.proofs.Lists.{fewer_mapped}
use Rattle.merge_walk.specs.Meeting.{is_same, met_here, met}
use Rattle.merge_walk.specs.Left.{dir_in}
use Rattle.merge_walk.proofs.Merging.{Entries}
use Rattle.std.proofs.lemmas.Bool.{and_parts, ltb-true}
use Rattle.std.proofs.lemmas.List.{length-append, length-map}
use Rattle.changeset_model.specs.Path.{Path, text_of, is_element, is_path}
use Rattle.changeset_model.proofs.Spelling.{path_elements}
use Rattle.repo_path.proofs.Faults.{first_of_two as first_of, path_is_short}

-- ---- a path has no more elements than bytes

element_some : (e : List ℕ) → is_element e ≡ true → 0 < length e
element_some e h = ltb-true 0 (length e) (first_of (nat_lt 0 (length e)) _ (first_of _ _ (first_of _ _ (first_of _ _ (first_of _ _ h)))))

short_text : (p : Path) → list_all is_element p ≡ true → length p ≤ length (text_of p)
short_text [] h = omega arith
short_text (e ∷ []) h = let some = element_some e (first_of (is_element e) true h) in omega arith
short_text (e ∷ f ∷ p) h =
    let parts = and_parts (is_element e) (list_all is_element (f ∷ p)) h in
    let rest = short_text (f ∷ p) parts.1 in
    let sum = length-append e (0x2F ∷ text_of (f ∷ p)) in
    omega arith

pub few_elements : (p : Path) → is_path p ≡ true → length p ≤ 4096
few_elements p h = let long = short_text p (path_elements p h) in let short = path_is_short p h in omega arith

-- ---- weights

abbrev pub weight : ℕ → Path → ℕ
weight most p = most ^ (4096 - length p)

abbrev pub weigh : {X : Type 0} → ℕ → (X → Path) → List X → ℕ
weigh most at [] = 0
weigh most at (x ∷ xs) = weight most (at x) + weigh most at xs

pub weigh-append : {X : Type 0} (most : ℕ) (at : X → Path) (xs ys : List X) → weigh most at (xs ++ ys) ≡ weigh most at xs + weigh most at ys
weigh-append most at [] ys = omega arith
weigh-append most at (x ∷ xs) ys = let rest = weigh-append most at xs ys in omega arith

-- a path directly in a directory
abbrev pub IsIn : Path → Path → Type 0
IsIn d p = (length p ≡ length d + 1) × (length p ≤ 4096)

weigh_same : {X : Type 0} (most k : ℕ) (at : X → Path) (xs : List X) → AllByRecursion (λ x. 4096 - length (at x) ≡ k) xs → weigh most at xs ≡ length xs * most ^ k
weigh_same most k at [] all = omega arith
weigh_same most k at (x ∷ xs) all =
    let rest = weigh_same most k at xs all.1 in
    let here : weight most (at x) ≡ most ^ k = ap (λ n. most ^ n) all.0 in
    here_and_rest (weight most (at x)) (weigh most at xs) (most ^ k) (length xs) here rest
  where
    here_and_rest : (w v b n : ℕ) → w ≡ b → v ≡ n * b → w + v ≡ suc n * b
    here_and_rest w v b n h r = grind arith

all_deep : {X : Type 0} (at : X → Path) (d : Path) (xs : List X) → AllByRecursion (λ x. IsIn d (at x)) xs → AllByRecursion (λ x. 4096 - length (at x) ≡ 4096 - (length d + 1)) xs
all_deep at d [] all = tt
all_deep at d (x ∷ xs) all = (ap (λ n. 4096 - n) all.0.0, all_deep at d xs all.1)

-- fewer than the base
pub weighs_less : {X : Type 0} (most : ℕ) (at : X → Path) (d : Path) (xs : List X) → AllByRecursion (λ x. IsIn d (at x)) xs → length xs < most → weigh most at xs < weight most d
weighs_less most at d [] all few = let some = one-le-pow (4096 - length d) most few in omega arith
weighs_less most at d (x ∷ xs) all few =
    let k = 4096 - (length d + 1) in
    let same = weigh_same most k at (x ∷ xs) (all_deep at d (x ∷ xs) all) in
    let deep : length (at x) ≡ length d + 1 = all.0.0 in
    let room : length (at x) ≤ 4096 = all.0.1 in
    let next : 4096 - length d ≡ suc k = omega arith in
    let some : 0 < most = omega arith in
    let power = one-le-pow k most some in
    let less = mul-lt-mul_of_pos_right {m = length (x ∷ xs)} {n = most} {k = most ^ k} few power in
    let whole : most ^ (4096 - length d) ≡ most * most ^ k = ap (λ n. most ^ n) next ∙ pow-succ' most k in
    at_end (weigh most at (x ∷ xs)) (length (x ∷ xs) * most ^ k) (most * most ^ k) (most ^ (4096 - length d)) same less whole
  where
    at_end : (v n b w : ℕ) → v ≡ n → n < b → w ≡ b → v < w
    at_end v n b w s l e = omega arith

name_in : (d : Path) (n : Name) → is_path (d ++ n ∷ []) ≡ true → IsIn d (d ++ n ∷ [])
name_in d n ruled = (length-append d (n ∷ []), few_elements (d ++ n ∷ []) ruled)

pub dirs_in_room : (d : Path) (es : Entries) → AllByRecursion (λ t. IsIn d t.0) (filter_map (dir_in d) es)
dirs_in_room d [] = tt
dirs_in_room d ((n, FsFile f) ∷ es) = dirs_in_room d es
dirs_in_room d ((n, FsDir x s) ∷ es) = by (dirs_in_room d es) (is_path (d ++ n ∷ [])) refl
  where
    by : AllByRecursion (λ t. IsIn d t.0) (filter_map (dir_in d) es) → (b : Bool) → is_path (d ++ n ∷ []) ≡ b → AllByRecursion (λ t. IsIn d t.0) (cons_option (cond b (Some (d ++ n ∷ [], x)) None) (filter_map (dir_in d) es))
    by rest true e = (name_in d n e, rest)
    by rest false e = rest

pub met_in_room : (d : Path) (es gs : Entries) → AllByRecursion (λ m. IsIn d m.0) (met d es gs)
met_in_room d [] gs = tt
met_in_room d (e ∷ es) gs = found (met_in_room d es gs) (find_key name_cmp e.0 gs)
  where
    here : AllByRecursion (λ m. IsIn d m.0) (met d es gs) → (g : FsEntry) (s b : Bool) → is_path (d ++ e.0 ∷ []) ≡ b → AllByRecursion (λ m. IsIn d m.0) (cons_option (cond (s || not b) None (Some (d ++ e.0 ∷ [], (e.1, g)))) (met d es gs))
    here rest g true b h = rest
    here rest g false false h = rest
    here rest g false true h = (name_in d e.0 h, rest)

    found : AllByRecursion (λ m. IsIn d m.0) (met d es gs) → (o : Option FsEntry) → AllByRecursion (λ m. IsIn d m.0) (cons_option (option_and_then (met_here d e) o) (met d es gs))
    found rest None = rest
    found rest (Some g) = here rest g (is_same e.1 g) (is_path (d ++ e.0 ∷ [])) refl

pub few_dirs : (d : Path) (es : Entries) → length (filter_map (dir_in d) es) ≤ length es
few_dirs d es = fewer_mapped (dir_in d) es

-- a vector's items are fewer than the base
pub few_items : {X Y : Type 0} (seen : X → Y) (xs : List X) (len cap : ℕ) → len ≡ length xs → len ≤ cap → cap < 2 ^ 63 → length (map seen xs) < 2 ^ 64
few_items seen xs len cap same most small = let mapped = length-map xs seen in let bigger : 2 ^ 63 < 2 ^ 64 = lit< tt in omega arith
