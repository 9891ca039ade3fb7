-- The children of a directory, listed in the order of the files below it.
--     left_in dir es      the files in a directory at the front of es;  from_dir d es      files by their paths from there
use Rattle.std.proofs.Common.{◌≡◌, ◌⊎◌, inl, inr, ℕ, Bool, true, false, cond, ◌&&◌, Bor, Option, Some, None, List, [], ◌∷◌, map, length, drop, filter, refl, sym, ap, subst, ◌∙◌}
use Rattle.std.specs.Prelude.{◌==◌, bytes_eq, nat_lt, filter_map}
use Rattle.std.specs.List.{list_any, AllByRecursion, dedup, dedup_from, cons_option}
use Rattle.std.specs.List.Sorted.{IsStrictlySortedBy}
use Rattle.std.specs.Map.{keys_of}
use Rattle.std.specs.FinMap.{is_sorted}
use Rattle.std.specs.FinMap.Entries.{below_all}
use Rattle.std.specs.BTreeMap.Range.{entries_between}
use Rattle.std.specs.declared.ops.Bound.TheVariants.{Excluded, Unbounded}
use Rattle.std.specs.declared.cmp.Ordering.{Ordering}
use Rattle.std.specs.declared.cmp.Ordering.TheVariants.{Less, Equal, Greater}
use Rattle.std.specs.Ordering.{is_lt, is_eq, ordering_then, nat_cmp}
use Rattle.std.specs.Cmp.Lexicographic.{slice_cmp, texts_ties, nat_list_eq_equiv}
use Rattle.std.proofs.lemmas.Bool.{ltb-false}
use Rattle.byte_fields.proofs.Lists.{weaker}
use Rattle.std.proofs.lemmas.Cmp.{nat_list_cmp_total, tied_itself}
use Rattle.std.proofs.lemmas.Slice.Eq.{bytes_eq-Decides}
use Rattle.std.proofs.lemmas.List.{drop_all}
use Rattle.changeset_model.specs.Path.{Path, path_cmp, path_lt, path_eq, is_prefix, is_strict_prefix, IsRising}
use Rattle.changeset_model.specs.Changeset as model
use Rattle.changeset_model.proofs.Paths.{path_cmp_total}
use Rattle.history_model.specs.Tree.{file_at, is_dir, below, first_element, names, children}
use Rattle.repo_path.specs.Order.{path_eq_ties}
use Rattle.repo_path.proofs.Faults.{first_of_two as first_of, second_of_two as second_of}
use Rattle.changeset_model.proofs.Rising.{less_of}
use Rattle.tree_fold.specs.declared.file.File.{File}
use Rattle.tree_fold.specs.View.{file_view, files_view}
use Rattle.tree_fold.specs.Listing.{dir_path, start_bound, is_in, is_again, alone, listed}
use Rattle.tree_fold.proofs.Ranges.{front, front-after}
use Rattle.tree_fold.proofs.Trees.{view_sorted, sorted_rising}
use Rattle.byte_fields.proofs.Booleans.{neither}
use Rattle.tree_fold.proofs.Trees.{both}

abbrev Files : Type 0
Files = List (Path × model.File)

abbrev Name : Type 0
Name = List ℕ

abbrev pub left_in : Option (Bor Path) → List (Path × File) → List (Path × File)
left_in dir [] = []
left_in dir (e ∷ es) = cond (is_in dir e.0) (e ∷ left_in dir es) []

abbrev pub from_dir : Path → List (Path × File) → Files
from_dir d es = map (λ e. (drop (length d) e.0, file_view e.1)) es

same_name : (n m : Name) → bytes_eq n m ≡ true → n ≡ m
same_name n m h = (bytes_eq-Decides n m).0 h

-- ---- names in order

abbrev name_cmp : Name → Name → Ordering
name_cmp = slice_cmp nat_cmp

-- the names of paths, without one that stands again right behind itself
abbrev heads : Option Name → List Name → List Name
heads before [] = []
heads before (n ∷ ns) = cond (is_again before n) (heads before ns) (n ∷ heads (Some n) ns)

eq_comm : (n m : Name) → bytes_eq n m ≡ bytes_eq m n
eq_comm n m = nat_list_eq_equiv.symm n m

dedup_by : (k n : Name) (ns : List Name) → (later : (m : Name) → dedup_from bytes_eq m ns ≡ m ∷ heads (Some m) ns) → (b : Bool) → bytes_eq n k ≡ b → cond b (dedup_from bytes_eq k ns) (k ∷ dedup_from bytes_eq n ns) ≡ k ∷ cond (bytes_eq k n) (heads (Some k) ns) (n ∷ heads (Some n) ns)
dedup_by k n ns later true e = later k ∙ ap (λ b. k ∷ cond b (heads (Some k) ns) (n ∷ heads (Some n) ns)) (sym (eq_comm k n ∙ e))
dedup_by k n ns later false e = ap (λ ms. k ∷ ms) (later n) ∙ ap (λ b. k ∷ cond b (heads (Some k) ns) (n ∷ heads (Some n) ns)) (sym (eq_comm k n ∙ e))

dedup_from-heads : (ns : List Name) (k : Name) → dedup_from bytes_eq k ns ≡ k ∷ heads (Some k) ns
dedup_from-heads [] k = refl
dedup_from-heads (n ∷ ns) k = dedup_by k n ns (dedup_from-heads ns) (bytes_eq n k) refl

dedup-heads : (ns : List Name) → dedup bytes_eq ns ≡ heads None ns
dedup-heads [] = refl
dedup-heads (n ∷ ns) = dedup_from-heads ns n

abbrev firsts : Files → List Name
firsts fs = filter_map (λ f. first_element f.0) fs

-- ---- each name with its file

-- a name is behind another, if there is one
abbrev IsBehind : Option Name → Name → Type 0
IsBehind None m = Unit {0}
IsBehind (Some k) m = name_cmp k m ≡ Less

-- a path begins with this name or a later one
abbrev BeginsFrom : Option Name → Path → Type 0
BeginsFrom before [] = Unit {0}
BeginsFrom None (m ∷ p) = Unit {0}
BeginsFrom (Some k) (m ∷ p) = (bytes_eq k m ≡ true) ⊎ (name_cmp k m ≡ Less)

behind_of : (before : Option Name) (n : Name) (p : Path) → BeginsFrom before (n ∷ p) → is_again before n ≡ false → IsBehind before n
behind_of None n p from other = tt
behind_of (Some k) n p (inl same) other = absurd (cc)
behind_of (Some k) n p (inr less) other = less

behind_next : (before : Option Name) (n m : Name) → IsBehind before n → name_cmp n m ≡ Less → IsBehind before m
behind_next None n m behind less = tt
behind_next (Some k) n m behind less = nat_list_cmp_total.trans k n m behind less

names_less : (n m : Name) (p q : Path) → path_lt (n ∷ p) (m ∷ q) ≡ true → BeginsFrom (Some n) (m ∷ q)
names_less n m p q less = by (name_cmp n m) refl less
  where
    by : (o : Ordering) → name_cmp n m ≡ o → is_lt (ordering_then o (path_cmp p q)) ≡ true → (bytes_eq n m ≡ true) ⊎ (name_cmp n m ≡ Less)
    by Less e h = inr e
    by Equal e h = inl (texts_ties n m ∙ ap is_eq e)
    by Greater e h = absurd (cc)

-- all that comes after a path begins with its first element or a later one
from_head : (n : Name) (p : Path) (fs : Files) → below_all path_cmp (n ∷ p) fs ≡ true → AllByRecursion (λ f. BeginsFrom (Some n) f.0) fs
from_head n p [] h = tt
from_head n p (([], f) ∷ fs) h = (tt, from_head n p fs (second_of false (below_all path_cmp (n ∷ p) fs) h))
from_head n p ((m ∷ q, f) ∷ fs) h =
    (names_less n m p q (first_of (path_lt (n ∷ p) (m ∷ q)) (below_all path_cmp (n ∷ p) fs) h), from_head n p fs (second_of (path_lt (n ∷ p) (m ∷ q)) (below_all path_cmp (n ∷ p) fs) h))

file_at_first : (p : Path) (g : Path × model.File) (fs : Files) → file_at (g ∷ fs) p ≡ cond (path_eq p g.0) (Some g.1) (file_at fs p)
file_at_first p g fs = ap (λ b. cond b (Some g.1) (file_at fs p)) (sym (path_eq_ties p g.0))

less_differ : (n m : Name) → name_cmp n m ≡ Less → bytes_eq m n ≡ false
less_differ n m less = eq_comm m n ∙ texts_ties n m ∙ ap is_eq less

-- a later name isn't that of this path
skips : (m n : Name) (p : Path) (f : model.File) (fs : Files) → bytes_eq m n ≡ false → file_at ((n ∷ p, f) ∷ fs) (m ∷ []) ≡ file_at fs (m ∷ [])
skips m n p f fs other = file_at_first (m ∷ []) (n ∷ p, f) fs ∙ ap (λ b. cond (b && path_eq [] p) (Some f) (file_at fs (m ∷ []))) other

none_behind : (p : Path) (fs : Files) → below_all path_cmp p fs ≡ true → (q : Path) → (path_cmp q p ≡ Less) → file_at fs q ≡ None
none_behind p [] h q less = refl
none_behind p (g ∷ fs) h q less =
    let later : path_cmp q g.0 ≡ Less = path_cmp_total.trans q p g.0 less (less_of (path_cmp p g.0) (first_of (path_lt p g.0) (below_all path_cmp p fs) h)) in
    ap (λ o. cond (is_eq o) (Some g.1) (file_at fs q)) later ∙ none_behind p fs (second_of (path_lt p g.0) (below_all path_cmp p fs) h) q less

name_itself : (n : Name) → bytes_eq n n ≡ true
name_itself n = nat_list_eq_equiv.refl n

-- the file of a name is that of the first path that begins with it, if that is all of the path
file_of_first : (n : Name) (p : Path) (f : model.File) (fs : Files) → below_all path_cmp (n ∷ p) fs ≡ true → file_at ((n ∷ p, f) ∷ fs) (n ∷ []) ≡ alone p f
file_of_first n [] f fs below = file_at_first (n ∷ []) (n ∷ [], f) fs ∙ ap (λ b. cond (b && true) (Some f) (file_at fs (n ∷ []))) (name_itself n)
file_of_first n (e ∷ p) f fs below =
    file_at_first (n ∷ []) (n ∷ e ∷ p, f) fs ∙ ap (λ b. cond (b && false) (Some f) (file_at fs (n ∷ []))) (name_itself n)
    ∙ none_behind (n ∷ e ∷ p) fs below (n ∷ []) (ap (λ o. ordering_then o Less) (tied_itself nat_list_cmp_total n))

again_differ : (before : Option Name) (n m : Name) → is_again before n ≡ true → IsBehind before m → bytes_eq m n ≡ false
again_differ None n m again behind = absurd (cc)
again_differ (Some k) n m again behind = ap (bytes_eq m) (sym (same_name k n again)) ∙ less_differ k m behind

listed_by : (before : Option Name) (n : Name) (p : Path) (f : model.File) (fs : Files) (at : Name → Option model.File) (b : Bool) → is_again before n ≡ b
    → (b ≡ true → listed before fs ≡ map (λ m. (m, at m)) (heads before (firsts fs)))
    → (b ≡ false → (alone p f ≡ at n) × (listed (Some n) fs ≡ map (λ m. (m, at m)) (heads (Some n) (firsts fs))))
    → cond b (listed before fs) ((n, alone p f) ∷ listed (Some n) fs) ≡ map (λ m. (m, at m)) (cond b (heads before (firsts fs)) (n ∷ heads (Some n) (firsts fs)))
listed_by before n p f fs at true e again other = again refl
listed_by before n p f fs at false e again other = let parts = other refl in (λ i. (n, parts.0 i) ∷ parts.1 i)

-- what is listed is each name with its file
listed-heads : (before : Option Name) (fs : Files) (at : Name → Option model.File) → is_sorted path_cmp fs ≡ true → AllByRecursion (λ f. BeginsFrom before f.0) fs → ((m : Name) → IsBehind before m → at m ≡ file_at fs (m ∷ [])) → listed before fs ≡ map (λ m. (m, at m)) (heads before (firsts fs))
listed-heads before [] at rises from is = refl
listed-heads before (([], f) ∷ fs) at rises from is =
    listed-heads before fs at (second_of (below_all path_cmp [] fs) (is_sorted path_cmp fs) rises) from.1 (λ m behind. is m behind ∙ file_at_first (m ∷ []) ([], f) fs)
listed-heads before ((n ∷ p, f) ∷ fs) at rises from is =
    let later = second_of (below_all path_cmp (n ∷ p) fs) (is_sorted path_cmp fs) rises in
    let below = first_of (below_all path_cmp (n ∷ p) fs) (is_sorted path_cmp fs) rises in
    listed_by before n p f fs at (is_again before n) refl
    (λ again. listed-heads before fs at later from.1 (λ m behind. is m behind ∙ skips m n p f fs (again_differ before n m again behind)))
    (λ other. let behind = behind_of before n p from.0 other in
    (sym (is n behind ∙ file_of_first n p f fs below), listed-heads (Some n) fs at later (from_head n p fs below) (λ m less. is m (behind_next before n m behind less) ∙ skips m n p f fs (less_differ n m less))))

any_begin : (fs : Files) → AllByRecursion (λ f. BeginsFrom None f.0) fs
any_begin [] = tt
any_begin (([], f) ∷ fs) = (tt, any_begin fs)
any_begin ((n ∷ p, f) ∷ fs) = (tt, any_begin fs)

-- the files by rising paths are listed as the children of the root
pub listed-children : (fs : Files) → is_sorted path_cmp fs ≡ true → listed None fs ≡ children fs
listed-children fs rises =
    listed-heads None fs (λ m. file_at fs (m ∷ [])) rises (any_begin fs) (λ m behind. refl)
    ∙ ap (map (λ m. (m, file_at fs (m ∷ [])))) (sym (dedup-heads (firsts fs)))

-- ---- below a directory

same_cmp : (n m : Name) → n ≡ m → name_cmp n m ≡ Equal
same_cmp n m e = ap (name_cmp n) (sym e) ∙ tied_itself nat_list_cmp_total n

cmp-from : (d p q : Path) → is_prefix d p ≡ true → is_prefix d q ≡ true → path_cmp (drop (length d) p) (drop (length d) q) ≡ path_cmp p q
cmp-from [] p q h g = refl
cmp-from (e ∷ d) [] q h g = absurd (cc)
cmp-from (e ∷ d) (f ∷ p) [] h g = absurd (cc)
cmp-from (e ∷ d) (f ∷ p) (k ∷ q) h g =
    let same : f ≡ k = sym (same_name e f (first_of (bytes_eq e f) (is_prefix d p) h)) ∙ same_name e k (first_of (bytes_eq e k) (is_prefix d q) g) in
    cmp-from d p q (second_of (bytes_eq e f) (is_prefix d p) h) (second_of (bytes_eq e k) (is_prefix d q) g)
    ∙ ap (λ o. ordering_then o (path_cmp p q)) (sym (same_cmp f k same))

abbrev one_below : Path → Bool → Path × model.File → Files → Files
one_below d b f fs = cons_option (cond b (Some (drop (length d) f.0, f.1)) None) fs

lower_by : (d p : Path) (f : Path × model.File) (fs : Files) → is_prefix d p ≡ true → path_lt p f.0 ≡ true → below_all path_cmp (drop (length d) p) fs ≡ true → (b : Bool) → is_prefix d f.0 ≡ b → below_all path_cmp (drop (length d) p) (one_below d b f fs) ≡ true
lower_by d p f fs inside less rest true e = both (path_lt (drop (length d) p) (drop (length d) f.0)) (below_all path_cmp (drop (length d) p) fs) (ap is_lt (cmp-from d p f.0 inside e) ∙ less) rest
lower_by d p f fs inside less rest false e = rest

lower-below : (d p : Path) (fs : Files) → is_prefix d p ≡ true → below_all path_cmp p fs ≡ true → below_all path_cmp (drop (length d) p) (below d fs) ≡ true
lower-below d p [] inside h = refl
lower-below d p (f ∷ fs) inside h =
    lower_by d p f (below d fs) inside (first_of (path_lt p f.0) (below_all path_cmp p fs) h) (lower-below d p fs inside (second_of (path_lt p f.0) (below_all path_cmp p fs) h)) (is_prefix d f.0) refl

sorted_below : (d : Path) (f : Path × model.File) (fs : Files) → (is_prefix d f.0 ≡ true → below_all path_cmp (drop (length d) f.0) fs ≡ true) → is_sorted path_cmp fs ≡ true → (b : Bool) → is_prefix d f.0 ≡ b → is_sorted path_cmp (one_below d b f fs) ≡ true
sorted_below d f fs lower rises true e = both (below_all path_cmp (drop (length d) f.0) fs) (is_sorted path_cmp fs) (lower e) rises
sorted_below d f fs lower rises false e = rises

-- the files below a directory rise where all files do
pub below-sorted : (d : Path) (fs : Files) → is_sorted path_cmp fs ≡ true → is_sorted path_cmp (below d fs) ≡ true
below-sorted d [] rises = refl
below-sorted d (f ∷ fs) rises =
    sorted_below d f (below d fs) (λ inside. lower-below d f.0 fs inside (first_of (below_all path_cmp f.0 fs) (is_sorted path_cmp fs) rises)) (below-sorted d fs (second_of (below_all path_cmp f.0 fs) (is_sorted path_cmp fs) rises)) (is_prefix d f.0) refl

-- ---- what is listed of a directory

listed_cons : (g : Path × model.File) (fs gs : Files) → ((before : Option Name) → listed before fs ≡ listed before gs) → (before : Option Name) → listed before (g ∷ fs) ≡ listed before (g ∷ gs)
listed_cons ([], f) fs gs same before = same before
listed_cons (n ∷ p, f) fs gs same before = (λ i. cond (is_again before n) (same before i) ((n, alone p f) ∷ same (Some n) i))

listed_empty : (p : Path) (f : model.File) (fs : Files) (before : Option Name) → p ≡ [] → listed before ((p, f) ∷ fs) ≡ listed before fs
listed_empty p f fs before e = ap (λ p. listed before ((p, f) ∷ fs)) e

under_by : (d : Path) (e : Path × File) (fs : Files) (es : List (Path × File)) → ((before : Option Name) → listed before fs ≡ listed before (from_dir d es)) → (b l : Bool) → nat_lt (length d) (length e.0) ≡ l → (before : Option Name) → listed before (one_below d b (e.0, file_view e.1) fs) ≡ listed before (from_dir d (cond (b && l) (e ∷ es) es))
under_by d e fs es ih true true longer before = listed_cons (drop (length d) e.0, file_view e.1) fs (from_dir d es) ih before
under_by d e fs es ih true false longer before = listed_empty (drop (length d) e.0) (file_view e.1) fs before (drop_all (length d) e.0 (ltb-false (length d) (length e.0) longer)) ∙ ih before
under_by d e fs es ih false l longer before = ih before

-- a file that is the directory itself isn't listed
listed-under : (d : Path) (es : List (Path × File)) (before : Option Name) → listed before (below d (files_view es)) ≡ listed before (from_dir d (filter (λ e. is_strict_prefix d e.0) es))
listed-under d [] before = refl
listed-under d (e ∷ es) before = under_by d e (below d (files_view es)) (filter (λ e. is_strict_prefix d e.0) es) (listed-under d es) (is_prefix d e.0) (nat_lt (length d) (length e.0)) refl before

left_in-front : (d : Bor Path) (es : List (Path × File)) → left_in (Some d) es ≡ front d.now es
left_in-front d [] = refl
left_in-front d (e ∷ es) = ap (λ fs. cond (is_strict_prefix d.now e.0) (e ∷ fs) []) (left_in-front d es)

all_left : (es : List (Path × File)) → from_dir [] (left_in None (entries_between path_cmp Unbounded Unbounded es)) ≡ below [] (files_view es)
all_left [] = refl
all_left (e ∷ es) = ap (λ fs. (e.0, file_view e.1) ∷ fs) (all_left es)

-- what is listed of the files from the start of a directory on are its children
pub listed-dir : (dir : Option (Bor Path)) (es left : List (Path × File)) → IsStrictlySortedBy path_cmp (keys_of es) → left ≡ entries_between path_cmp (start_bound dir) Unbounded es → listed None (from_dir (dir_path dir) (left_in dir left)) ≡ children (below (dir_path dir) (files_view es))
listed-dir None es left rises is =
    ap (λ left. listed None (from_dir [] (left_in None left))) is ∙ ap (listed None) (all_left es)
    ∙ listed-children (below [] (files_view es)) (below-sorted [] (files_view es) (view_sorted es rises))
listed-dir (Some d) es left rises is =
    ap (λ left. listed None (from_dir d.now (left_in (Some d) left))) is
    ∙ ap (λ fs. listed None (from_dir d.now fs)) (left_in-front d (entries_between path_cmp (Excluded d.now) Unbounded es) ∙ front-after d.now es rises)
    ∙ sym (listed-under d.now es None)
    ∙ listed-children (below d.now (files_view es)) (below-sorted d.now (files_view es) (view_sorted es rises))

-- ---- the names rise

abbrev singles : List Name → List Path
singles ns = map (λ n. n ∷ []) ns

record AreRising (before : Option Name) (ns : List Name) : Type 0 where
  behind : AllByRecursion (IsBehind before) ns
  rise : IsRising (singles ns)

later_single : (n m : Name) → name_cmp n m ≡ Less → path_lt (n ∷ []) (m ∷ []) ≡ true
later_single n m less = ap (λ o. is_lt (ordering_then o Equal)) less

later_singles : (n : Name) (ns : List Name) → AllByRecursion (IsBehind (Some n)) ns → AllByRecursion (λ q. path_lt (n ∷ []) q ≡ true) (singles ns)
later_singles n [] all = tt
later_singles n (m ∷ ns) all = (later_single n m all.0, later_singles n ns all.1)

rising_by : (before : Option Name) (n : Name) (same later : List Name) (b : Bool) → is_again before n ≡ b → AreRising before same → (b ≡ false → IsBehind before n × AreRising (Some n) later) → AreRising before (cond b same (n ∷ later))
rising_by before n same later true e skipped new = skipped
rising_by before n same later false e skipped new =
    let parts = new refl in
    record {
      behind = (parts.0, weaker (IsBehind (Some n)) (IsBehind before) (λ m less. behind_next before n m parts.0 less) later parts.1.behind);
      rise = (later_singles n later parts.1.behind, parts.1.rise);
    }

heads-rise : (before : Option Name) (fs : Files) → is_sorted path_cmp fs ≡ true → AllByRecursion (λ f. BeginsFrom before f.0) fs → AreRising before (heads before (firsts fs))
heads-rise before [] rises from = record { behind = tt; rise = tt }
heads-rise before (([], f) ∷ fs) rises from = heads-rise before fs (second_of (below_all path_cmp [] fs) (is_sorted path_cmp fs) rises) from.1
heads-rise before ((n ∷ p, f) ∷ fs) rises from =
    let later = second_of (below_all path_cmp (n ∷ p) fs) (is_sorted path_cmp fs) rises in
    rising_by before n (heads before (firsts fs)) (heads (Some n) (firsts fs)) (is_again before n) refl (heads-rise before fs later from.1)
    (λ other. (behind_of before n p from.0 other, heads-rise (Some n) fs later (from_head n p fs (first_of (below_all path_cmp (n ∷ p) fs) (is_sorted path_cmp fs) rises))))

named : (at : Name → Option model.File) (ns : List Name) → map (λ (c : Name × Option model.File). c.0 ∷ []) (map (λ n. (n, at n)) ns) ≡ singles ns
named at [] = refl
named at (n ∷ ns) = ap (λ ps. (n ∷ []) ∷ ps) (named at ns)

pub children_rise : (fs : Files) (d : Path) → IsRising (map (λ f. f.0) fs) → IsRising (map (λ c. c.0 ∷ []) (children (below d fs)))
children_rise fs d rises =
    let inside = below d fs in
    let sorted = below-sorted d fs (sorted_rising fs rises) in
    subst IsRising (sym (named (λ n. file_at inside (n ∷ [])) (names inside) ∙ ap singles (dedup-heads (firsts inside)))) (heads-rise None inside sorted (any_begin inside)).rise

-- ---- where no directory is

no_first : (d p : Path) → is_strict_prefix d p ≡ false → (b : Bool) → is_prefix d p ≡ b → (f : model.File) (fs : Files) → firsts (one_below d b (p, f) fs) ≡ firsts fs
no_first d p apart true e f fs = ap (λ q. cons_option (first_element q) (firsts fs)) (drop_all (length d) p (ltb-false (length d) (length p) (ap (λ b. b && nat_lt (length d) (length p)) (sym e) ∙ apart)))
no_first d p apart false e f fs = refl

no_names : (d : Path) (fs : Files) → list_any (λ f. is_strict_prefix d f.0) fs ≡ false → firsts (below d fs) ≡ []
no_names d [] h = refl
no_names d (f ∷ fs) h =
    let parts = neither (is_strict_prefix d f.0) (list_any (λ f. is_strict_prefix d f.0) fs) h in
    no_first d f.0 parts.0 (is_prefix d f.0) refl f.1 (below d fs) ∙ no_names d fs parts.1

pub no_directory : (fs : Files) (d : Path) → is_dir fs d ≡ false → children (below d fs) ≡ []
no_directory fs d h =
    let none = neither (length d == 0) (list_any (λ f. is_strict_prefix d f.0) fs) h in
    ap (λ ns. map (λ n. (n, file_at (below d fs) (n ∷ []))) (dedup bytes_eq ns)) (no_names d fs none.1)
