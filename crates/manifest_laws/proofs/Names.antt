-- The names in a directory: those of the files and directories directly in it, rising.
use Rattle.std.proofs.Common.{◌≡◌, ◌⊎◌, inl, inr, ℕ, suc, Bool, true, false, cond, ◌&&◌, ◌||◌, List, [], ◌∷◌, ◌++◌, map, length, drop, refl, sym, ap, ◌∙◌, arith, append-nil}
use Rattle.std.specs.Prelude.{Option, Some, None, filter_map, bytes_eq, is_some, nat_lt, ◌==◌}
use mathlib.Core.Bool.{true≢false}
use Rattle.std.specs.List.{AllByRecursion, list_any, cons_option, dedup, dedup_from}
use Rattle.std.specs.declared.cmp.Ordering.{Ordering}
use Rattle.std.specs.declared.cmp.Ordering.TheVariants.{Less, Equal, Greater}
use Rattle.std.specs.Ordering.{is_eq, is_lt, nat_cmp, eq_by_cmp, ordering_then}
use Rattle.std.specs.Cmp.{first_so, second_so, tied_itself}
use Rattle.std.specs.Cmp.Lexicographic.{slice_cmp, texts_ties, nat_list_cmp_total}
use Rattle.std.specs.FinMap.{is_sorted, find as find_key}
use Rattle.std.specs.FinMap.Entries.{below_all}
use Rattle.std.proofs.lemmas.Bool.{and_from, lt-ltb, ne_eqb}
use Rattle.std.proofs.lemmas.Slice.Eq.{bytes_eq-Decides}
use Rattle.changeset_model.specs.Path.{Path, path_cmp, path_lt, is_prefix, is_strict_prefix}
use Rattle.changeset_model.specs.Changeset.{File}
use Rattle.history_model.specs.Tree.{file_at, is_file, is_dir, below, first_element, names}
use Rattle.manifest_laws.proofs.Under.{Files}
use Rattle.manifest_laws.proofs.Lists.{and_assoc, one_longer}

abbrev pub Name : Type 0
Name = List ℕ

abbrev pub name_cmp : Name → Name → Ordering
name_cmp = slice_cmp nat_cmp

pub same_name : (n m : Name) → bytes_eq n m ≡ true → n ≡ m
same_name n m h = (bytes_eq-Decides n m).0 h

pub name_itself : (n : Name) → bytes_eq n n ≡ true
name_itself n = texts_ties n n ∙ ap is_eq (tied_itself nat_list_cmp_total n)

-- ---- what lies below a directory, by its paths

pub first_tells : (o r : Ordering) → is_eq (ordering_then o r) ≡ (is_eq o && is_eq r)
first_tells Less r = refl
first_tells Equal r = refl
first_tells Greater r = refl

tied_below : (d q p : Path) → eq_by_cmp path_cmp (d ++ q) p ≡ (is_prefix d p && eq_by_cmp path_cmp q (drop (length d) p))
tied_below [] q p = refl
tied_below (k ∷ d) q [] = refl
tied_below (k ∷ d) q (m ∷ p) =
    first_tells (name_cmp k m) (path_cmp (d ++ q) p)
    ∙ (λ i. sym (texts_ties k m) i && tied_below d q p i)
    ∙ sym (and_assoc (bytes_eq k m) (is_prefix d p) (eq_by_cmp path_cmp q (drop (length d) p)))

found_by : (d q : Path) (f : Path × File) (rest : Files) (later : Option File) → find_key path_cmp q rest ≡ later → (b t : Bool) → eq_by_cmp path_cmp q (drop (length d) f.0) ≡ t → find_key path_cmp q (cons_option (cond b (Some (drop (length d) f.0, f.1)) None) rest) ≡ cond (b && t) (Some f.1) later
found_by d q f rest later e true t h = (λ i. cond (h i) (Some f.1) (e i))
found_by d q f rest later e false t h = e

-- the file at a path from the directory
pub file_at-below : (d : Path) (fs : Files) (q : Path) → file_at (below d fs) q ≡ file_at fs (d ++ q)
file_at-below d [] q = refl
file_at-below d (f ∷ fs) q =
    found_by d q f (below d fs) (file_at fs (d ++ q)) (file_at-below d fs q) (is_prefix d f.0) (eq_by_cmp path_cmp q (drop (length d) f.0)) refl
    ∙ ap (λ b. cond b (Some f.1) (file_at fs (d ++ q))) (sym (tied_below d q f.0))

pub strict_below : (d q p : Path) → is_strict_prefix (d ++ q) p ≡ (is_prefix d p && is_strict_prefix q (drop (length d) p))
strict_below [] q p = refl
strict_below (k ∷ d) q [] = refl
strict_below (k ∷ d) q (m ∷ p) = by (bytes_eq k m) (strict_below d q p)
  where
    by : (b : Bool) → is_strict_prefix (d ++ q) p ≡ (is_prefix d p && is_strict_prefix q (drop (length d) p)) → ((b && is_prefix (d ++ q) p) && nat_lt (length (k ∷ (d ++ q))) (length (m ∷ p))) ≡ ((b && is_prefix d p) && is_strict_prefix q (drop (length d) p))
    by true h = ap (λ l. is_prefix (d ++ q) p && l) (one_longer (length (d ++ q)) (length p)) ∙ h
    by false h = refl

any_by : (d q : Path) (f : Path × File) (rest : Files) (later : Bool) → list_any (λ g. is_strict_prefix q g.0) rest ≡ later → (b t : Bool) → is_strict_prefix q (drop (length d) f.0) ≡ t → list_any (λ g. is_strict_prefix q g.0) (cons_option (cond b (Some (drop (length d) f.0, f.1)) None) rest) ≡ ((b && t) || later)
any_by d q f rest later e true t h = λ i. h i || e i
any_by d q f rest later e false t h = e

pub under_below : (d : Path) (fs : Files) (q : Path) → list_any (λ g. is_strict_prefix q g.0) (below d fs) ≡ list_any (λ g. is_strict_prefix (d ++ q) g.0) fs
under_below d [] q = refl
under_below d (f ∷ fs) q =
    any_by d q f (below d fs) (list_any (λ g. is_strict_prefix (d ++ q) g.0) fs) (under_below d fs q) (is_prefix d f.0) (is_strict_prefix q (drop (length d) f.0)) refl
    ∙ ap (λ b. b || list_any (λ g. is_strict_prefix (d ++ q) g.0) fs) (sym (strict_below d q f.0))

some_length : (d : Path) (n : Name) → (length (d ++ n ∷ []) == 0) ≡ false
some_length [] n = refl
some_length (k ∷ d) n = no_zero (length (d ++ n ∷ []))
  where
    no_zero : (k : ℕ) → (suc k == 0) ≡ false
    no_zero k = ne_eqb (suc k) 0 (λ e. absurd (omega (arith, e)))

pub is_dir-below : (d : Path) (fs : Files) (n : Name) → is_dir (below d fs) (n ∷ []) ≡ is_dir fs (d ++ n ∷ [])
is_dir-below d fs n = under_below d fs (n ∷ []) ∙ ap (λ b. b || list_any (λ g. is_strict_prefix (d ++ n ∷ []) g.0) fs) (sym (some_length d n))

-- what is at a path tells itself by the files below it
pub file_by_below : (xs ys : Files) (p : Path) → below p xs ≡ below p ys → file_at xs p ≡ file_at ys p
file_by_below xs ys p e =
    ap (file_at xs) (sym (append-nil p)) ∙ sym (file_at-below p xs []) ∙ ap (λ fs. file_at fs []) e ∙ file_at-below p ys [] ∙ ap (file_at ys) (append-nil p)

pub any_by_below : (xs : Files) (p : Path) → is_dir xs p ≡ ((length p == 0) || list_any (λ g. is_strict_prefix [] g.0) (below p xs))
any_by_below xs p = ap (λ b. (length p == 0) || b) (ap (λ q. list_any (λ g. is_strict_prefix q g.0) xs) (sym (append-nil p)) ∙ sym (under_below p xs []))

pub dir_by_below : (xs ys : Files) (p : Path) → below p xs ≡ below p ys → is_dir xs p ≡ is_dir ys p
dir_by_below xs ys p e = any_by_below xs p ∙ ap (λ fs. (length p == 0) || list_any (λ g. is_strict_prefix [] g.0) fs) e ∙ sym (any_by_below ys p)

-- ---- each name

abbrev pub is_among : Name → List Name → Bool
is_among n ns = list_any (bytes_eq n) ns

twice_by : (a b c : Bool) → a ≡ b → (b || (a || c)) ≡ (b || c)
twice_by true true c e = refl
twice_by true false c e = absurd (true≢false e)
twice_by false true c e = refl
twice_by false false c e = refl

among_by : (n k x : Name) (xs : List Name) → ((m : Name) → is_among n (dedup_from bytes_eq m xs) ≡ (bytes_eq n m || is_among n xs)) → (b : Bool) → bytes_eq x k ≡ b → is_among n (cond b (dedup_from bytes_eq k xs) (k ∷ dedup_from bytes_eq x xs)) ≡ (bytes_eq n k || (bytes_eq n x || is_among n xs))
among_by n k x xs ih true e = ih k ∙ sym (twice_by (bytes_eq n x) (bytes_eq n k) (is_among n xs) (ap (bytes_eq n) (same_name x k e)))
among_by n k x xs ih false e = ap (λ b. bytes_eq n k || b) (ih x)

among_from : (n : Name) (ns : List Name) (k : Name) → is_among n (dedup_from bytes_eq k ns) ≡ (bytes_eq n k || is_among n ns)
among_from n [] k = refl
among_from n (x ∷ xs) k = among_by n k x xs (among_from n xs) (bytes_eq x k) refl

pub among_dedup : (n : Name) (ns : List Name) → is_among n (dedup bytes_eq ns) ≡ is_among n ns
among_dedup n [] = refl
among_dedup n (k ∷ ns) = among_from n ns k

abbrev pub firsts : Files → List Name
firsts fs = filter_map (λ f. first_element f.0) fs

alone_by : (o : Ordering) (b : Bool) → b ≡ is_eq o → b ≡ (is_eq (ordering_then o Equal) || ((b && true) && false))
alone_by Less true e = e
alone_by Less false e = refl
alone_by Equal true e = refl
alone_by Equal false e = e
alone_by Greater true e = e
alone_by Greater false e = refl

under_by : (o : Ordering) (b t : Bool) → b ≡ is_eq o → t ≡ true → b ≡ (is_eq (ordering_then o Less) || ((b && true) && t))
under_by Less b true e h = by b
  where
    by : (b : Bool) → b ≡ ((b && true) && true)
    by true = refl
    by false = refl
under_by Equal b true e h = by b
  where
    by : (b : Bool) → b ≡ ((b && true) && true)
    by true = refl
    by false = refl
under_by Greater b true e h = by b
  where
    by : (b : Bool) → b ≡ ((b && true) && true)
    by true = refl
    by false = refl
under_by o b false e h = absurd (true≢false (sym h))

begins : (n m : Name) (p : Path) → bytes_eq n m ≡ (eq_by_cmp path_cmp (n ∷ []) (m ∷ p) || is_strict_prefix (n ∷ []) (m ∷ p))
begins n m [] = alone_by (name_cmp n m) (bytes_eq n m) (texts_ties n m)
begins n m (e ∷ p) = under_by (name_cmp n m) (bytes_eq n m) (nat_lt (length (n ∷ [])) (length (m ∷ e ∷ p))) (texts_ties n m) (lt-ltb (length (n ∷ [])) (length (m ∷ e ∷ p)) (omega arith))

some_first : (b : Bool) (x : File) (o : Option File) → is_some (cond b (Some x) o) ≡ (b || is_some o)
some_first true x o = refl
some_first false x o = refl

mixed : (b e s f d : Bool) → b ≡ (e || s) → (b || (f || d)) ≡ ((e || f) || (s || d))
mixed b true s f d h = ap (λ b. b || (f || d)) h
mixed b false true true d h = ap (λ b. b || (true || d)) h
mixed b false true false d h = ap (λ b. b || (false || d)) h
mixed b false false f d h = ap (λ b. b || (f || d)) h

among_firsts : (n : Name) (fs : Files) → is_among n (firsts fs) ≡ (is_file fs (n ∷ []) || is_dir fs (n ∷ []))
among_firsts n [] = refl
among_firsts n (([], x) ∷ fs) = among_firsts n fs
among_firsts n ((m ∷ p, x) ∷ fs) =
    ap (λ b. bytes_eq n m || b) (among_firsts n fs)
    ∙ mixed (bytes_eq n m) (eq_by_cmp path_cmp (n ∷ []) (m ∷ p)) (is_strict_prefix (n ∷ []) (m ∷ p)) (is_file fs (n ∷ [])) (is_dir fs (n ∷ [])) (begins n m p)
    ∙ ap (λ b. b || (is_strict_prefix (n ∷ []) (m ∷ p) || is_dir fs (n ∷ []))) (sym (some_first (eq_by_cmp path_cmp (n ∷ []) (m ∷ p)) x (file_at fs (n ∷ []))))

-- a name stands in a directory where a file or a directory of this name is directly in it
pub among_names : (d : Path) (fs : Files) (n : Name) → is_among n (names (below d fs)) ≡ (is_file fs (d ++ n ∷ []) || is_dir fs (d ++ n ∷ []))
among_names d fs n =
    among_dedup n (firsts (below d fs)) ∙ among_firsts n (below d fs)
    ∙ (λ i. is_some (file_at-below d fs (n ∷ []) i) || is_dir-below d fs n i)

-- ---- what is found at a name

abbrev pub keyed : {X : Type 0} → (Name → X) → List Name → List (Name × X)
keyed f ns = map (λ n. (n, f n)) ns

looked_by : {X : Type 0} (f : Name → X) (n m : Name) (found : Option X) (later : Bool) → found ≡ cond later (Some (f n)) None → (b : Bool) → bytes_eq n m ≡ b → cond b (Some (f m)) found ≡ cond (b || later) (Some (f n)) None
looked_by f n m found later e true h = ap (λ k. Some (f k)) (sym (same_name n m h))
looked_by f n m found later e false h = e

pub looked_up : {X : Type 0} (f : Name → X) (n : Name) (ns : List Name) → find_key name_cmp n (keyed f ns) ≡ cond (is_among n ns) (Some (f n)) None
looked_up f n [] = refl
looked_up f n (m ∷ ns) =
    ap (λ b. cond b (Some (f m)) (find_key name_cmp n (keyed f ns))) (sym (texts_ties n m))
    ∙ looked_by f n m (find_key name_cmp n (keyed f ns)) (is_among n ns) (looked_up f n ns) (bytes_eq n m) refl

-- ---- the names rise

abbrev pub IsFrom : Name → Name → Type 0
IsFrom k m = (bytes_eq k m ≡ true) ⊎ (name_cmp k m ≡ Less)

abbrev pub AreOrdered : List Name → Type 0
AreOrdered [] = Unit {0}
AreOrdered (n ∷ ns) = AllByRecursion (IsFrom n) ns × AreOrdered ns

names_from : (n m : Name) (p q : Path) → path_lt (n ∷ p) (m ∷ q) ≡ true → IsFrom n m
names_from n m p q less = by (name_cmp n m) refl less
  where
    by : (o : Ordering) → name_cmp n m ≡ o → is_lt (ordering_then o (path_cmp p q)) ≡ true → (bytes_eq n m ≡ true) ⊎ (name_cmp n m ≡ Less)
    by Less e h = inr e
    by Equal e h = inl (texts_ties n m ∙ ap is_eq e)
    by Greater e h = absurd (true≢false (sym h))

from_head : (n : Name) (p : Path) (fs : Files) → below_all path_cmp (n ∷ p) fs ≡ true → AllByRecursion (IsFrom n) (firsts fs)
from_head n p [] h = tt
from_head n p (([], f) ∷ fs) h = from_head n p fs (second_so false (below_all path_cmp (n ∷ p) fs) h)
from_head n p ((m ∷ q, f) ∷ fs) h =
    (names_from n m p q (first_so (path_lt (n ∷ p) (m ∷ q)) (below_all path_cmp (n ∷ p) fs) h), from_head n p fs (second_so (path_lt (n ∷ p) (m ∷ q)) (below_all path_cmp (n ∷ p) fs) h))

ordered_firsts : (fs : Files) → is_sorted path_cmp fs ≡ true → AreOrdered (firsts fs)
ordered_firsts [] h = tt
ordered_firsts (([], f) ∷ fs) h = ordered_firsts fs (second_so (below_all path_cmp [] fs) (is_sorted path_cmp fs) h)
ordered_firsts ((n ∷ p, f) ∷ fs) h =
    (from_head n p fs (first_so (below_all path_cmp (n ∷ p) fs) (is_sorted path_cmp fs) h), ordered_firsts fs (second_so (below_all path_cmp (n ∷ p) fs) (is_sorted path_cmp fs) h))

less_from : (j k m : Name) → name_cmp j k ≡ Less → IsFrom k m → name_cmp j m ≡ Less
less_from j k m less (inl same) = ap (name_cmp j) (sym (same_name k m same)) ∙ less
less_from j k m less (inr next) = nat_list_cmp_total.trans j k m less next

module _ {X : Type 0} (f : Name → X) where
  above_dedup : (j k : Name) (ns : List Name) → name_cmp j k ≡ Less → AreOrdered (k ∷ ns) → below_all name_cmp j (keyed f (dedup_from bytes_eq k ns)) ≡ true
  above_dedup j k [] less h = ap (λ o. is_lt o && true) less
  above_dedup j k (x ∷ xs) less h = by (bytes_eq x k) (above_dedup j k xs less (h.0.1, h.1.1)) (above_dedup j x xs (less_from j k x less h.0.0) h.1)
    where
      by : (b : Bool) → below_all name_cmp j (keyed f (dedup_from bytes_eq k xs)) ≡ true → below_all name_cmp j (keyed f (dedup_from bytes_eq x xs)) ≡ true → below_all name_cmp j (keyed f (cond b (dedup_from bytes_eq k xs) (k ∷ dedup_from bytes_eq x xs))) ≡ true
      by true same later = same
      by false same later = λ i. is_lt (less i) && later i

  later_by : (k x : Name) → bytes_eq x k ≡ false → IsFrom k x → name_cmp k x ≡ Less
  later_by k x e (inl same) = absurd (true≢false (sym (name_itself x) ∙ ap (bytes_eq x) (sym (same_name k x same)) ∙ e))
  later_by k x e (inr less) = less

  sorted_by : (k x : Name) (xs : List Name) → IsFrom k x → AreOrdered (x ∷ xs) → is_sorted name_cmp (keyed f (dedup_from bytes_eq k xs)) ≡ true → is_sorted name_cmp (keyed f (dedup_from bytes_eq x xs)) ≡ true → (b : Bool) → bytes_eq x k ≡ b → is_sorted name_cmp (keyed f (cond b (dedup_from bytes_eq k xs) (k ∷ dedup_from bytes_eq x xs))) ≡ true
  sorted_by k x xs from h same later true e = same
  sorted_by k x xs from h same later false e = and_from (below_all name_cmp k (keyed f (dedup_from bytes_eq x xs))) (is_sorted name_cmp (keyed f (dedup_from bytes_eq x xs))) (above_dedup k x xs (later_by k x e from) h) later

  sorted_from : (ns : List Name) (k : Name) → AreOrdered (k ∷ ns) → is_sorted name_cmp (keyed f (dedup_from bytes_eq k ns)) ≡ true
  sorted_from [] k h = refl
  sorted_from (x ∷ xs) k h = sorted_by k x xs h.0.0 h.1 (sorted_from xs k (h.0.1, h.1.1)) (sorted_from xs x h.1) (bytes_eq x k) refl

  sorted_dedup : (ns : List Name) → AreOrdered ns → is_sorted name_cmp (keyed f (dedup bytes_eq ns)) ≡ true
  sorted_dedup [] h = refl
  sorted_dedup (k ∷ ns) h = sorted_from ns k h

  pub names_rise : (fs : Files) → is_sorted path_cmp fs ≡ true → is_sorted name_cmp (keyed f (names fs)) ≡ true
  names_rise fs h = sorted_dedup (firsts fs) (ordered_firsts fs h)

-- ---- the files below a directory rise

same_cmp : (n m : Name) → n ≡ m → name_cmp n m ≡ Equal
same_cmp n m e = ap (name_cmp n) (sym e) ∙ tied_itself nat_list_cmp_total n

cmp_from : (d p q : Path) → is_prefix d p ≡ true → is_prefix d q ≡ true → path_cmp (drop (length d) p) (drop (length d) q) ≡ path_cmp p q
cmp_from [] p q h g = refl
cmp_from (e ∷ d) [] q h g = absurd (true≢false (sym h))
cmp_from (e ∷ d) (f ∷ p) [] h g = absurd (true≢false (sym g))
cmp_from (e ∷ d) (f ∷ p) (k ∷ q) h g =
    let same : f ≡ k = sym (same_name e f (first_so (bytes_eq e f) (is_prefix d p) h)) ∙ same_name e k (first_so (bytes_eq e k) (is_prefix d q) g) in
    cmp_from d p q (second_so (bytes_eq e f) (is_prefix d p) h) (second_so (bytes_eq e k) (is_prefix d q) g)
    ∙ ap (λ o. ordering_then o (path_cmp p q)) (sym (same_cmp f k same))

lower_by : (d p : Path) (f : Path × File) (fs : Files) → is_prefix d p ≡ true → path_lt p f.0 ≡ true → below_all path_cmp (drop (length d) p) fs ≡ true → (b : Bool) → is_prefix d f.0 ≡ b → below_all path_cmp (drop (length d) p) (cons_option (cond b (Some (drop (length d) f.0, f.1)) None) fs) ≡ true
lower_by d p f fs inside less rest true e = and_from (path_lt (drop (length d) p) (drop (length d) f.0)) (below_all path_cmp (drop (length d) p) fs) (ap is_lt (cmp_from d p f.0 inside e) ∙ less) rest
lower_by d p f fs inside less rest false e = rest

lower_below : (d p : Path) (fs : Files) → is_prefix d p ≡ true → below_all path_cmp p fs ≡ true → below_all path_cmp (drop (length d) p) (below d fs) ≡ true
lower_below d p [] inside h = refl
lower_below d p (f ∷ fs) inside h =
    lower_by d p f (below d fs) inside (first_so (path_lt p f.0) (below_all path_cmp p fs) h) (lower_below d p fs inside (second_so (path_lt p f.0) (below_all path_cmp p fs) h)) (is_prefix d f.0) refl

sorted_below : (d : Path) (f : Path × File) (fs : Files) → (is_prefix d f.0 ≡ true → below_all path_cmp (drop (length d) f.0) fs ≡ true) → is_sorted path_cmp fs ≡ true → (b : Bool) → is_prefix d f.0 ≡ b → is_sorted path_cmp (cons_option (cond b (Some (drop (length d) f.0, f.1)) None) fs) ≡ true
sorted_below d f fs lower rises true e = and_from (below_all path_cmp (drop (length d) f.0) fs) (is_sorted path_cmp fs) (lower e) rises
sorted_below d f fs lower rises false e = rises

pub below_rises : (d : Path) (fs : Files) → is_sorted path_cmp fs ≡ true → is_sorted path_cmp (below d fs) ≡ true
below_rises d [] rises = refl
below_rises d (f ∷ fs) rises =
    sorted_below d f (below d fs) (λ inside. lower_below d f.0 fs inside (first_so (below_all path_cmp f.0 fs) (is_sorted path_cmp fs) rises)) (below_rises d fs (second_so (below_all path_cmp f.0 fs) (is_sorted path_cmp fs) rises)) (is_prefix d f.0) refl
