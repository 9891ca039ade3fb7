-- Changesets that set no path under another leave no file under another.
use Rattle.std.proofs.Common.{◌≡◌, ◌<◌, ◌≤◌, ◌⊎◌, inl, inr, Bool, true, false, cond, ◌&&◌, ◌||◌, List, [], ◌∷◌, ◌++◌, length, reverse, refl, sym, ap, subst, ◌∙◌, arith}
use Rattle.std.specs.Prelude.{Option, Some, None, filter_map, find, bytes_eq, is_some, nat_lt, ◌==◌, option_and_then, option_map}
use mathlib.Core.Bool.{true≢false}
use mathlib.Core.List.{reverse-cons}
use Rattle.std.specs.List.{AllByRecursion, list_any, cons_option}
use Rattle.std.specs.Ordering.{is_eq, eq_by_cmp}
use Rattle.std.specs.Cmp.{tied_itself}
use Rattle.std.specs.FinMap.{find as find_key}
use Rattle.std.proofs.lemmas.Bool.{and_parts, and_from, or_parts, or_left, or_right, lt-ltb, ltb-true, ltb-false, false_from_ne_true}
use Rattle.std.proofs.lemmas.List.{reverse-reverse}
use Rattle.byte_fields.proofs.Lists.{all_push}
use Rattle.changeset_model.specs.Path.{Path, path_cmp, path_eq, is_prefix, is_strict_prefix, comparable}
use Rattle.changeset_model.specs.Changeset.{File, FileChange, Set, Delete, Changeset, file_of, set_at, sets_of, self_conflict}
use Rattle.changeset_model.proofs.Paths.{path_cmp_total, comparable-comm}
use Rattle.history_model.specs.Tree.{decides_at, decides, tree, files, file_at, is_file, is_dir, below}
use Rattle.manifest_model.specs.Unode.{is_renewed}
use Rattle.manifest_model.proofs.Derivations.{tied_same}
use Rattle.manifest_model.proofs.Links.{file_at-files}
use Rattle.manifest_laws.specs.Changes.{AreClear}
use Rattle.manifest_laws.proofs.Under.{Files}
use Rattle.manifest_laws.proofs.Names.{same_name, name_itself}
use Rattle.manifest_laws.proofs.Changes.{prefix_trans, prefixes_compare, equal_prefix, one_more, undecided_kept, same_trees_below}
use Rattle.manifest_laws.proofs.Lists.{true_and_false, none_some}
use Rattle.manifest_model.proofs.Derivations.{or_case as or_either}
use Rattle.byte_fields.proofs.Booleans.{same_some, unmapped as no_map}
use Rattle.byte_fields.proofs.Lists.{none_found, none_first}

-- ---- what a changeset sets

abbrev found_file : Path → List (Path × FileChange) → Option File
found_file p es = option_and_then file_of (find_key path_cmp p es)

set_decides_by : (p q r : Path) (f : File) (change : FileChange) (es : List (Path × FileChange)) → comparable p q ≡ true → (found_file p es ≡ Some f → list_any (λ e. decides_at e.1 e.0 q) es ≡ true) → (b : Bool) → eq_by_cmp path_cmp p r ≡ b → option_and_then file_of (cond b (Some change) (find_key path_cmp p es)) ≡ Some f → (decides_at change r q || list_any (λ e. decides_at e.1 e.0 q) es) ≡ true
set_decides_by p q r f (Set g copied) es near ih true t h = or_left (comparable r q) (list_any (λ e. decides_at e.1 e.0 q) es) (ap (λ x. comparable x q) (sym (tied_same p r t)) ∙ near)
set_decides_by p q r f Delete es near ih true t h = none_some f h
set_decides_by p q r f change es near ih false t h = or_right (decides_at change r q) (list_any (λ e. decides_at e.1 e.0 q) es) (ih h)

set_decides_in : (p q : Path) (f : File) (es : List (Path × FileChange)) → comparable p q ≡ true → found_file p es ≡ Some f → list_any (λ e. decides_at e.1 e.0 q) es ≡ true
set_decides_in p q f [] near h = none_some f h
set_decides_in p q f ((r, change) ∷ es) near h = set_decides_by p q r f change es near (set_decides_in p q f es near) (eq_by_cmp path_cmp p r) refl h

-- a set decides each path that is comparable
pub set_decides : (c : Changeset) (p q : Path) (f : File) → set_at c p ≡ Some f → comparable p q ≡ true → decides c q ≡ true
set_decides c p q f h near = set_decides_in p q f c.changes near h

abbrev pub sets_in : List (Path × FileChange) → Files
sets_in es = filter_map (λ e. option_map (λ f. (e.0, f)) (file_of e.1)) es

set_has_by : (P : Path × File → Type 0) (p r : Path) (f : File) (change : FileChange) (es : List (Path × FileChange)) → (found_file p es ≡ Some f → AllByRecursion P (sets_in es) → P (p, f)) → (b : Bool) → eq_by_cmp path_cmp p r ≡ b → option_and_then file_of (cond b (Some change) (find_key path_cmp p es)) ≡ Some f → AllByRecursion P (cons_option (option_map (λ f. (r, f)) (file_of change)) (sets_in es)) → P (p, f)
set_has_by P p r f (Set g copied) es ih true t h all = subst P (λ i. (sym (tied_same p r t) i, same_some g f h i)) all.0
set_has_by P p r f Delete es ih true t h all = none_some f h
set_has_by P p r f (Set g copied) es ih false t h all = ih h all.1
set_has_by P p r f Delete es ih false t h all = ih h all

set_has : (P : Path × File → Type 0) (p : Path) (f : File) (es : List (Path × FileChange)) → found_file p es ≡ Some f → AllByRecursion P (sets_in es) → P (p, f)
set_has P p f [] h all = none_some f h
set_has P p f ((r, change) ∷ es) h all = set_has_by P p r f change es (set_has P p f es) (eq_by_cmp path_cmp p r) refl h all

clear_sets : (c : Changeset) → self_conflict c ≡ None → (p q : Path) (f g : File) → set_at c p ≡ Some f → set_at c q ≡ Some g → is_strict_prefix p q ≡ false
clear_sets c clear p q f g h k =
    let sets = sets_of c in
    let lone = set_has (λ long. option_map (λ (short : Path × File). (short.0, long.0)) (find (λ short. is_strict_prefix short.0 long.0) sets) ≡ None) q g c.changes k (none_first (λ long. option_map (λ (short : Path × File). (short.0, long.0)) (find (λ short. is_strict_prefix short.0 long.0) sets)) sets clear) in
    set_has (λ short. is_strict_prefix short.0 q ≡ false) p f c.changes h (none_found (λ (short : Path × File). is_strict_prefix short.0 q) sets (no_map (λ (short : Path × File). (short.0, q)) (find (λ short. is_strict_prefix short.0 q) sets) lone))

-- ---- no file under another

strict_near : (p q : Path) → is_strict_prefix p q ≡ true → comparable p q ≡ true
strict_near p q h = or_left (is_prefix p q) (is_prefix q p) (and_parts (is_prefix p q) (nat_lt (length p) (length q)) h).0

flat_by : (c : Changeset) (p q : Path) (f : File) (before_p before_q : Option File) → self_conflict c ≡ None → is_strict_prefix p q ≡ true → (before_p ≡ Some f → before_q ≡ None)
    → (dp : Bool) → decides c p ≡ dp → (dq : Bool) → decides c q ≡ dq → (o : Option File) → set_at c q ≡ o → cond dp (set_at c p) before_p ≡ Some f → cond dq o before_q ≡ None
flat_by c p q f bp bq clear under ih true e true g None s h = refl
flat_by c p q f bp bq clear under ih true e true g (Some x) s h = true_and_false (is_strict_prefix p q) under (clear_sets c clear p q f x h s)
flat_by c p q f bp bq clear under ih true e false g o s h = true_and_false (decides c q) (set_decides c p q f h (strict_near p q under)) g
flat_by c p q f bp bq clear under ih false e true g None s h = refl
flat_by c p q f bp bq clear under ih false e true g (Some x) s h = true_and_false (decides c p) (set_decides c q p x s (comparable-comm q p ∙ strict_near p q under)) e
flat_by c p q f bp bq clear under ih false e false g o s h = ih h

backwards : (c : Changeset) (rs : List Changeset) (p : Path) → tree (reverse (c ∷ rs)) p ≡ cond (decides c p) (set_at c p) (tree (reverse rs) p)
backwards c rs p = ap (λ cs. tree cs p) (reverse-cons c rs) ∙ one_more (reverse rs) c p

-- of changesets, the newest first
flat_back : (rs : List Changeset) → AreClear rs → (p q : Path) (f : File) → is_strict_prefix p q ≡ true → tree (reverse rs) p ≡ Some f → tree (reverse rs) q ≡ None
flat_back [] clear p q f under h = none_some f h
flat_back (c ∷ rs) clear p q f under h =
    backwards c rs q
    ∙ flat_by c p q f (tree (reverse rs) p) (tree (reverse rs) q) clear.0 under (flat_back rs clear.1 p q f under) (decides c p) refl (decides c q) refl (set_at c q) refl (sym (backwards c rs p) ∙ h)

clear_reverse : (cs : List Changeset) → AreClear cs → AreClear (reverse cs)
clear_reverse [] h = tt
clear_reverse (c ∷ cs) h = subst AreClear (sym (reverse-cons c cs)) (all_push (λ c. self_conflict c ≡ None) (reverse cs) c (clear_reverse cs h.1) h.0)

pub flat : (cs : List Changeset) → AreClear cs → (p q : Path) (f : File) → is_strict_prefix p q ≡ true → tree cs p ≡ Some f → tree cs q ≡ None
flat cs clear p q f under h =
    ap (λ cs. tree cs q) (sym (reverse-reverse cs))
    ∙ flat_back (reverse cs) (clear_reverse cs clear) p q f under (ap (λ cs. tree cs p) (reverse-reverse cs) ∙ h)

-- ---- a directory under which nothing is changed

pub prefix_length : (p q : Path) → is_prefix p q ≡ true → length p ≤ length q
prefix_length [] q h = omega arith
prefix_length (k ∷ p) [] h = absurd (true≢false (sym h))
prefix_length (k ∷ p) (m ∷ q) h = let rest : length p ≤ length q = prefix_length p q (and_parts (bytes_eq k m) (is_prefix p q) h).1 in omega arith

pub prefix_short : (d r : Path) → is_prefix d r ≡ true → length r ≤ length d → is_prefix r d ≡ true
prefix_short [] [] h g = refl
prefix_short [] (m ∷ r) h g = absurd (omega arith)
prefix_short (k ∷ d) [] h g = refl
prefix_short (k ∷ d) (m ∷ r) h g =
    let parts = and_parts (bytes_eq k m) (is_prefix d r) h in
    (λ i. (ap (λ x. bytes_eq m x) (same_name k m parts.0) ∙ name_itself m) i && prefix_short d r parts.1 (omega arith) i)

abbrev pub strict_parts : (d p : Path) → is_strict_prefix d p ≡ true → (is_prefix d p ≡ true) × (length d < length p)
strict_parts d p h = let parts = and_parts (is_prefix d p) (nat_lt (length d) (length p)) h in (parts.0, ltb-true (length d) (length p) parts.1)

pub strict_from : (d p : Path) → is_prefix d p ≡ true → length d < length p → is_strict_prefix d p ≡ true
strict_from d p h g = and_from (is_prefix d p) (nat_lt (length d) (length p)) h (lt-ltb (length d) (length p) g)

pub strict_then : (d p q : Path) → is_strict_prefix d p ≡ true → is_prefix p q ≡ true → is_strict_prefix d q ≡ true
strict_then d p q h g =
    let parts = strict_parts d p h in
    let long : length p ≤ length q = prefix_length p q g in
    let less : length d < length p = parts.1 in
    strict_from d q (prefix_trans d p q parts.0 g) (omega arith)

pub strict_under : (d p q : Path) → is_prefix d p ≡ true → is_strict_prefix p q ≡ true → is_strict_prefix d q ≡ true
strict_under d p q h g =
    let parts = strict_parts p q g in
    let long : length d ≤ length p = prefix_length d p h in
    let less : length p < length q = parts.1 in
    strict_from d q (prefix_trans d p q h parts.0) (omega arith)

-- a set above a path under d, or at it, is above each path under d, unless it is under d itself
above_all : (d p q r : Path) → is_strict_prefix d p ≡ true → is_strict_prefix d q ≡ true → is_strict_prefix d r ≡ false → is_prefix r p ≡ true → is_prefix r q ≡ true
above_all d p q r under other outside h =
    or_either (is_prefix r d) (is_prefix d r)
    (λ g. prefix_trans r d q g (strict_parts d q other).0)
    (λ g. by g (nat_lt (length d) (length r)) refl)
    (prefixes_compare d r p (strict_parts d p under).0 h)
  where
    by : is_prefix d r ≡ true → (b : Bool) → nat_lt (length d) (length r) ≡ b → is_prefix r q ≡ true
    by g true e = true_and_false (is_strict_prefix d r) (and_from (is_prefix d r) (nat_lt (length d) (length r)) g e) outside
    by g false e = prefix_trans r d q (prefix_short d r g (ltb-false (length d) (length r) e)) (strict_parts d q other).0

decided_alike : (d p q r : Path) (change : FileChange) → is_strict_prefix d p ≡ true → is_strict_prefix d q ≡ true → is_strict_prefix d r ≡ false → decides_at change r q ≡ false → decides_at change r p ≡ false
decided_alike d p q r (Set f copied) under other outside h =
    let parts = or_parts (is_prefix r q) (is_prefix q r) h in
    false_from_ne_true (comparable r p) (λ g. or_either (is_prefix r p) (is_prefix p r)
    (λ k. true_and_false (is_prefix r q) (above_all d p q r under other outside k) parts.0)
    (λ k. true_and_false (is_strict_prefix d r) (strict_then d p r under k) outside) g)
decided_alike d p q r Delete under other outside h = false_from_ne_true (path_eq r p) (λ g. true_and_false (is_strict_prefix d r) (strict_then d p r under (equal_prefix r p g)) outside)

none_decide_alike : (d p q : Path) (es : List (Path × FileChange)) → is_strict_prefix d p ≡ true → is_strict_prefix d q ≡ true → list_any (λ e. is_strict_prefix d e.0) es ≡ false → list_any (λ e. decides_at e.1 e.0 q) es ≡ false → list_any (λ e. decides_at e.1 e.0 p) es ≡ false
none_decide_alike d p q [] under other outside h = refl
none_decide_alike d p q (e ∷ es) under other outside h =
    let out = or_parts (is_strict_prefix d e.0) (list_any (λ e. is_strict_prefix d e.0) es) outside in
    let not = or_parts (decides_at e.1 e.0 q) (list_any (λ e. decides_at e.1 e.0 q) es) h in
    (λ i. decided_alike d p q e.0 e.1 under other out.0 not.0 i || none_decide_alike d p q es under other out.1 not.1 i)

set_under_by : (d q r : Path) (f : File) (change : FileChange) (es : List (Path × FileChange)) → is_strict_prefix d q ≡ true → (found_file q es ≡ Some f → list_any (λ e. is_strict_prefix d e.0) es ≡ true) → (b : Bool) → eq_by_cmp path_cmp q r ≡ b → option_and_then file_of (cond b (Some change) (find_key path_cmp q es)) ≡ Some f → (is_strict_prefix d r || list_any (λ e. is_strict_prefix d e.0) es) ≡ true
set_under_by d q r f change es under ih true t h = or_left (is_strict_prefix d r) (list_any (λ e. is_strict_prefix d e.0) es) (ap (is_strict_prefix d) (sym (tied_same q r t)) ∙ under)
set_under_by d q r f change es under ih false t h = or_right (is_strict_prefix d r) (list_any (λ e. is_strict_prefix d e.0) es) (ih h)

set_under : (d q : Path) (f : File) (es : List (Path × FileChange)) → is_strict_prefix d q ≡ true → found_file q es ≡ Some f → list_any (λ e. is_strict_prefix d e.0) es ≡ true
set_under d q f [] under h = none_some f h
set_under d q f ((r, change) ∷ es) under h = set_under_by d q r f change es under (set_under d q f es under) (eq_by_cmp path_cmp q r) refl h

-- nothing under it is set
pub unset_under : (c : Changeset) (d q : Path) → list_any (λ e. is_strict_prefix d e.0) c.changes ≡ false → is_strict_prefix d q ≡ true → set_at c q ≡ None
unset_under c d q outside under = by (set_at c q) refl
  where
    by : (o : Option File) → set_at c q ≡ o → set_at c q ≡ None
    by None e = e
    by (Some f) e = true_and_false (list_any (λ e. is_strict_prefix d e.0) c.changes) (set_under d q f c.changes under e) outside

present_by : (cs : List Changeset) (c : Changeset) (d q : Path) (f : File) → list_any (λ e. is_strict_prefix d e.0) c.changes ≡ false → is_strict_prefix d q ≡ true → (b : Bool) → decides c q ≡ b → cond b (set_at c q) (tree cs q) ≡ Some f → decides c q ≡ false
present_by cs c d q f outside under true e h = none_some f (sym (unset_under c d q outside under) ∙ h)
present_by cs c d q f outside under false e h = e

-- where a file is under d afterwards, all that is under d is as before
pub left_under : (cs : List Changeset) (c : Changeset) (d q : Path) (f : File) → list_any (λ e. is_strict_prefix d e.0) c.changes ≡ false → is_strict_prefix d q ≡ true → tree (cs ++ c ∷ []) q ≡ Some f → (p : Path) → is_strict_prefix d p ≡ true → tree (cs ++ c ∷ []) p ≡ tree cs p
left_under cs c d q f outside other h p under =
    undecided_kept cs c p (none_decide_alike d p q c.changes under other outside (present_by cs c d q f outside other (decides c q) refl (sym (one_more cs c q) ∙ h)))

-- ---- the files of a directory

pub tied_self : (p : Path) → eq_by_cmp path_cmp p p ≡ true
tied_self p = ap is_eq (tied_itself path_cmp_total p)

abbrev HasUnder : Files → Path → Type 0
HasUnder fs d = (q : Path) × (is_strict_prefix d q ≡ true) × (is_file fs q ≡ true)

still_file : (b : Bool) (f : File) (o : Option File) → is_some o ≡ true → is_some (cond b (Some f) o) ≡ true
still_file true f o h = refl
still_file false f o h = h

pub has_under : (fs : Files) (d : Path) → list_any (λ f. is_strict_prefix d f.0) fs ≡ true → HasUnder fs d
has_under [] d h = absurd (true≢false (sym h))
has_under (f ∷ fs) d h =
    or_either (is_strict_prefix d f.0) (list_any (λ f. is_strict_prefix d f.0) fs)
    (λ g. (f.0, g, ap (λ b. is_some (cond b (Some f.1) (find_key path_cmp f.0 fs))) (tied_self f.0)))
    (λ g. let rest = has_under fs d g in (rest.0, rest.1, still_file (eq_by_cmp path_cmp rest.0 f.0) f.1 (find_key path_cmp rest.0 fs) rest.2)) h

any_under_by : (d q : Path) (f : Path × File) (fs : Files) → is_strict_prefix d q ≡ true → (is_file fs q ≡ true → list_any (λ f. is_strict_prefix d f.0) fs ≡ true) → (b : Bool) → eq_by_cmp path_cmp q f.0 ≡ b → is_some (cond b (Some f.1) (find_key path_cmp q fs)) ≡ true → (is_strict_prefix d f.0 || list_any (λ f. is_strict_prefix d f.0) fs) ≡ true
any_under_by d q f fs under ih true t h = or_left (is_strict_prefix d f.0) (list_any (λ f. is_strict_prefix d f.0) fs) (ap (is_strict_prefix d) (sym (tied_same q f.0 t)) ∙ under)
any_under_by d q f fs under ih false t h = or_right (is_strict_prefix d f.0) (list_any (λ f. is_strict_prefix d f.0) fs) (ih h)

pub any_under : (fs : Files) (d q : Path) → is_strict_prefix d q ≡ true → is_file fs q ≡ true → list_any (λ f. is_strict_prefix d f.0) fs ≡ true
any_under [] d q under h = absurd (true≢false (sym h))
any_under (f ∷ fs) d q under h = any_under_by d q f fs under (any_under fs d q under) (eq_by_cmp path_cmp q f.0) refl h

pub is_strict_or_same : (d p : Path) → is_prefix d p ≡ true → (p ≡ d) ⊎ (is_strict_prefix d p ≡ true)
is_strict_or_same [] [] h = inl refl
is_strict_or_same [] (k ∷ p) h = inr (lt-ltb 0 (length (k ∷ p)) (omega arith))
is_strict_or_same (k ∷ d) [] h = absurd (true≢false (sym h))
is_strict_or_same (k ∷ d) (m ∷ p) h =
    let parts = and_parts (bytes_eq k m) (is_prefix d p) h in
    by parts.0 (is_strict_or_same d p parts.1)
  where
    by : bytes_eq k m ≡ true → (p ≡ d) ⊎ (is_strict_prefix d p ≡ true) → (m ∷ p ≡ k ∷ d) ⊎ (is_strict_prefix (k ∷ d) (m ∷ p) ≡ true)
    by same (inl e) = inl (λ i. sym (same_name k m same) i ∷ e i)
    by same (inr g) =
        let rest = strict_parts d p g in
        let less : length d < length p = rest.1 in
        inr (strict_from (k ∷ d) (m ∷ p) (and_from (bytes_eq k m) (is_prefix d p) same rest.0) (omega arith))

-- ---- what a changeset that renews nothing of a directory leaves

abbrev HasFile : (Path → Option File) → Path → Type 0
HasFile t d = (q : Path) × (f : File) × (is_strict_prefix d q ≡ true) × (t q ≡ Some f)

some_of : (o : Option File) → is_some o ≡ true → (f : File) × (o ≡ Some f)
some_of None h = absurd (true≢false (sym h))
some_of (Some f) h = (f, refl)

pub file_under : (cs : List Changeset) (d : Path) → (length d == 0) ≡ false → is_dir (files cs) d ≡ true → HasFile (tree cs) d
file_under cs d deep h =
    let found = has_under (files cs) d (ap (λ b. b || list_any (λ f. is_strict_prefix d f.0) (files cs)) (sym deep) ∙ h) in
    let some = some_of (file_at (files cs) found.0) found.2 in
    (found.0, some.0, found.1, sym (file_at-files cs found.0) ∙ some.1)

pub dir_from : (cs : List Changeset) (d q : Path) (f : File) → is_strict_prefix d q ≡ true → tree cs q ≡ Some f → is_dir (files cs) d ≡ true
dir_from cs d q f under e = or_right (length d == 0) (list_any (λ f. is_strict_prefix d f.0) (files cs)) (any_under (files cs) d q under (ap is_some (file_at-files cs q ∙ e)))

pub no_file_above : (cs : List Changeset) → AreClear cs → (d q : Path) (f : File) → is_strict_prefix d q ≡ true → tree cs q ≡ Some f → tree cs d ≡ None
no_file_above cs clear d q f under e = by (tree cs d) refl
  where
    by : (o : Option File) → tree cs d ≡ o → tree cs d ≡ None
    by None h = h
    by (Some g) h = none_some f (sym (flat cs clear d q g under h) ∙ e)

pub record IsLeft (cs : List Changeset) (c : Changeset) (d : Path) : Type 0 where
  pub deep : (length d == 0) ≡ false
  pub outside : list_any (λ e. is_strict_prefix d e.0) c.changes ≡ false
  pub was_dir : is_dir (files cs) d ≡ true
  pub no_file_before : tree cs d ≡ None
  pub no_file_after : tree (cs ++ c ∷ []) d ≡ None
  pub same : (p : Path) → is_prefix d p ≡ true → tree (cs ++ c ∷ []) p ≡ tree cs p

pub clear_front : (cs : List Changeset) (c : Changeset) → AreClear (cs ++ c ∷ []) → AreClear cs
clear_front [] c h = tt
clear_front (b ∷ cs) c h = (h.0, clear_front cs c h.1)

pub is_left : (cs : List Changeset) (c : Changeset) (d : Path) → AreClear (cs ++ c ∷ []) → is_renewed c d ≡ false → is_dir (files (cs ++ c ∷ [])) d ≡ true → IsLeft cs c d
is_left cs c d clear h dir =
    let parts = or_parts (length d == 0) (list_any (λ e. is_strict_prefix d e.0) c.changes) h in
    let found = file_under (cs ++ c ∷ []) d parts.0 dir in
    let left = left_under cs c d found.0 found.1 parts.1 found.2 found.3 in
    let there : tree cs found.0 ≡ Some found.1 = sym (left found.0 found.2) ∙ found.3 in
    let after = no_file_above (cs ++ c ∷ []) clear d found.0 found.1 found.2 found.3 in
    let before = no_file_above cs (clear_front cs c clear) d found.0 found.1 found.2 there in
    record {
      deep = parts.0;
      outside = parts.1;
      was_dir = dir_from cs d found.0 found.1 found.2 there;
      no_file_before = before;
      no_file_after = after;
      same = λ p inside. either p left after before (is_strict_or_same d p inside);
    }
  where
    either : (p : Path) → ((p : Path) → is_strict_prefix d p ≡ true → tree (cs ++ c ∷ []) p ≡ tree cs p) → tree (cs ++ c ∷ []) d ≡ None → tree cs d ≡ None → (p ≡ d) ⊎ (is_strict_prefix d p ≡ true) → tree (cs ++ c ∷ []) p ≡ tree cs p
    either p left after before (inl e) = ap (tree (cs ++ c ∷ [])) e ∙ after ∙ sym before ∙ ap (tree cs) (sym e)
    either p left after before (inr under) = left p under

pub left_below : (cs : List Changeset) (c : Changeset) (d : Path) → IsLeft cs c d → below d (files (cs ++ c ∷ [])) ≡ below d (files cs)
left_below cs c d left = same_trees_below (cs ++ c ∷ []) cs d left.same
