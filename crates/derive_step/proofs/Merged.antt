-- Entries by rising names, of which some were gone through.
use Rattle.std.proofs.Common.{◌≡◌, ◌⊎◌, inl, inr, ℕ, ◌<◌, Bool, true, false, cond, ◌&&◌, List, [], ◌∷◌, ◌++◌, length, get_or, refl, sym, ap, subst, ◌∙◌, append_assoc, arith}
use Rattle.std.specs.Prelude.{Option, Some, None, bytes_eq}
use mathlib.Core.Bool.{true≢false}
use Rattle.std.specs.declared.cmp.Ordering.{Ordering}
use Rattle.std.specs.declared.cmp.Ordering.TheVariants.{Less, Equal, Greater}
use Rattle.std.specs.List.{list_all}
use Rattle.std.specs.Ordering.{eq_by_cmp, is_lt, is_eq, ordering_reverse, ordering_then}
use Rattle.std.specs.Cmp.{tied_itself}
use Rattle.std.specs.Cmp.Lexicographic.{nat_list_cmp_total, texts_ties}
use Rattle.std.specs.FinMap.{is_sorted, find as find_key}
use Rattle.std.specs.FinMap.Entries.{below_all}
use Rattle.std.proofs.lemmas.Bool.{and_parts}
use Rattle.changeset_model.specs.Path.{Path, is_element, path_cmp, path_lt, is_strict_prefix}
use Rattle.changeset_model.specs.Changeset.{FileChange}
use Rattle.manifest_laws.proofs.Names.{same_name}
use Rattle.derive_step.specs.Slices.{past, left_after}
use Rattle.node_fields.specs.declared.child.Child.{Child}
use Rattle.node_fields.specs.Children.{children_seen}
use Rattle.derive_step.specs.declared.merge.Merge.{Merge}
use Rattle.derive_step.specs.Merge.{AreAhead, IsMerge, comes_before, is_before, stands_under, whole}
use Rattle.derive_step.proofs.Edits.{tied_name, name_swap}
use Rattle.derive_step.proofs.Entries.{by_name, list_all_push, none_below}
use Rattle.manifest_laws.proofs.Summaries.{later_differ as less_apart}

-- ---- names

less_of : (o : Ordering) → is_lt o ≡ true → o ≡ Less
less_of Less h = refl
less_of Equal h = absurd (cc)
less_of Greater h = absurd (cc)

pub name_trans : (a b c : List ℕ) → is_lt (by_name a b) ≡ true → is_lt (by_name b c) ≡ true → is_lt (by_name a c) ≡ true
name_trans a b c h g = ap is_lt (nat_list_cmp_total.trans a b c (less_of (by_name a b) h) (less_of (by_name b c) g))

pub not_tied : (a b : List ℕ) → is_lt (by_name a b) ≡ true → eq_by_cmp by_name a b ≡ false
not_tied a b h = less_apart (by_name a b) h

both : (a b : Bool) → a ≡ true → b ≡ true → (a && b) ≡ true
both a b h g = λ i. h i && g i

-- ---- those gone through come before a name

abbrev Named : Type 0 → Type 0
Named E = List (List ℕ × E)

module _ {E : Type 0} where
  pub before_parts : (n : List ℕ) (e : List ℕ × E) (xs : Named E) → is_before n (e ∷ xs) ≡ true → (is_lt (by_name e.0 n) ≡ true) × (is_before n xs ≡ true)
  before_parts n e xs h = and_parts (is_lt (by_name e.0 n)) (is_before n xs) h

  pub before_later : (n m : List ℕ) (xs : Named E) → is_lt (by_name n m) ≡ true → is_before n xs ≡ true → is_before m xs ≡ true
  before_later n m [] less h = refl
  before_later n m (e ∷ xs) less h =
      let parts = before_parts n e xs h in
      both (is_lt (by_name e.0 m)) (is_before m xs) (name_trans e.0 n m parts.0 less) (before_later n m xs less parts.1)

  -- one entry more
  pub before_push : (n : List ℕ) (xs : Named E) (e : List ℕ × E) → is_before n xs ≡ true → is_lt (by_name e.0 n) ≡ true → is_before n (xs ++ e ∷ []) ≡ true
  before_push n [] e h less = both (is_lt (by_name e.0 n)) true less refl
  before_push n (x ∷ xs) e h less = let parts = before_parts n x xs h in both (is_lt (by_name x.0 n)) (is_before n (xs ++ e ∷ [])) parts.0 (before_push n xs e parts.1 less)

  -- ---- what is found

  pub found_past : (n : List ℕ) (xs ys : Named E) → is_before n xs ≡ true → find_key by_name n (xs ++ ys) ≡ find_key by_name n ys
  found_past n [] ys h = refl
  found_past n (e ∷ xs) ys h =
      let parts = before_parts n e xs h in
      ap (λ b. cond b (Some e.1) (find_key by_name n (xs ++ ys))) (name_swap n e.0 ∙ not_tied e.0 n parts.0) ∙ found_past n xs ys parts.1

  swapped : (s t : Bool) (x y z : Option E) → (s ≡ true → t ≡ false) → cond t y (cond s x z) ≡ cond s x (cond t y z)
  swapped true true x y z apart = absurd (true≢false (apart refl))
  swapped true false x y z apart = refl
  swapped false t x y z apart = refl

  -- with an entry put in at its place
  pub found_with : (n q : List ℕ) (v : E) (xs ys : Named E) → is_before n xs ≡ true → find_key by_name q (xs ++ (n, v) ∷ ys) ≡ cond (eq_by_cmp by_name n q) (Some v) (find_key by_name q (xs ++ ys))
  found_with n q v [] ys h = ap (λ b. cond b (Some v) (find_key by_name q ys)) (name_swap q n)
  found_with n q v (e ∷ xs) ys h =
      let parts = before_parts n e xs h in
      ap (cond (eq_by_cmp by_name q e.0) (Some e.1)) (found_with n q v xs ys parts.1)
      ∙ swapped (eq_by_cmp by_name n q) (eq_by_cmp by_name q e.0) (Some v) (Some e.1) (find_key by_name q (xs ++ ys))
      (λ same. ap (λ x. eq_by_cmp by_name x e.0) (sym (tied_name n q same)) ∙ name_swap n e.0 ∙ not_tied e.0 n parts.0)

  -- with an entry taken out
  pub found_without : (n q : List ℕ) (v : E) (xs ys : Named E) → is_before n xs ≡ true → below_all by_name n ys ≡ true → find_key by_name q (xs ++ ys) ≡ cond (eq_by_cmp by_name n q) None (find_key by_name q (xs ++ (n, v) ∷ ys))
  found_without n q v xs ys h below = by (eq_by_cmp by_name n q) refl ∙ ap (cond (eq_by_cmp by_name n q) None) (sym (found_with n q v xs ys h))
    where
      by : (s : Bool) → eq_by_cmp by_name n q ≡ s → find_key by_name q (xs ++ ys) ≡ cond s None (cond s (Some v) (find_key by_name q (xs ++ ys)))
      by true same = ap (λ x. find_key by_name x (xs ++ ys)) (sym (tied_name n q same)) ∙ found_past n xs ys h ∙ none_below n n ys (ap is_eq (tied_itself nat_list_cmp_total n)) below
      by false apart = refl

  -- nothing stands under the name
  pub found_none : (n q : List ℕ) (xs ys : Named E) → is_before n xs ≡ true → below_all by_name n ys ≡ true → find_key by_name q (xs ++ ys) ≡ cond (eq_by_cmp by_name n q) None (find_key by_name q (xs ++ ys))
  found_none n q xs ys h below = by (eq_by_cmp by_name n q) refl
    where
      by : (s : Bool) → eq_by_cmp by_name n q ≡ s → find_key by_name q (xs ++ ys) ≡ cond s None (find_key by_name q (xs ++ ys))
      by true same = ap (λ x. find_key by_name x (xs ++ ys)) (sym (tied_name n q same)) ∙ found_past n xs ys h ∙ none_below n n ys (ap is_eq (tied_itself nat_list_cmp_total n)) below
      by false apart = refl

  -- ---- rising names

  pub below_later : (n m : List ℕ) (ys : Named E) → is_lt (by_name n m) ≡ true → below_all by_name m ys ≡ true → below_all by_name n ys ≡ true
  below_later n m [] less h = refl
  below_later n m (e ∷ ys) less h =
      let parts = and_parts (is_lt (by_name m e.0)) (below_all by_name m ys) h in
      both (is_lt (by_name n e.0)) (below_all by_name n ys) (name_trans n m e.0 less parts.0) (below_later n m ys less parts.1)

  below_past : (k : List ℕ) (xs ys : Named E) → below_all by_name k (xs ++ ys) ≡ true → below_all by_name k ys ≡ true
  below_past k [] ys h = h
  below_past k (e ∷ xs) ys h = below_past k xs ys (and_parts (is_lt (by_name k e.0)) (below_all by_name k (xs ++ ys)) h).1

  pub sorted_rest : (xs ys : Named E) → is_sorted by_name (xs ++ ys) ≡ true → is_sorted by_name ys ≡ true
  sorted_rest [] ys h = h
  sorted_rest (e ∷ xs) ys h = sorted_rest xs ys (and_parts (below_all by_name e.0 (xs ++ ys)) (is_sorted by_name (xs ++ ys)) h).1

  below_cut : (k : List ℕ) (xs : Named E) (e : List ℕ × E) (ys : Named E) → below_all by_name k (xs ++ e ∷ ys) ≡ true → below_all by_name k (xs ++ ys) ≡ true
  below_cut k [] e ys h = (and_parts (is_lt (by_name k e.0)) (below_all by_name k ys) h).1
  below_cut k (x ∷ xs) e ys h =
      let parts = and_parts (is_lt (by_name k x.0)) (below_all by_name k (xs ++ e ∷ ys)) h in
      both (is_lt (by_name k x.0)) (below_all by_name k (xs ++ ys)) parts.0 (below_cut k xs e ys parts.1)

  pub sorted_cut : (xs : Named E) (e : List ℕ × E) (ys : Named E) → is_sorted by_name (xs ++ e ∷ ys) ≡ true → is_sorted by_name (xs ++ ys) ≡ true
  sorted_cut [] e ys h = (and_parts (below_all by_name e.0 ys) (is_sorted by_name ys) h).1
  sorted_cut (x ∷ xs) e ys h =
      let parts = and_parts (below_all by_name x.0 (xs ++ e ∷ ys)) (is_sorted by_name (xs ++ e ∷ ys)) h in
      both (below_all by_name x.0 (xs ++ ys)) (is_sorted by_name (xs ++ ys)) (below_cut x.0 xs e ys parts.0) (sorted_cut xs e ys parts.1)

  below_with : (k n : List ℕ) (v : E) (xs ys : Named E) → is_lt (by_name k n) ≡ true → below_all by_name k (xs ++ ys) ≡ true → below_all by_name k (xs ++ (n, v) ∷ ys) ≡ true
  below_with k n v [] ys less h = both (is_lt (by_name k n)) (below_all by_name k ys) less h
  below_with k n v (x ∷ xs) ys less h =
      let parts = and_parts (is_lt (by_name k x.0)) (below_all by_name k (xs ++ ys)) h in
      both (is_lt (by_name k x.0)) (below_all by_name k (xs ++ (n, v) ∷ ys)) parts.0 (below_with k n v xs ys less parts.1)

  pub sorted_with : (n : List ℕ) (v : E) (xs ys : Named E) → is_before n xs ≡ true → below_all by_name n ys ≡ true → is_sorted by_name (xs ++ ys) ≡ true → is_sorted by_name (xs ++ (n, v) ∷ ys) ≡ true
  sorted_with n v [] ys h below rise = both (below_all by_name n ys) (is_sorted by_name ys) below rise
  sorted_with n v (x ∷ xs) ys h below rise =
      let first = before_parts n x xs h in
      let parts = and_parts (below_all by_name x.0 (xs ++ ys)) (is_sorted by_name (xs ++ ys)) rise in
      both (below_all by_name x.0 (xs ++ (n, v) ∷ ys)) (is_sorted by_name (xs ++ (n, v) ∷ ys)) (below_with x.0 n v xs ys first.0 parts.0) (sorted_with n v xs ys first.1 below parts.1)

  -- ---- edits to come

  pub ahead_later : (d : Path) (xs ys : Named E) (p : Path) (es : List (Path × FileChange)) → ((q : Path) (n : List ℕ) (t : Path) → path_lt p q ≡ true → q ≡ d ++ n ∷ t → is_before n xs ≡ true → is_before n ys ≡ true) → below_all path_cmp p es ≡ true → AreAhead d es xs → AreAhead d es ys
  ahead_later d xs ys p [] more below ahead = tt
  ahead_later d xs ys p (e ∷ es) more below ahead =
      let parts = and_parts (path_lt p e.0) (below_all path_cmp p es) below in
      (λ n t is. more e.0 n t parts.0 is (ahead.0 n t is), ahead_later d xs ys p es more parts.1 ahead.1)

  ahead_past : (d c : Path) (xs : Named E) (es : List (Path × FileChange)) → AreAhead d es xs → AreAhead d (past c es) xs
  ahead_past d c xs [] ahead = tt
  ahead_past d c xs (e ∷ es) ahead = by (ahead_past d c xs es ahead.1) (is_strict_prefix c e.0)
    where
      by : AreAhead d (past c es) xs → (b : Bool) → AreAhead d (cond b (past c es) (e ∷ es)) xs
      by later true = later
      by later false = ahead

  pub ahead_left : (d : Path) (child : Option Path) (xs : Named E) (es : List (Path × FileChange)) → AreAhead d es xs → AreAhead d (left_after child es) xs
  ahead_left d None xs es ahead = ahead
  ahead_left d (Some c) xs es ahead = ahead_past d c xs es ahead

pub none_gone : (E : Type 0) (d : Path) (es : List (Path × FileChange)) → AreAhead {E = E} d es []
none_gone E d [] = tt
none_gone E d (e ∷ es) = (λ n t is. refl, none_gone E d es)

-- ---- paths in one directory

lt_then : (o r : Ordering) → is_lt (ordering_then o r) ≡ true → (o ≡ Equal) ⊎ (is_lt o ≡ true)
lt_then Less r h = inr refl
lt_then Equal r h = inl refl
lt_then Greater r h = absurd (true≢false (sym h))

pub names_rise : (d : Path) (m n : List ℕ) (s t : Path) → path_lt (d ++ m ∷ s) (d ++ n ∷ t) ≡ true → (m ≡ n) ⊎ (is_lt (by_name m n) ≡ true)
names_rise [] m n s t h = by (lt_then (by_name m n) (path_cmp s t) h)
  where
    by : (by_name m n ≡ Equal) ⊎ (is_lt (by_name m n) ≡ true) → (m ≡ n) ⊎ (is_lt (by_name m n) ≡ true)
    by (inl same) = inl (tied_name m n (ap is_eq same))
    by (inr less) = inr less
names_rise (k ∷ d) m n s t h = names_rise d m n s t (ap (λ o. is_lt (ordering_then o (path_cmp (d ++ m ∷ s) (d ++ n ∷ t)))) (sym (tied_itself nat_list_cmp_total k)) ∙ h)

-- what comes before the name that a path reaches comes before those of later paths
pub before_rise : {E : Type 0} (d : Path) (m n : List ℕ) (s t : Path) (xs : List (List ℕ × E)) → path_lt (d ++ m ∷ s) (d ++ n ∷ t) ≡ true → is_before m xs ≡ true → is_before n xs ≡ true
before_rise d m n s t xs h before = by (names_rise d m n s t h)
  where
    by : (m ≡ n) ⊎ (is_lt (by_name m n) ≡ true) → is_before n xs ≡ true
    by (inl same) = ap (λ x. is_before x xs) (sym same) ∙ before
    by (inr less) = before_later m n xs less before

-- ---- edits by rising paths

sorted_past : (c : Path) (es : List (Path × FileChange)) → is_sorted path_cmp es ≡ true → is_sorted path_cmp (past c es) ≡ true
sorted_past c [] h = refl
sorted_past c (e ∷ es) h = by (sorted_past c es (and_parts (below_all path_cmp e.0 es) (is_sorted path_cmp es) h).1) (is_strict_prefix c e.0)
  where
    by : is_sorted path_cmp (past c es) ≡ true → (b : Bool) → is_sorted path_cmp (cond b (past c es) (e ∷ es)) ≡ true
    by later true = later
    by later false = h

pub sorted_left : (child : Option Path) (es : List (Path × FileChange)) → is_sorted path_cmp es ≡ true → is_sorted path_cmp (left_after child es) ≡ true
sorted_left None es h = h
sorted_left (Some c) es h = sorted_past c es h

-- ---- going on

module _ {E : Type 0} (is_kept : E → Bool) where
  pub moved_same : (xs ys xs' ys' : List (List ℕ × E)) (e : List ℕ × E) → ys ≡ e ∷ ys' → xs' ≡ xs ++ e ∷ [] → xs' ++ ys' ≡ xs ++ ys
  moved_same xs ys xs' ys' e left done = ap (λ zs. zs ++ ys') done ∙ append_assoc xs (e ∷ []) ys' ∙ ap (λ zs. xs ++ zs) (sym left)

  pub moved : (xs ys xs' ys' : List (List ℕ × E)) (e : List ℕ × E) → ys ≡ e ∷ ys' → xs' ≡ xs ++ e ∷ [] → is_element e.0 ≡ true → is_kept e.1 ≡ true → IsMerge is_kept xs ys → IsMerge is_kept xs' ys'
  moved xs ys xs' ys' e left done element kept was = record {
    rising = ap (is_sorted by_name) (moved_same xs ys xs' ys' e left done) ∙ was.rising;
    named = ap (list_all (λ x. is_element x.0)) done ∙ list_all_push (λ x. is_element x.0) xs e was.named element;
    kept = ap (list_all (λ x. is_kept x.1)) done ∙ list_all_push (λ x. is_kept x.1) xs e was.kept kept;
  }

  pub begun : (ys : List (List ℕ × E)) → is_sorted by_name ys ≡ true → IsMerge is_kept [] ys
  begun ys rise = record { rising = rise; named = refl; kept = refl }

  pub cut : (xs ys ys' : List (List ℕ × E)) (e : List ℕ × E) → ys ≡ e ∷ ys' → IsMerge is_kept xs ys → IsMerge is_kept xs ys'
  cut xs ys ys' e left was = record { rising = sorted_cut xs e ys' (ap (λ zs. is_sorted by_name (xs ++ zs)) (sym left) ∙ was.rising); named = was.named; kept = was.kept }

  pub with_entry : (n : List ℕ) (v : E) (xs xs' ys ys' : List (List ℕ × E)) → ys' ≡ (n, v) ∷ ys → xs' ≡ xs → is_before n xs ≡ true → below_all by_name n ys ≡ true → IsMerge is_kept xs ys → IsMerge is_kept xs' ys'
  with_entry n v xs xs' ys ys' left done before after was = record {
    rising = (λ i. is_sorted by_name (done i ++ left i)) ∙ sorted_with n v xs ys before after was.rising;
    named = ap (list_all (λ x. is_element x.0)) done ∙ was.named;
    kept = ap (list_all (λ x. is_kept x.1)) done ∙ was.kept;
  }

-- ---- the first that is left

after_by : (o : Ordering) → is_lt o ≡ false → is_eq o ≡ false → is_lt (ordering_reverse o) ≡ true
after_by Less h g = absurd (true≢false h)
after_by Equal h g = absurd (true≢false g)
after_by Greater h g = refl

module _ {R E : Type 0} (seen : R → E) where
  pub all_after : (n : List ℕ) (cs : List (Child R)) → is_sorted by_name (children_seen seen cs) ≡ true → comes_before n cs ≡ false → stands_under n cs ≡ false → below_all by_name n (children_seen seen cs) ≡ true
  all_after n [] rise h g = refl
  all_after n (c ∷ cs) rise h g =
      let less = ap is_lt (nat_list_cmp_total.antisymm n c.name) ∙ after_by (by_name c.name n) h (sym (texts_ties c.name n) ∙ g) in
      both (is_lt (by_name n c.name)) (below_all by_name n (children_seen seen cs)) less
      (below_later n c.name (children_seen seen cs) less (and_parts (below_all by_name c.name (children_seen seen cs)) (is_sorted by_name (children_seen seen cs)) rise).0)

  pub first_after : (c : Child R) (cs : List (Child R)) → is_sorted by_name (children_seen seen (c ∷ cs)) ≡ true → below_all by_name c.name (children_seen seen cs) ≡ true
  first_after c cs rise = (and_parts (below_all by_name c.name (children_seen seen cs)) (is_sorted by_name (children_seen seen cs)) rise).0

-- of edits by rising paths, those that follow the first come after it
pub rising_parts : (e : Path × FileChange) (es : List (Path × FileChange)) → is_sorted path_cmp (e ∷ es) ≡ true → (below_all path_cmp e.0 es ≡ true) × (is_sorted path_cmp es ≡ true)
rising_parts e es h = and_parts (below_all path_cmp e.0 es) (is_sorted path_cmp es) h

pub ahead_on : {E : Type 0} (d p : Path) (m : List ℕ) (s : Path) (xs ys zs : List (List ℕ × E)) (es : List (Path × FileChange)) → p ≡ d ++ m ∷ s → is_before m ys ≡ true → zs ≡ ys → below_all path_cmp p es ≡ true → AreAhead d es xs → AreAhead d es zs
ahead_on d p m s xs ys zs es here before same below ahead =
    ahead_later d xs zs p es (λ q n t less is was. ap (is_before n) same ∙ before_rise d m n s t ys (sym (λ i. path_lt (here i) (is i)) ∙ less) before) below ahead

-- ---- entries of which none was gone through

module _ {R E : Type 0} (seen : R → E) where
  pub merge_start : (is_kept : E → Bool) (m : Merge R) (cs : List (Child R)) → m.done.items ≡ [] → m.left.items ≡ cs → is_sorted by_name (children_seen seen cs) ≡ true → IsMerge is_kept (children_seen seen m.done.items) (children_seen seen m.left.items)
  merge_start is_kept m cs none all rise = subst (λ (ds : List (Child R)). IsMerge is_kept (children_seen seen ds) (children_seen seen m.left.items)) (sym none) (begun is_kept (children_seen seen m.left.items) (ap (λ ls. is_sorted by_name (children_seen seen ls)) all ∙ rise))

  pub ahead_start : (m : Merge R) (d : Path) (es : List (Path × FileChange)) → m.done.items ≡ [] → AreAhead d es (children_seen seen m.done.items)
  ahead_start m d es none = subst (λ (ds : List (Child R)). AreAhead d es (children_seen seen ds)) (sym none) (none_gone E d es)

  pub whole_rises : (is_kept : E → Bool) (m : Merge R) (cs : List (Child R)) → children_seen seen cs ≡ whole seen m → IsMerge is_kept (children_seen seen m.done.items) (children_seen seen m.left.items) → is_sorted by_name (children_seen seen cs) ≡ true
  whole_rises is_kept m cs is merge = ap (is_sorted by_name) is ∙ merge.rising

-- what is put in where something was taken out
pub put_over : {X : Type 0} (n : List ℕ) (none o : X) (h g f : List ℕ → X) → ((q : List ℕ) → h q ≡ cond (eq_by_cmp by_name n q) o (g q)) → ((q : List ℕ) → g q ≡ cond (eq_by_cmp by_name n q) none (f q)) → (q : List ℕ) → h q ≡ cond (eq_by_cmp by_name n q) o (f q)
put_over n none o h g f put taken q = put q ∙ ap (cond (eq_by_cmp by_name n q) o) (taken q) ∙ by (eq_by_cmp by_name n q)
  where
    by : (b : Bool) → cond b o (cond b none (f q)) ≡ cond b o (f q)
    by true = refl
    by false = refl

-- ---- children, taken from the front

module _ {R : Type 0} where
  pub first_before : (n : List ℕ) (cs : List (Child R)) (x : Child R) → 0 < length cs → x ≡ get_or cs 0 x → is_lt (by_name x.name n) ≡ comes_before n cs
  first_before n [] x some is = absurd (omega arith)
  first_before n (c ∷ cs) x some is = ap (λ (y : Child R). is_lt (by_name y.name n)) is

  pub first_under : (n : List ℕ) (cs : List (Child R)) (x : Child R) → 0 < length cs → x ≡ get_or cs 0 x → bytes_eq x.name n ≡ stands_under n cs
  first_under n [] x some is = absurd (omega arith)
  first_under n (c ∷ cs) x some is = ap (λ (y : Child R). bytes_eq y.name n) is

  pub none_comes : (n : List ℕ) (cs : List (Child R)) → (0 < length cs → ⊥) → false ≡ comes_before n cs
  none_comes n [] none = refl
  none_comes n (c ∷ cs) none = absurd (none (omega arith))

  pub none_stands : (n : List ℕ) (cs : List (Child R)) → (0 < length cs → ⊥) → false ≡ stands_under n cs
  none_stands n [] none = refl
  none_stands n (c ∷ cs) none = absurd (none (omega arith))

  pub some_left : (n : List ℕ) (cs : List (Child R)) → comes_before n cs ≡ true → 0 < length cs
  some_left n [] h = absurd (true≢false (sym h))
  some_left n (c ∷ cs) h = omega arith

  pub some_there : (n : List ℕ) (cs : List (Child R)) → stands_under n cs ≡ true → 0 < length cs
  some_there n [] h = absurd (true≢false (sym h))
  some_there n (c ∷ cs) h = omega arith

-- ---- an entry taken out

tied_itself_is : (n : List ℕ) → eq_by_cmp by_name n n ≡ true
tied_itself_is n = ap is_eq (tied_itself nat_list_cmp_total n)

module _ {R E : Type 0} (seen : R → E) (is_kept : E → Bool) (n : List ℕ) (xs : List (List ℕ × E)) (cs : List (Child R)) (all : List (List ℕ × E)) (before : is_before n xs ≡ true) (merge : IsMerge is_kept xs (children_seen seen cs)) (same : xs ++ children_seen seen cs ≡ all) where
  abbrev ys : List (List ℕ × E)
  ys = children_seen seen cs

  module _ (next : comes_before n cs ≡ false) (other : stands_under n cs ≡ false) where
    pub none_after : below_all by_name n (children_seen seen cs) ≡ true
    none_after = all_after seen n cs (sorted_rest xs ys merge.rising) next other

    pub none_found : None ≡ find_key by_name n all
    none_found = sym (ap (find_key by_name n) (sym same) ∙ found_past n xs ys before ∙ none_below n n ys (tied_itself_is n) none_after)

    pub none_without : (q : List ℕ) → find_key by_name q (xs ++ children_seen seen cs) ≡ cond (eq_by_cmp by_name n q) None (find_key by_name q all)
    none_without q = found_none n q xs ys before none_after ∙ ap (λ zs. cond (eq_by_cmp by_name n q) None (find_key by_name q zs)) same

  module _ (c : Child R) (rest : List (Child R)) (is : cs ≡ c ∷ rest) (here : stands_under n cs ≡ true) where
    abbrev zs : List (List ℕ × E)
    zs = children_seen seen rest

    named : c.name ≡ n
    named = same_name c.name n (ap (stands_under n) (sym is) ∙ here)

    left : ys ≡ (n, seen c.entry) ∷ zs
    left = ap (children_seen seen) is ∙ ap (λ m. (m, seen c.entry) ∷ zs) named

    pub rest_merge : IsMerge is_kept xs (children_seen seen rest)
    rest_merge = cut is_kept xs ys zs (n, seen c.entry) left merge

    pub rest_after : below_all by_name n (children_seen seen rest) ≡ true
    rest_after = (and_parts (below_all by_name n zs) (is_sorted by_name zs) (ap (is_sorted by_name) (sym left) ∙ sorted_rest xs ys merge.rising)).0

    pub one_found : Some (seen c.entry) ≡ find_key by_name n all
    one_found = sym (ap (find_key by_name n) (sym same) ∙ found_past n xs ys before ∙ ap (find_key by_name n) left ∙ ap (λ b. cond b (Some (seen c.entry)) (find_key by_name n zs)) (tied_itself_is n))

    pub one_without : (q : List ℕ) → find_key by_name q (xs ++ children_seen seen rest) ≡ cond (eq_by_cmp by_name n q) None (find_key by_name q all)
    one_without q =
        found_without n q (seen c.entry) xs zs before rest_after
        ∙ ap (λ ws. cond (eq_by_cmp by_name n q) None (find_key by_name q ws)) (ap (λ ws. xs ++ ws) (sym left) ∙ same)

pub first_less : {R : Type 0} (n : List ℕ) (cs : List (Child R)) (c : Child R) (rest : List (Child R)) → cs ≡ c ∷ rest → comes_before n cs ≡ true → is_lt (by_name c.name n) ≡ true
first_less n cs c rest is h = ap (comes_before n) (sym is) ∙ h
