-- An edit, seen from a directory, as it is put in under the name that it reaches.
use Rattle.std.proofs.Common.{◌≡◌, ℕ, ◌<◌, length, drop, arith, append-nil, Bool, true, false, cond, List, [], ◌∷◌, ◌++◌, refl, sym, ap, ◌∙◌}
use Rattle.std.specs.Prelude.{Option, Some, None, bytes_eq}
use Rattle.std.proofs.lemmas.Bool.{and_parts}
use Rattle.std.specs.declared.cmp.Ordering.{Ordering}
use Rattle.std.specs.declared.cmp.Ordering.TheVariants.{Less, Equal, Greater}
use Rattle.std.specs.Ordering.{nat_cmp, eq_by_cmp, is_eq, ordering_reverse}
use Rattle.std.specs.Cmp.Lexicographic.{slice_cmp, texts_ties}
use Rattle.std.proofs.lemmas.Cmp.{nat_list_cmp_total}
use Rattle.std.proofs.lemmas.List.{length-append}
use Rattle.changeset_model.specs.Path.{Path, is_prefix, is_strict_prefix}
use Rattle.changeset_model.specs.Changeset.{File, FileChange, Set, Delete}
use Rattle.manifest_laws.proofs.Names.{same_name}
use Rattle.manifest_laws.proofs.Changes.{prefix_itself}
use Rattle.manifest_laws.proofs.Flat.{strict_parts, strict_from}
use Rattle.manifest_laws.proofs.Seen.{one_more, outside_at, outside_under, here_at, here_under, under_at, under_under}
use Rattle.tree_fold.proofs.Texts.{drop-front}
use Rattle.derive_step.specs.Walk.{Sides, after, after_edit, after_edits, all_nodes, edited, name_in, nodes_at, nodes_by, nodes_of, renewed, sole, without_dir}
use Rattle.derive_step.specs.Slices.{edits_in, past, IsChild, left_after}

-- ---- an edit, seen from a directory

pub tied_name : (m n : List ℕ) → eq_by_cmp (slice_cmp nat_cmp) m n ≡ true → m ≡ n
tied_name m n h = same_name m n (texts_ties m n ∙ h)

reversed_tie : (o : Ordering) → is_eq (ordering_reverse o) ≡ is_eq o
reversed_tie Less = refl
reversed_tie Equal = refl
reversed_tie Greater = refl

pub name_swap : (m n : List ℕ) → eq_by_cmp (slice_cmp nat_cmp) m n ≡ eq_by_cmp (slice_cmp nat_cmp) n m
name_swap m n = ap is_eq (nat_list_cmp_total.antisymm m n) ∙ reversed_tie (slice_cmp nat_cmp n m)

-- a path under a directory directly in another
pub under_shape : (d : Path) (m : List ℕ) (q : Path) → is_strict_prefix (d ++ m ∷ []) q ≡ true → (e : List ℕ) × (r : Path) × (q ≡ d ++ m ∷ e ∷ r)
under_shape [] m [] h = let less = (strict_parts (m ∷ []) [] h).1 in absurd (omega (arith, less))
under_shape [] m (f ∷ []) h = let less = (strict_parts (m ∷ []) (f ∷ []) h).1 in absurd (omega (arith, less))
under_shape [] m (f ∷ e ∷ r) h =
    let first = (and_parts (bytes_eq m f) (is_prefix [] (e ∷ r)) (strict_parts (m ∷ []) (f ∷ e ∷ r) h).0).0 in
    (e, r, λ i. sym (same_name m f first) i ∷ e ∷ r)
under_shape (k ∷ d) m [] h = let less = (strict_parts (k ∷ d ++ m ∷ []) [] h).1 in absurd (omega (arith, less))
under_shape (k ∷ d) m (f ∷ q) h =
    let parts = strict_parts (k ∷ d ++ m ∷ []) (f ∷ q) h in
    let less = parts.1 in
    let both = and_parts (bytes_eq k f) (is_prefix (d ++ m ∷ []) q) parts.0 in
    let rest = under_shape d m q (strict_from (d ++ m ∷ []) q both.1 (omega (arith, less))) in
    (rest.0, rest.1, λ i. sym (same_name k f both.0) i ∷ rest.2 i)

pub child_on : (c d q t : Path) (m : List ℕ) → c ≡ d ++ m ∷ [] → q ≡ c ++ t → 0 < length t → IsChild (Some c) d q
child_on c d q t m here is some =
    let size = length-append c t in
    (m, here, ap (is_strict_prefix c) is ∙ strict_from c (c ++ t) (prefix_itself c t) (omega (arith, size)))

-- ---- those under a directory, again

pub in_twice : (d : Path) (es : List (Path × FileChange)) → edits_in d (edits_in d es) ≡ edits_in d es
in_twice d [] = refl
in_twice d (e ∷ es) = by (in_twice d es) (is_strict_prefix d e.0) refl
  where
    by : edits_in d (edits_in d es) ≡ edits_in d es → (b : Bool) → is_strict_prefix d e.0 ≡ b → edits_in d (cond b (e ∷ edits_in d es) (edits_in d es)) ≡ cond b (e ∷ edits_in d es) (edits_in d es)
    by ih true h = ap (λ b. cond b (e ∷ edits_in d (edits_in d es)) (edits_in d (edits_in d es))) h ∙ ap (λ q. e ∷ q) ih
    by ih false h = ih

-- ---- edits under one directory leave what the first leaves

without_twice : {E : Type 0} (is_file : E → Bool) (o : Option E) → without_dir is_file (without_dir is_file o) ≡ without_dir is_file o
without_twice is_file None = refl
without_twice {E} is_file (Some e) = by (is_file e) refl
  where
    by : (b : Bool) → is_file e ≡ b → without_dir is_file (cond b (Some e) None) ≡ cond b (Some e) None
    by true h = ap (λ b. cond b (Some e) None) h
    by false h = refl

pub renewed_twice : {E : Type 0} (is_file : E → Bool) (m : Option E) (s : Sides E) → renewed m is_file (renewed m is_file s) ≡ renewed m is_file s
renewed_twice is_file None s = λ i. (without_twice is_file s.0 i, without_twice is_file s.1 i)
renewed_twice is_file (Some m) s = refl

module _ {E : Type 0} (set_at : Path → Sides E → File → E) (is_file : E → Bool) where
  abbrev after_at : (made : Path → Option E) → Path → List ℕ → Path × FileChange → Sides E → Sides E
  after_at made d n e o = after_edit (set_at (d ++ n ∷ [])) (made (d ++ n ∷ [])) is_file (d ++ n ∷ []) e o

  pub outside_edit : (made : Path → Option E) (d q : Path) (m : List ℕ) (change : FileChange) (o : Sides E) → is_strict_prefix d q ≡ false → o ≡ after_at made d m (q, change) o
  outside_edit made d q m change o h =
      sym (λ i. cond (outside_at d q m h i) (edited (set_at (d ++ m ∷ [])) is_file change o) (cond (outside_under d q m h i) (renewed (made (d ++ m ∷ [])) is_file o) o))

  here_edit : (made : Path → Option E) (d q : Path) (m n : List ℕ) (change : FileChange) (f : List ℕ → Sides E) (o : Sides E) → q ≡ d ++ m ∷ [] → o ≡ edited (set_at (d ++ m ∷ [])) is_file change (f m)
      → cond (eq_by_cmp (slice_cmp nat_cmp) m n) o (f n) ≡ after_at made d n (q, change) (f n)
  here_edit made d q m n change f o e right =
      by (eq_by_cmp (slice_cmp nat_cmp) m n) refl
      ∙ sym (λ i. cond ((here_at d q m n e ∙ name_swap n m) i) (edited (set_at (d ++ n ∷ [])) is_file change (f n)) (cond (here_under d q m n e i) (renewed (made (d ++ n ∷ [])) is_file (f n)) (f n)))
    where
      by : (b : Bool) → eq_by_cmp (slice_cmp nat_cmp) m n ≡ b → cond b o (f n) ≡ cond b (edited (set_at (d ++ n ∷ [])) is_file change (f n)) (f n)
      by true t = right ∙ ap (λ x. edited (set_at (d ++ x ∷ [])) is_file change (f x)) (tied_name m n t)
      by false t = refl

  under_edit : (made : Path → Option E) (d q : Path) (m n : List ℕ) (e : List ℕ) (r : Path) (change : FileChange) (f : List ℕ → Sides E) (o : Sides E) → q ≡ d ++ m ∷ e ∷ r → o ≡ renewed (made (d ++ m ∷ [])) is_file (f m)
      → cond (eq_by_cmp (slice_cmp nat_cmp) m n) o (f n) ≡ after_at made d n (q, change) (f n)
  under_edit made d q m n e r change f o h right =
      by (eq_by_cmp (slice_cmp nat_cmp) m n) refl
      ∙ sym (λ i. cond (under_at d q r e m n h i) (edited (set_at (d ++ n ∷ [])) is_file change (f n)) (cond ((under_under d q r e m n h ∙ name_swap n m) i) (renewed (made (d ++ n ∷ [])) is_file (f n)) (f n)))
    where
      by : (b : Bool) → eq_by_cmp (slice_cmp nat_cmp) m n ≡ b → cond b o (f n) ≡ cond b (renewed (made (d ++ n ∷ [])) is_file (f n)) (f n)
      by true t = right ∙ ap (λ x. renewed (made (d ++ x ∷ [])) is_file (f x)) (tied_name m n t)
      by false t = refl

  -- ---- edits elsewhere leave the entry

  abbrev pub after_all : (made : Path → Option E) → Path → List ℕ → List (Path × FileChange) → Sides E → Sides E
  after_all made d n es o = after_edits (set_at (d ++ n ∷ [])) (made (d ++ n ∷ [])) is_file (d ++ n ∷ []) es o

  in_dir : (made : Path → Option E) (d : Path) (n : List ℕ) (es : List (Path × FileChange)) (o : Sides E) → after_all made d n (edits_in d es) o ≡ after_all made d n es o
  in_dir made d n [] o = refl
  in_dir made d n (e ∷ es) o = by (in_dir made d n es) (is_strict_prefix d e.0) refl
    where
      by : ((o : Sides E) → after_all made d n (edits_in d es) o ≡ after_all made d n es o) → (b : Bool) → is_strict_prefix d e.0 ≡ b → after_all made d n (cond b (e ∷ edits_in d es) (edits_in d es)) o ≡ after_all made d n es (after_at made d n e o)
      by ih true under = ih (after_at made d n e o)
      by ih false out = ih o ∙ ap (after_all made d n es) (outside_edit made d e.0 n e.1 o out)

  pub same_in : (made : Path → Option E) (d : Path) (n : List ℕ) (es fs : List (Path × FileChange)) (o : Sides E) → edits_in d es ≡ edits_in d fs → after_all made d n es o ≡ after_all made d n fs o
  same_in made d n es fs o e = sym (in_dir made d n es o) ∙ ap (λ q. after_all made d n q o) e ∙ in_dir made d n fs o

  -- ---- edits under one directory leave what the first leaves

  twice_if : (m : Option E) (o : Sides E) (b : Bool) → cond b (renewed m is_file (cond b (renewed m is_file o) o)) (cond b (renewed m is_file o) o) ≡ cond b (renewed m is_file o) o
  twice_if m o true = renewed_twice is_file m o
  twice_if m o false = refl

  seen_under : (made : Path → Option E) (d q : Path) (m n : List ℕ) (change : FileChange) (o : Sides E) → is_strict_prefix (d ++ m ∷ []) q ≡ true
      → after_at made d n (q, change) o ≡ cond (eq_by_cmp (slice_cmp nat_cmp) n m) (renewed (made (d ++ n ∷ [])) is_file o) o
  seen_under made d q m n change o h =
      let s = under_shape d m q h in
      λ i. cond (under_at d q s.1 s.0 m n s.2 i) (edited (set_at (d ++ n ∷ [])) is_file change o) (cond (under_under d q s.1 s.0 m n s.2 i) (renewed (made (d ++ n ∷ [])) is_file o) o)

  pub again : (made : Path → Option E) (d q r : Path) (m n : List ℕ) (a b : FileChange) (o : Sides E) → is_strict_prefix (d ++ m ∷ []) q ≡ true → is_strict_prefix (d ++ m ∷ []) r ≡ true
      → after_at made d n (r, b) (after_at made d n (q, a) o) ≡ after_at made d n (q, a) o
  again made d q r m n a b o first second =
      seen_under made d r m n b (after_at made d n (q, a) o) second
      ∙ ap (λ x. cond (eq_by_cmp (slice_cmp nat_cmp) n m) (renewed (made (d ++ n ∷ [])) is_file x) x) (seen_under made d q m n a o first)
      ∙ twice_if (made (d ++ n ∷ [])) o (eq_by_cmp (slice_cmp nat_cmp) n m)
      ∙ sym (seen_under made d q m n a o first)

  past_same : (made : Path → Option E) (d q : Path) (m n : List ℕ) (a : FileChange) (o : Sides E) → is_strict_prefix (d ++ m ∷ []) q ≡ true → (es : List (Path × FileChange))
      → after_all made d n (past (d ++ m ∷ []) es) (after_at made d n (q, a) o) ≡ after_all made d n es (after_at made d n (q, a) o)
  past_same made d q m n a o under [] = refl
  past_same made d q m n a o under (e ∷ es) = by (past_same made d q m n a o under es) (is_strict_prefix (d ++ m ∷ []) e.0) refl
    where
      by : after_all made d n (past (d ++ m ∷ []) es) (after_at made d n (q, a) o) ≡ after_all made d n es (after_at made d n (q, a) o) → (b : Bool) → is_strict_prefix (d ++ m ∷ []) e.0 ≡ b → after_all made d n (cond b (past (d ++ m ∷ []) es) (e ∷ es)) (after_at made d n (q, a) o) ≡ after_all made d n es (after_at made d n e (after_at made d n (q, a) o))
      by ih true h = ih ∙ ap (after_all made d n es) (sym (again made d q e.0 m n a e.1 o under h))
      by ih false h = refl

  pub left_same : (made : Path → Option E) (d q : Path) (n : List ℕ) (a : FileChange) (o : Sides E) (child : Option Path) → IsChild child d q → (es : List (Path × FileChange))
      → after_all made d n (left_after child es) (after_at made d n (q, a) o) ≡ after_all made d n es (after_at made d n (q, a) o)
  left_same made d q n a o None is es = refl
  left_same made d q n a o (Some c) is es =
      ap (λ x. after_all made d n (past x es) (after_at made d n (q, a) o)) is.1
      ∙ past_same made d q is.0 n a o (ap (λ x. is_strict_prefix x q) (sym is.1) ∙ is.2) es

  -- ---- put into a map

  pub put_here : (g f : List ℕ → Sides E) (d q : Path) (m : List ℕ) (change : FileChange) (o : Sides E) (made : Path → Option E) → ((n : List ℕ) → g n ≡ cond (eq_by_cmp (slice_cmp nat_cmp) m n) o (f n)) → q ≡ d ++ m ∷ [] → o ≡ edited (set_at (d ++ m ∷ [])) is_file change (f m) → (n : List ℕ) → g n ≡ after_at made d n (q, change) (f n)
  put_here g f d q m change o made h e right n = h n ∙ here_edit made d q m n change f o e right

  pub put_under : (g f : List ℕ → Sides E) (d q : Path) (m : List ℕ) (t : Path) (change : FileChange) (o : Sides E) (made : Path → Option E) → ((n : List ℕ) → g n ≡ cond (eq_by_cmp (slice_cmp nat_cmp) m n) o (f n)) → 0 < length t → q ≡ d ++ m ∷ t → o ≡ renewed (made (d ++ m ∷ [])) is_file (f m) → (n : List ℕ) → g n ≡ after_at made d n (q, change) (f n)
  put_under g f d q m [] change o made h some is right n = absurd (omega arith)
  put_under g f d q m (e ∷ t) change o made h some is right n = h n ∙ under_edit made d q m n e t change f o is right

-- ---- the nodes of files

pub name_here : (d : Path) (m : List ℕ) → name_in d (d ++ m ∷ []) ≡ Some m
name_here d m = ap (λ b. cond b (sole (drop (length d) (d ++ m ∷ []))) None) (one_more d m) ∙ ap sole (drop-front d (m ∷ []))

name_under : (d : Path) (m e : List ℕ) (r : Path) → name_in d (d ++ m ∷ e ∷ r) ≡ None
name_under d m e r = by (is_strict_prefix d (d ++ m ∷ e ∷ r)) (ap sole (drop-front d (m ∷ e ∷ r)))
  where
    by : (b : Bool) → sole (drop (length d) (d ++ m ∷ e ∷ r)) ≡ None → cond b (sole (drop (length d) (d ++ m ∷ e ∷ r))) None ≡ None
    by true h = h
    by false h = refl

module _ {E : Type 0} (own : Path → Sides E → File → List (List ℕ)) (d : Path) where
  pub here_nodes : (q : Path) (m : List ℕ) (change : FileChange) (o : List ℕ → Sides E) (before : Sides E) → q ≡ d ++ m ∷ [] → before ≡ o m → nodes_of own q before change ≡ nodes_by own d o (q, change)
  here_nodes q m (Set f copied) o before e is =
      ap (λ b. own q b f) is
      ∙ ap (nodes_at own q f o) (sym (ap (name_in d) e ∙ name_here d m))
  here_nodes q m Delete o before e is = refl

  no_nodes : (q : Path) (m e : List ℕ) (r : Path) (change : FileChange) (o : List ℕ → Sides E) → q ≡ d ++ m ∷ e ∷ r → [] ≡ nodes_by own d o (q, change)
  no_nodes q m e r (Set f copied) o is = ap (nodes_at own q f o) (sym (ap (name_in d) is ∙ name_under d m e r))
  no_nodes q m e r Delete o is = refl

  pub under_nodes : (q : Path) (m : List ℕ) (t : Path) (change : FileChange) (o : List ℕ → Sides E) (old : List (List ℕ)) → 0 < length t → q ≡ d ++ m ∷ t → old ≡ old ++ nodes_by own d o (q, change)
  under_nodes q m [] change o old some is = absurd (omega arith)
  under_nodes q m (e ∷ t) change o old some is = sym (append-nil old) ∙ ap (λ ns. old ++ ns) (no_nodes q m e t change o is)

  pub outside_nodes : (p : Path) (change : FileChange) (o : List ℕ → Sides E) → is_strict_prefix d p ≡ false → [] ≡ nodes_by own d o (p, change)
  outside_nodes p (Set f copied) o out = sym (ap (λ b. nodes_at own p f o (cond b (sole (drop (length d) p)) None)) out)
  outside_nodes p Delete o out = refl

-- ---- edits elsewhere put no nodes of files

module _ {E : Type 0} (set_at : Path → Sides E → File → E) (made : Path → Option E) (is_file : E → Bool) (own : Path → Sides E → File → List (List ℕ)) (d : Path) where
  abbrev nodes : List (Path × FileChange) → (List ℕ → Sides E) → List (List ℕ)
  nodes es o = all_nodes set_at made is_file own d es o

  abbrev then : (List ℕ → Sides E) → Path × FileChange → List ℕ → Sides E
  then o e = after set_at made is_file d (e ∷ []) o

  in_dir_nodes : (es : List (Path × FileChange)) (o : List ℕ → Sides E) → nodes (edits_in d es) o ≡ nodes es o
  in_dir_nodes [] o = refl
  in_dir_nodes (e ∷ es) o = by (in_dir_nodes es) (is_strict_prefix d e.0) refl
    where
      by : ((o : List ℕ → Sides E) → nodes (edits_in d es) o ≡ nodes es o) → (b : Bool) → is_strict_prefix d e.0 ≡ b → nodes (cond b (e ∷ edits_in d es) (edits_in d es)) o ≡ nodes_by own d o e ++ nodes es (then o e)
      by ih true under = ap (λ ns. nodes_by own d o e ++ ns) (ih (then o e))
      by ih false out =
          ih o
          ∙ ap (nodes es) (λ i n. outside_edit set_at is_file made d e.0 n e.1 (o n) out i)
          ∙ ap (λ ns. ns ++ nodes es (then o e)) (outside_nodes own d e.0 e.1 o out)

  pub same_in_nodes : (es fs : List (Path × FileChange)) (o : List ℕ → Sides E) → edits_in d es ≡ edits_in d fs → nodes es o ≡ nodes fs o
  same_in_nodes es fs o e = sym (in_dir_nodes es o) ∙ ap (λ q. nodes q o) e ∙ in_dir_nodes fs o

  module _ (q : Path) (a : FileChange) (o : List ℕ → Sides E) where
    past_nodes : (m : List ℕ) → is_strict_prefix (d ++ m ∷ []) q ≡ true → (es : List (Path × FileChange)) → nodes (past (d ++ m ∷ []) es) (then o (q, a)) ≡ nodes es (then o (q, a))
    past_nodes m under [] = refl
    past_nodes m under (e ∷ es) = by (past_nodes m under es) (is_strict_prefix (d ++ m ∷ []) e.0) refl
      where
        by : nodes (past (d ++ m ∷ []) es) (then o (q, a)) ≡ nodes es (then o (q, a)) → (t : Bool) → is_strict_prefix (d ++ m ∷ []) e.0 ≡ t → nodes (cond t (past (d ++ m ∷ []) es) (e ∷ es)) (then o (q, a)) ≡ nodes_by own d (then o (q, a)) e ++ nodes es (then (then o (q, a)) e)
        by ih true h =
            let s = under_shape d m e.0 h in
            ih
            ∙ ap (nodes es) (sym (λ i n. again set_at is_file made d q e.0 m n a e.1 (o n) under h i))
            ∙ ap (λ ns. ns ++ nodes es (then (then o (q, a)) e)) (no_nodes own d e.0 m s.0 s.1 e.1 (then o (q, a)) s.2)
        by ih false h = refl

    pub left_nodes : (child : Option Path) → IsChild child d q → (es : List (Path × FileChange)) → nodes (left_after child es) (then o (q, a)) ≡ nodes es (then o (q, a))
    left_nodes None is es = refl
    left_nodes (Some c) is es = ap (λ y. nodes (past y es) (then o (q, a))) is.1 ∙ past_nodes is.0 (ap (λ y. is_strict_prefix y q) (sym is.1) ∙ is.2) es

-- ---- where files have no nodes of their own

none_by : {E : Type 0} (d p : Path) (change : FileChange) (o : List ℕ → Sides E) → nodes_by (λ _ _ _. []) d o (p, change) ≡ []
none_by d p (Set f copied) o = by (name_in d p)
  where
    by : (x : Option (List ℕ)) → nodes_at (λ _ _ _. []) p f o x ≡ []
    by None = refl
    by (Some n) = refl
none_by d p Delete o = refl

pub no_own_nodes : {E : Type 0} (set_at : Path → Sides E → File → E) (made : Path → Option E) (is_file : E → Bool) (d : Path) (es : List (Path × FileChange)) (o : List ℕ → Sides E) → all_nodes set_at made is_file (λ _ _ _. []) d es o ≡ []
no_own_nodes set_at made is_file d [] o = refl
no_own_nodes set_at made is_file d (e ∷ es) o = ap (λ ns. ns ++ all_nodes set_at made is_file (λ _ _ _. []) d es (after set_at made is_file d (e ∷ []) o)) (none_by d e.0 e.1 o) ∙ no_own_nodes set_at made is_file d es (after set_at made is_file d (e ∷ []) o)
