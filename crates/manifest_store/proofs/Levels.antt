-- The files under a directory, as its levels are gone through.
use Rattle.std.proofs.Common.{◌≡◌, ◌⊎◌, inl, inr, ℕ, zero, suc, ◌<◌, ◌≤◌, Bool, true, false, cond, ◌&&◌, ◌||◌, List, [], ◌∷◌, ◌++◌, length, drop, get_or, map, refl, sym, ap, subst, ◌∙◌, arith, append_assoc}
use Rattle.std.specs.Prelude.{Option, Some, None, is_some, option_map, bytes_eq, ◌==◌, nat_lt, nat_le}
use Rattle.std.specs.List.{AllByRecursion, list_any, list_all}
use Rattle.std.specs.Ordering.{eq_by_cmp}
use mathlib.Core.Bool.{true≢false}
use Rattle.std.proofs.lemmas.Bool.{and_parts, or_left, or_right, false_from_ne_true, leb-true, ne_eqb}
use Rattle.std.proofs.lemmas.List.{length-append}
use Rattle.std.proofs.lemmas.List.Folds.{list_any-append}
use Rattle.byte_fields.proofs.Booleans.{or_false, and_false, same_some}
use Rattle.changeset_model.specs.Path.{Path, path_cmp, text_of, elements, is_element, is_path, is_prefix, is_strict_prefix}
use Rattle.changeset_model.proofs.Spelling.{elements-text_of}
use Rattle.changeset_model.specs.Changeset.{File}
use Rattle.history_model.specs.Past.{Past, Begin, At}
use Rattle.history_model.specs.Tree.{files_in, is_file, is_dir, names, below, tree_of}
use Rattle.history_model.proofs.Landings.{prefix_self}
use Rattle.manifest_model.specs.Fsnode.{FsEntry, FsFile, FsDir, fs_dir, Fsnode, fsnode}
use Rattle.manifest_model.proofs.Deletions.{file_at-files_in}
use Rattle.manifest_model.proofs.Derivations.{tied_same}
use Rattle.manifest_laws.specs.Entries.{fs_entry_at}
use Rattle.manifest_laws.proofs.Names.{Name, is_among as is_name_among, keyed, name_itself, same_name, among_names}
use Rattle.manifest_laws.proofs.Lists.{none_some}
use Rattle.manifest_laws.proofs.Changes.{prefix_itself}
use Rattle.manifest_laws.proofs.Flat.{strict_parts, strict_then, is_strict_or_same, tied_self, strict_from}
use Rattle.manifest_laws.proofs.Fsnodes.{found_here, entries_are, keyed_entries, entry_is, entry_of_file, entry_of_dir, entry_of_nothing}
use Rattle.manifest_laws.proofs.Steps.{both_ways}
use Rattle.manifest_model.proofs.Derivations.{or_case as or_either}
use Rattle.tree_fold.proofs.Texts.{elements-joined, front_rest}
use Rattle.deleted_step.specs.Steps.{is_among}
use Rattle.manifest_store.specs.declared.under.Directory.{Directory}
use Rattle.fsnode.specs.declared.entry.FsEntry.{FsEntry as RustEntry}
use Rattle.fsnode.specs.declared.node.Fsnode.{Fsnode as RustFsnode}
use Rattle.fsnode.specs.Parts.{child_seen, children_seen}
use Rattle.fsnode.specs.Views.{fsnode_seen}
use Rattle.node_fields.specs.declared.child.Child.{Child}
use Rattle.node_table.specs.Table.{Nodes}
use Rattle.manifest_store.specs.Manifests.{IsRight}
use Rattle.manifest_store.specs.Nodes.{fsnode_under}
use Rattle.manifest_store.specs.Moves.{HasPast, IsDirectory, has_file}
use Rattle.manifest_store.specs.Levels.{AreDeep, is_reached}
use Rattle.manifest_store.proofs.Gathered.{front_path}
use Rattle.manifest_store.proofs.Along.{first_name}
use Rattle.manifest_store.proofs.Held.{fsnode_there}
use Rattle.manifest_store.proofs.Taken.{and_same, and_none, from_here, file_path, apart, dir_above}

-- ---- the text of a path in a directory

pub one_element : (name : List ℕ) → is_element name ≡ true → elements name ≡ name ∷ []
one_element name h = elements-text_of name [] (λ i. h i && true)

pub joined_elements : (d : Path) (text above name : List ℕ) → elements above ≡ d → is_element name ≡ true → text ≡ (above ++ 0x2F ∷ []) ++ name → elements text ≡ d ++ name ∷ []
joined_elements d text above name dir h e =
    ap elements (e ∙ append_assoc above (0x2F ∷ []) name) ∙ elements-joined above name ∙ (λ i. dir i ++ one_element name h i)

pub ruled : (p q : Path) (o : Option Path) → o ≡ cond (is_path q) (Some q) None → o ≡ Some p → p ≡ q
ruled p q o e is = by (is_path q) (sym is ∙ e)
  where
    by : (b : Bool) → ◌≡◌ {A = Option Path} (Some p) (cond b (Some q) None) → p ≡ q
    by true h = same_some p q h
    by false h = absurd cc

pub unruled : (q : Path) (o : Option Path) → o ≡ cond (is_path q) (Some q) None → o ≡ None → is_path q ≡ false
unruled q o e is = by (is_path q) (sym is ∙ e)
  where
    by : (b : Bool) → ◌≡◌ {A = Option Path} None (cond b (Some q) None) → b ≡ false
    by true h = absurd cc
    by false h = refl

-- ---- a path has at most 4,096 elements

text_longer : (p : Path) → list_all is_element p ≡ true → length p ≤ length (text_of p)
text_longer [] h = omega arith
text_longer ([] ∷ []) h = absurd (true≢false (sym h))
text_longer ((b ∷ e) ∷ []) h = omega arith
text_longer (e ∷ f ∷ p) h =
    let rest = text_longer (f ∷ p) (and_parts (is_element e) (list_all is_element (f ∷ p)) h).1 in
    let long = length-append e (0x2F ∷ text_of (f ∷ p)) in
    omega arith

pub short_path : (p : Path) → is_path p ≡ true → length p ≤ 4096
short_path p h =
    let parts = and_parts (nat_lt 0 (length p) && list_all is_element p) (nat_le (length (text_of p)) 4096) h in
    let short = leb-true (length (text_of p)) 4096 parts.1 in
    let long = text_longer p (and_parts (nat_lt 0 (length p)) (list_all is_element p) parts.0).1 in
    omega arith

-- ---- truth values

pub more_gone : (a e l x : Bool) → e ≡ x → ((a || e) || l) ≡ ((a || l) || x)
more_gone a e l x same = ap (λ e. (a || e) || l) same ∙ by a l
  where
    by : (a l : Bool) → ((a || x) || l) ≡ ((a || l) || x)
    by true l = refl
    by false true = or_true x
      where
        or_true : (b : Bool) → (b || true) ≡ true
        or_true true = refl
        or_true false = refl
    by false false = or_false x

pub more_left : (a h l s x : Bool) → (h && s) ≡ x → (a || (h && (l || (s || false)))) ≡ ((a || (h && l)) || x)
more_left a h l s x same = by a h l ∙ ap (λ x. (a || (h && l)) || x) same
  where
    by : (a h l : Bool) → (a || (h && (l || (s || false)))) ≡ ((a || (h && l)) || (h && s))
    by true h l = refl
    by false true true = refl
    by false true false = or_false s
    by false false l = refl

pub none_more : (r h x : Bool) → (h && x) ≡ false → r ≡ (r || (h && x))
none_more r h x none = sym (ap (λ b. r || b) none ∙ or_false r)

pub none_further : (r h : Bool) → (r || (h && false)) ≡ r
none_further true h = refl
none_further false h = and_false h

-- ---- lists

all_drop : {X : Type 0} (P : X → Type 0) (xs : List X) (i : ℕ) → AllByRecursion P xs → AllByRecursion P (drop i xs)
all_drop P xs zero all = all
all_drop P [] (suc i) all = tt
all_drop P (x ∷ xs) (suc i) all = all_drop P xs i all.1

pub each_at : {X : Type 0} (P : X → Type 0) (xs : List X) (i : ℕ) (x : X) → i < length xs → x ≡ get_or xs i x → AllByRecursion P xs → P x
each_at P xs i x less is all = (subst (AllByRecursion P) (from_here xs i x less is) (all_drop P xs i all)).0

all_of_mapped : {X Y : Type 0} (P : Y → Type 0) (f : X → Y) (xs : List X) → AllByRecursion P (map f xs) → AllByRecursion (λ x. P (f x)) xs
all_of_mapped P f [] all = tt
all_of_mapped P f (x ∷ xs) all = (all.0, all_of_mapped P f xs all.1)

-- ---- a name in a directory

abbrev pub any_named : Path → List (Name × FsEntry) → Path → Bool
any_named d es p = list_any (λ e. is_prefix (d ++ e.0 ∷ []) p) es

abbrev pub IsChild : Past → Path → FsEntry → Type 0
IsChild past q (FsFile f) = has_file past q ≡ true
IsChild past q (FsDir x s) = (has_file past q ≡ false) × IsDirectory past q x

module _ (past : Past) (right : IsRight past) where
  abbrev now : List (Path × File)
  now = files_in past

  pub child_is : (d : Path) (n : List ℕ) (e : FsEntry) → fs_entry_at (fsnode now d) n ≡ Some e → IsChild past (d ++ n ∷ []) e
  child_is d n e found = by (tree_of past (d ++ n ∷ [])) refl (is_dir now (d ++ n ∷ [])) refl
    where
      by : (o : Option File) → tree_of past (d ++ n ∷ []) ≡ o → (b : Bool) → is_dir now (d ++ n ∷ []) ≡ b → IsChild past (d ++ n ∷ []) e
      by (Some f) at b dir = subst (IsChild past (d ++ n ∷ [])) (same_some (FsFile f) e (sym (entry_of_file now d n f (file_at-files_in past (d ++ n ∷ []) ∙ at)) ∙ found)) (ap is_some at)
      by None at true dir =
          subst (IsChild past (d ++ n ∷ [])) (same_some (fs_dir (fsnode now (d ++ n ∷ []))) e (sym (entry_of_dir now d n (file_at-files_in past (d ++ n ∷ []) ∙ at) dir) ∙ found))
          (ap is_some at, (dir, refl))
      by None at false dir = none_some e (sym (entry_of_nothing now d n (file_at-files_in past (d ++ n ∷ []) ∙ at) dir) ∙ found)

  -- ---- at a name, or under it

  file_alone : (q p : Path) → has_file past q ≡ true → eq_by_cmp path_cmp p q ≡ (has_file past p && is_prefix q p)
  file_alone q p at = both_ways (eq_by_cmp path_cmp p q) (has_file past p && is_prefix q p) there back
    where
      there : eq_by_cmp path_cmp p q ≡ true → (has_file past p && is_prefix q p) ≡ true
      there t = let same = tied_same p q t in λ i. (ap (has_file past) same ∙ at) i && (ap (is_prefix q) same ∙ prefix_self q) i

      back : (has_file past p && is_prefix q p) ≡ true → eq_by_cmp path_cmp p q ≡ true
      back h =
          let parts = and_parts (has_file past p) (is_prefix q p) h in
          by parts.0 (is_strict_or_same q p parts.1)
        where
          by : has_file past p ≡ true → (p ≡ q) ⊎ (is_strict_prefix q p ≡ true) → eq_by_cmp path_cmp p q ≡ true
          by here (inl e) = ap (λ x. eq_by_cmp path_cmp x q) e ∙ tied_self q
          by here (inr more) = absurd (true≢false (sym more ∙ apart past right q p at here))

  pub dir_alone : (q p : Path) → has_file past q ≡ false → (has_file past p && is_strict_prefix q p) ≡ (has_file past p && is_prefix q p)
  dir_alone q p out = and_same (has_file past p) (is_strict_prefix q p) (is_prefix q p) (λ here. both_ways (is_strict_prefix q p) (is_prefix q p) (λ h. (strict_parts q p h).0) (λ h. by here (is_strict_or_same q p h)))
    where
      by : has_file past p ≡ true → (p ≡ q) ⊎ (is_strict_prefix q p ≡ true) → is_strict_prefix q p ≡ true
      by here (inl e) = absurd (true≢false (sym here ∙ ap (has_file past) e ∙ out))
      by here (inr more) = more

  -- ---- a child is added

  abbrev pub reaches : List Path → List Directory → Path → Bool
  reaches gone left p = is_reached past gone left p

  pub with_file : (q : Path) (gone new : List Path) (left : List Directory) → new ≡ gone ++ q ∷ [] → has_file past q ≡ true → (p : Path) → reaches new left p ≡ (reaches gone left p || (has_file past p && is_prefix q p))
  with_file q gone new left e at p =
      ap (λ gone. reaches gone left p) e
      ∙ ap (λ b. b || (has_file past p && list_any (λ d. is_strict_prefix d.path p) left)) (list_any-append (eq_by_cmp path_cmp p) gone (q ∷ []) ∙ ap (λ b. is_among p gone || b) (or_false (eq_by_cmp path_cmp p q)))
      ∙ more_gone (is_among p gone) (eq_by_cmp path_cmp p q) (has_file past p && list_any (λ d. is_strict_prefix d.path p) left) (has_file past p && is_prefix q p) (file_alone q p at)

  pub with_dir : (dir : Directory) (gone : List Path) (left new : List Directory) (q : Path) → new ≡ left ++ dir ∷ [] → dir.path ≡ q → has_file past q ≡ false → (p : Path) → reaches gone new p ≡ (reaches gone left p || (has_file past p && is_prefix q p))
  with_dir dir gone left new q e is out p =
      ap (λ left. reaches gone left p) e
      ∙ ap (λ b. is_among p gone || (has_file past p && b)) (list_any-append (λ (d : Directory). is_strict_prefix d.path p) left (dir ∷ []))
      ∙ more_left (is_among p gone) (has_file past p) (list_any (λ d. is_strict_prefix d.path p) left) (is_strict_prefix dir.path p) (has_file past p && is_prefix q p) (ap (λ d. has_file past p && is_strict_prefix d p) is ∙ dir_alone q p out)

  pub some_push : (d : Path) (n : List ℕ) → 0 < length (d ++ n ∷ [])
  some_push d n = let long = length-append d (n ∷ []) in omega arith

  -- no file is at or under what is no path
  pub with_nothing : (d : Path) (n : List ℕ) (gone : List Path) (left : List Directory) → is_path (d ++ n ∷ []) ≡ false → (p : Path) → reaches gone left p ≡ (reaches gone left p || (has_file past p && is_prefix (d ++ n ∷ []) p))
  with_nothing d n gone left out p =
      let q = d ++ n ∷ [] in
      none_more (reaches gone left p) (has_file past p) (is_prefix q p)
      (and_none (has_file past p) (is_prefix q p) (λ here. false_from_ne_true (is_prefix q p) (λ under.
      true≢false (sym (front_path q (drop (length q) p) p (front_rest q p under) (file_path past right p here) (some_push d n)) ∙ out))))

  -- ---- all names of a directory

  all_keyed : {X : Type 0} (f : Name → X) (P : Name × X → Type 0) (ns : List Name) → ((n : Name) → is_name_among n ns ≡ true → P (n, f n)) → AllByRecursion P (keyed f ns)
  all_keyed f P [] each = tt
  all_keyed f P (n ∷ ns) each =
      (each n (or_left (bytes_eq n n) (is_name_among n ns) (name_itself n)), all_keyed f P ns (λ m h. each m (or_right (bytes_eq m n) (is_name_among m ns) h)))

  abbrev pub IsEntry : Path → Name × FsEntry → Type 0
  IsEntry d e = fs_entry_at (fsnode now d) e.0 ≡ Some e.1

  pub entries_found : (d : Path) → AllByRecursion (IsEntry d) (fsnode now d).entries
  entries_found d =
      subst (AllByRecursion (IsEntry d)) (sym (entries_are now d ∙ keyed_entries now d))
      (all_keyed (λ n. found_here now (d ++ n ∷ [])) (IsEntry d) (names (below d now))
      (λ n h. entry_is now d n ∙ ap (λ b. cond b (Some (found_here now (d ++ n ∷ []))) None) (sym (among_names d now n) ∙ h)))

  any_keyed : {X : Type 0} (f : Name → X) (t : Name → Bool) (n : Name) (ns : List Name) → is_name_among n ns ≡ true → t n ≡ true → list_any (λ e. t e.0) (keyed f ns) ≡ true
  any_keyed f t n [] h is = absurd (true≢false (sym h))
  any_keyed f t n (m ∷ ns) h is =
      or_either (bytes_eq n m) (is_name_among n ns)
      (λ same. or_left (t m) (list_any (λ e. t e.0) (keyed f ns)) (ap t (sym (same_name n m same)) ∙ is))
      (λ later. or_right (t m) (list_any (λ e. t e.0) (keyed f ns)) (any_keyed f t n ns later is)) h

  name_there : (d p r : Path) (n : List ℕ) → has_file past p ≡ true → p ≡ d ++ n ∷ r → (is_file now (d ++ n ∷ []) || is_dir now (d ++ n ∷ [])) ≡ true
  name_there d p [] n here e = or_left (is_file now (d ++ n ∷ [])) (is_dir now (d ++ n ∷ [])) (ap is_some (file_at-files_in past (d ++ n ∷ [])) ∙ ap (has_file past) (sym e) ∙ here)
  name_there d p (m ∷ r) n here e = or_right (is_file now (d ++ n ∷ [])) (is_dir now (d ++ n ∷ [])) (dir_above past right (d ++ n ∷ []) p under here)
    where
      whole : p ≡ (d ++ n ∷ []) ++ m ∷ r
      whole = e ∙ sym (append_assoc d (n ∷ []) (m ∷ r))

      under : is_strict_prefix (d ++ n ∷ []) p ≡ true
      under = ap (is_strict_prefix (d ++ n ∷ [])) whole ∙ strict_from (d ++ n ∷ []) ((d ++ n ∷ []) ++ m ∷ r) (prefix_itself (d ++ n ∷ []) (m ∷ r)) (let long = length-append (d ++ n ∷ []) (m ∷ r) in omega arith)

  in_name : (d : Path) (n : List ℕ) (p : Path) → is_prefix (d ++ n ∷ []) p ≡ true → is_strict_prefix d p ≡ true
  in_name d n p h =
      let at = strict_from d (d ++ n ∷ []) (prefix_itself d (n ∷ [])) (let long = length-append d (n ∷ []) in omega arith) in
      strict_then d (d ++ n ∷ []) p at h

  in_some_name : (d : Path) (es : List (Name × FsEntry)) (p : Path) → any_named d es p ≡ true → is_strict_prefix d p ≡ true
  in_some_name d [] p h = absurd (true≢false (sym h))
  in_some_name d (e ∷ es) p h = or_either (is_prefix (d ++ e.0 ∷ []) p) (any_named d es p) (λ g. in_name d e.0 p g) (λ g. in_some_name d es p g) h

  pub all_named : (d p : Path) → (has_file past p && any_named d (fsnode now d).entries p) ≡ (has_file past p && is_strict_prefix d p)
  all_named d p = and_same (has_file past p) (any_named d (fsnode now d).entries p) (is_strict_prefix d p) (λ here. both_ways (any_named d (fsnode now d).entries p) (is_strict_prefix d p) (in_some_name d (fsnode now d).entries p) (λ under. named here (first_name d p under)))
    where
      named : has_file past p ≡ true → (n : List ℕ) × (r : Path) × (p ≡ d ++ n ∷ r) → any_named d (fsnode now d).entries p ≡ true
      named here cut =
          let n = cut.0 in
          ap (λ es. any_named d es p) (entries_are now d ∙ keyed_entries now d)
          ∙ any_keyed (λ n. found_here now (d ++ n ∷ [])) (λ n. is_prefix (d ++ n ∷ []) p) n (names (below d now))
          (among_names d now n ∙ name_there d p cut.1 n here cut.2)
          (ap (is_prefix (d ++ n ∷ [])) (cut.2 ∙ sym (append_assoc d (n ∷ []) cut.1)) ∙ prefix_itself (d ++ n ∷ []) cut.1)

  -- ---- the last level

  pub none_deeper : (dirs : List Directory) (p : Path) (n : ℕ) → 4096 ≤ n → AreDeep n dirs → has_file past p ≡ true → list_any (λ d. is_strict_prefix d.path p) dirs ≡ false
  none_deeper [] p n most deep here = refl
  none_deeper (d ∷ dirs) p n most deep here = λ i. first i || none_deeper dirs p n most deep.1 here i
    where
      first : is_strict_prefix d.path p ≡ false
      first = false_from_ne_true (is_strict_prefix d.path p) (λ under.
          let more = (strict_parts d.path p under).1 in
          let short = short_path p (file_path past right p here) in
          let long = deep.0 in
          absurd (omega arith))

-- ---- a directory's fsnode

pub right_of : (m : Nodes) (past : Past) → HasPast m past → IsRight past
right_of m Begin has = absurd has
right_of m (At c first second) has = has.0

pub node_is : (m : Nodes) (past : Past) (d : Path) (x : List ℕ) (n : Fsnode) → HasPast m past → IsDirectory past d x → Some n ≡ fsnode_under m x → n ≡ fsnode (files_in past) d
node_is m Begin d x n has dir e = absurd has
node_is m (At c first second) d x n has dir e = same_some n (fsnode (files_in (At c first second)) d) (e ∙ ap (fsnode_under m) dir.1 ∙ fsnode_there m c first second has.0 has.1 d dir.0)

pub node_there : {P : Type 0} (m : Nodes) (past : Past) (d : Path) (x : List ℕ) → HasPast m past → IsDirectory past d x → None ≡ fsnode_under m x → P
node_there m Begin d x has dir e = absurd has
node_there m (At c first second) d x has dir e = none_some _ (e ∙ ap (fsnode_under m) dir.1 ∙ fsnode_there m c first second has.0 has.1 d dir.0)

-- the entry at a place of the fsnode
pub entry_found : (past : Past) (right : IsRight past) (d : Path) (cs : List (Child RustEntry)) (i : ℕ) (x : Child RustEntry) → children_seen cs ≡ (fsnode (files_in past) d).entries → i < length cs → x ≡ get_or cs i x → fs_entry_at (fsnode (files_in past) d) (child_seen x).0 ≡ Some (child_seen x).1
entry_found past right d cs i x e less is =
    let P : Name × FsEntry → Type 0 = λ e. fs_entry_at (fsnode (files_in past) d) e.0 ≡ Some e.1 in
    each_at (λ c. P (child_seen c)) cs i x less is (all_of_mapped P child_seen cs (subst (AllByRecursion P) (sym e) (entries_found past right d)))

-- no directory is left
pub none_left : (past : Past) (gone : List Path) (dirs : List Directory) (p : Path) → (length dirs == 0) ≡ true → is_reached past gone dirs p ≡ is_among p gone
none_left past gone [] p e = none_further (is_among p gone) (has_file past p)
none_left past gone (d ∷ dirs) p e = absurd (true≢false (sym e ∙ ne_eqb (length (d ∷ dirs)) 0 (λ e. absurd (omega arith))))

-- the entries that were read are the directory's
pub entries_read : (m : Nodes) (past : Past) (d : Path) (x : List ℕ) (o : Option RustFsnode) (node : RustFsnode) (es : List (Child RustEntry)) → o ≡ Some node → option_map fsnode_seen o ≡ fsnode_under m x → es ≡ node.entries.items → HasPast m past → IsDirectory past d x → children_seen es ≡ (fsnode (files_in past) d).entries
entries_read m past d x o node es is read same has dir =
    ap children_seen same
    ∙ ap (λ (n : Fsnode). n.entries) (node_is m past d x (fsnode_seen node) has dir (ap (option_map fsnode_seen) (sym is) ∙ read))
