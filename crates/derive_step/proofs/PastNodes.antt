-- The nodes of a changeset on its parents: those that were put, the deleted nodes that are new, and those of a parent.
use Rattle.std.proofs.Common.{◌≡◌, ◌⊎◌, inl, inr, ℕ, ◌<◌, Bool, true, false, cond, not, ◌&&◌, ◌||◌, List, [], ◌∷◌, ◌++◌, map, length, refl, sym, ap, subst, ◌∙◌, arith}
use Rattle.std.specs.Prelude.{Contains, bytes_eq, Option, Some, None, is_some, ◌==◌}
use mathlib.Core.Bool.{true≢false}
use Rattle.std.specs.List.{AllByRecursion, list_any}
use Rattle.std.specs.Option.{option_and_then, option_or}
use Rattle.std.specs.FinMap.{is_sorted, find as find_key}
use Rattle.std.proofs.lemmas.Bool.{or_left, or_right, or_parts, ne_eqb}
use Rattle.byte_fields.specs.Bytes.{Id}
use Rattle.changeset_model.specs.Path.{Path, path_cmp, is_strict_prefix}
use Rattle.changeset_model.specs.Changeset.{CopySource, File, FileChange, Set, Delete, file_of, set_at}
use Rattle.history_model.specs.History.{Known}
use Rattle.history_model.specs.Past.{Past, Begin, At}
use Rattle.history_model.specs.Tree.{decides, files_in, is_dir, tree_of}
use Rattle.manifest_model.specs.Fsnode.{Fsnode, fsnode, fsnode_bytes, fsnode_id}
use Rattle.manifest_model.specs.Unode.{Unode, unode_bytes, unode_id, is_renewed}
use Rattle.manifest_model.specs.Merged.{unode_at}
use Rattle.manifest_model.specs.Deleted.{DeletedNode, deleted, deleted_bytes, deletions, has_deleted, node_in}
use Rattle.manifest_model.specs.Manifests.{dirs_of, paths_of, gone_paths}
use Rattle.manifest_model.proofs.Deletions.{file_at-files_in}
use Rattle.manifest_laws.proofs.Directories.{directories_are, gone_paths_are}
use Rattle.manifest_laws.proofs.Lists.{none_some}
use Rattle.manifest_laws.proofs.Names.{same_name}
use Rattle.manifest_laws.proofs.Seen.{one_more as under_dir}
use Rattle.merge_laws.specs.Joined.{dirs_differ, files_differ}
use Rattle.merge_laws.specs.Resolved.{has_dir}
use Rattle.merge_laws.proofs.Differences.{files_up}
use Rattle.merge_laws.proofs.Equal.{same_fsnode}
use Rattle.merge_laws.proofs.FsTold.{kept_both, kept_first, kept_second, was_either}
use Rattle.merge_laws.proofs.Trees.{no_root, rises}
use Rattle.merge_laws.proofs.UnodeEntries.{dir_of_first, dir_of_second, file_of_first, file_of_second}
use Rattle.deleted_step.specs.declared.done.Done.{Done as DeletedDone}
use Rattle.deleted_step.specs.Steps.{IsDoneOf as AreDeletedOf, IsNew, IsNodeOf}
use Rattle.derive_step.specs.Pasts.{IsSound, all_nodes_of, is_touched}
use Rattle.derive_step.specs.Walk.{name_in}
use Rattle.derive_step.specs.Renewal.{AreIn, files_set_in, is_new_file}
use Rattle.derive_step.proofs.Above.{by_test}
use Rattle.derive_step.proofs.Edits.{name_here}
use Rattle.derive_step.proofs.FileNodes.{all_found}
use Rattle.derive_step.proofs.Members.{Has, has_contains, contains_has, has_left, has_right, has_either, has_map, map_has, all_has, found_has}
use Rattle.byte_fields.proofs.Lists.{all_both as all_append}

-- ---- of any changeset

module _ (k : Known) (first second : Past) where
  abbrev these : List (Path × File)
  these = files_in (At k first second)

  abbrev all : List (List ℕ)
  all = all_nodes_of (At k first second)

  abbrev fs_bytes : Path × Fsnode → List ℕ
  fs_bytes e = fsnode_bytes e.1

  abbrev fs_at : Path → Path × Fsnode
  fs_at d = (d, fsnode these d)

  abbrev unode_spelled : Path × Unode → List ℕ
  unode_spelled e = unode_bytes e.1

  abbrev unode_of : Path → Path × Unode
  unode_of p = (p, unode_at (At k first second) p)

  abbrev fsnodes : List (List ℕ)
  fsnodes = map fs_bytes (map fs_at (dirs_of these))

  abbrev unodes : List (List ℕ)
  unodes = map unode_spelled (map unode_of (paths_of these))

  abbrev these_gone : List (Path × Id)
  these_gone = deletions (At k first second)

  abbrev deleted_spelled : Path × DeletedNode → List ℕ
  deleted_spelled e = deleted_bytes e.1

  abbrev deleted_of : Path → Path × DeletedNode
  deleted_of d = (d, node_in these_gone d)

  abbrev deleted_nodes : List (List ℕ)
  deleted_nodes = map deleted_spelled (map deleted_of (gone_paths these_gone))

  pub has_fsnode : (d : Path) → is_dir these d ≡ true → Has all (fsnode_bytes (fsnode these d))
  has_fsnode d dir =
      has_left (fsnodes ++ unodes) deleted_nodes (fsnode_bytes (fsnode these d))
      (has_left fsnodes unodes (fsnode_bytes (fsnode these d))
      (has_map fs_bytes (map fs_at (dirs_of these)) (fs_at d) (has_map fs_at (dirs_of these) d (contains_has (dirs_of these) d ((directories_are these d).1 dir)))))

  has_unode : (p : Path) → Has (paths_of these) p → Has all (unode_bytes (unode_at (At k first second) p))
  has_unode p h =
      has_left (fsnodes ++ unodes) deleted_nodes (unode_bytes (unode_at (At k first second) p))
      (has_right fsnodes unodes (unode_bytes (unode_at (At k first second) p))
      (has_map unode_spelled (map unode_of (paths_of these)) (unode_of p) (has_map unode_of (paths_of these) p h)))

  pub has_gone : (d : Path) → has_deleted (At k first second) d ≡ true → Has all (deleted_bytes (deleted (At k first second) d))
  has_gone d there =
      has_right (fsnodes ++ unodes) deleted_nodes (deleted_bytes (node_in these_gone d))
      (has_map deleted_spelled (map deleted_of (gone_paths these_gone)) (deleted_of d) (has_map deleted_of (gone_paths these_gone) d (contains_has (gone_paths these_gone) d ((gone_paths_are these_gone d).1 there))))

  pub has_dir_node : (d : Path) → is_dir these d ≡ true → Has all (unode_bytes (unode_at (At k first second) d))
  has_dir_node d dir = has_unode d (has_left (dirs_of these) (map (λ f. f.0) these) d (contains_has (dirs_of these) d ((directories_are these d).1 dir)))

  pub has_file : (p : Path) (f : File) → tree_of (At k first second) p ≡ Some f → Has all (unode_bytes (unode_at (At k first second) p))
  has_file p f e = has_unode p (has_right (dirs_of these) (map (λ f. f.0) these) p (has_map (λ f. f.0) these (p, f) (found_has p f these (file_at-files_in (At k first second) p ∙ e))))

  pub cases : {P : Type 0} (n : List ℕ) → is_sorted path_cmp these ≡ true → Has all n
      → ((d : Path) → is_dir these d ≡ true → fsnode_bytes (fsnode these d) ≡ n → P)
      → ((d : Path) → is_dir these d ≡ true → unode_bytes (unode_at (At k first second) d) ≡ n → P)
      → ((p : Path) (f : File) → tree_of (At k first second) p ≡ Some f → unode_bytes (unode_at (At k first second) p) ≡ n → P)
      → ((d : Path) → has_deleted (At k first second) d ≡ true → deleted_bytes (deleted (At k first second) d) ≡ n → P) → P
  cases {P} n rises has fs dir file gone = either (has_either (fsnodes ++ unodes) deleted_nodes n has)
    where
      of_path : (p : Path) → unode_bytes (unode_at (At k first second) p) ≡ n → Has (dirs_of these) p ⊎ Has (map (λ f. f.0) these) p → P
      of_path p e (inl h) = dir p ((directories_are these p).0 (has_contains (dirs_of these) p h)) e
      of_path p e (inr h) =
          let found = map_has (λ f. f.0) these p h in
          let at = all_has (λ e. find_key path_cmp e.0 these ≡ Some e.1) these found.0 (all_found these rises) found.1 in
          file p found.0.1 (sym (file_at-files_in (At k first second) p) ∙ ap (λ q. find_key path_cmp q these) (sym found.2) ∙ at) e

      by : Has fsnodes n ⊎ Has unodes n → P
      by (inl h) =
          let one = map_has fs_bytes (map fs_at (dirs_of these)) n h in
          let two = map_has fs_at (dirs_of these) one.0 one.1 in
          fs two.0 ((directories_are these two.0).0 (has_contains (dirs_of these) two.0 two.1)) (ap fs_bytes two.2 ∙ one.2)
      by (inr h) =
          let one = map_has unode_spelled (map unode_of (paths_of these)) n h in
          let two = map_has unode_of (paths_of these) one.0 one.1 in
          of_path two.0 (ap unode_spelled two.2 ∙ one.2) (has_either (dirs_of these) (map (λ f. f.0) these) two.0 two.1)

      either : Has (fsnodes ++ unodes) n ⊎ Has deleted_nodes n → P
      either (inl h) = by (has_either fsnodes unodes n h)
      either (inr h) =
          let one = map_has deleted_spelled (map deleted_of (gone_paths these_gone)) n h in
          let two = map_has deleted_of (gone_paths these_gone) one.0 one.1 in
          gone two.0 ((gone_paths_are these_gone two.0).0 (has_contains (gone_paths these_gone) two.0 two.1)) (ap deleted_spelled two.2 ∙ one.2)

-- ---- files that are set in a directory

pub set_in : (d p : Path) (f : File) (copied : Option CopySource) (n : List ℕ) (es : List (Path × FileChange)) → name_in d p ≡ Some n → Has es (p, Set f copied) → Has (files_set_in d es) p
set_in d p f copied n [] name h = absurd h
set_in d p f copied n ((q, Delete) ∷ es) name (inl e) = absurd (let no = ap (λ x. x.1) e in no_set f copied no)
  where
    no_set : (f : File) (copied : Option CopySource) → ◌≡◌ {A = FileChange} Delete (Set f copied) → ⊥
    no_set f copied e = cc
set_in d p f copied n ((q, Delete) ∷ es) name (inr h) = set_in d p f copied n es name h
set_in d p f copied n ((q, Set g other) ∷ es) name (inl e) = by (is_some (name_in d q)) (ap (λ x. is_some (name_in d x.0)) e ∙ ap is_some name)
  where
    by : (b : Bool) → b ≡ true → Has (cond b (q ∷ files_set_in d es) (files_set_in d es)) p
    by true t = inl (ap (λ x. x.0) e)
    by false t = absurd (true≢false (sym t))
set_in d p f copied n ((q, Set g other) ∷ es) name (inr h) = by (set_in d p f copied n es name h) (is_some (name_in d q))
  where
    by : Has (files_set_in d es) p → (b : Bool) → Has (cond b (q ∷ files_set_in d es) (files_set_in d es)) p
    by ih true = inr ih
    by ih false = ih

-- each has its file
pub all_set : (d : Path) (P : Path → Type 0) (es : List (Path × FileChange)) → ((p : Path) (f : File) (copied : Option CopySource) → Has es (p, Set f copied) → P p) → AllByRecursion P (files_set_in d es)
all_set d P [] h = tt
all_set d P ((q, Delete) ∷ es) h = all_set d P es (λ p f copied g. h p f copied (inr g))
all_set d P ((q, Set f copied) ∷ es) h = by (all_set d P es (λ p g other has. h p g other (inr has))) (is_some (name_in d q))
  where
    by : AllByRecursion P (files_set_in d es) → (b : Bool) → AllByRecursion P (cond b (q ∷ files_set_in d es) (files_set_in d es))
    by ih true = (h q f copied (inl refl), ih)
    by ih false = ih

-- the file that an edit sets is the one of its path
pub set_name : (p : Path) (f : File) (copied : Option CopySource) (es : List (Path × FileChange)) → AllByRecursion (λ e. find_key path_cmp e.0 es ≡ Some e.1) es → Has es (p, Set f copied) → option_and_then file_of (find_key path_cmp p es) ≡ Some f
set_name p f copied es all h = ap (option_and_then file_of) (all_has (λ e. find_key path_cmp e.0 es ≡ Some e.1) es (p, Set f copied) all h)

pub set_has : (d : Path) (n : List ℕ) (f : File) (es : List (Path × FileChange)) → option_and_then file_of (find_key path_cmp (d ++ n ∷ []) es) ≡ Some f → Has (files_set_in d es) (d ++ n ∷ [])
set_has d n f es sets = by (find_key path_cmp (d ++ n ∷ []) es) refl sets
  where
    by : (change : Option FileChange) → find_key path_cmp (d ++ n ∷ []) es ≡ change → option_and_then file_of change ≡ Some f → Has (files_set_in d es) (d ++ n ∷ [])
    by None at e = none_some f e
    by (Some Delete) at e = none_some f e
    by (Some (Set g copied)) at e = set_in d (d ++ n ∷ []) g copied n es (name_here d n) (found_has (d ++ n ∷ []) (Set g copied) es at)

-- a path that isn't the root's, cut before its last element
pub last_cut : (p : Path) → 0 < length p → (d : Path) × (n : List ℕ) × (p ≡ d ++ n ∷ [])
last_cut [] some = absurd (omega arith)
last_cut (e ∷ []) some = ([], e, refl)
last_cut (e ∷ f ∷ p) some = let rest = last_cut (f ∷ p) (omega arith) in (e ∷ rest.0, rest.1, ap (λ q. e ∷ q) rest.2)

any_under : (d : Path) (e : Path × FileChange) (es : List (Path × FileChange)) → is_strict_prefix d e.0 ≡ true → Has es e → list_any (λ e. is_strict_prefix d e.0) es ≡ true
any_under d e [] under h = absurd h
any_under d e (x ∷ es) under (inl same) = or_left (is_strict_prefix d x.0) (list_any (λ e. is_strict_prefix d e.0) es) (ap (λ y. is_strict_prefix d y.0) same ∙ under)
any_under d e (x ∷ es) under (inr h) = or_right (is_strict_prefix d x.0) (list_any (λ e. is_strict_prefix d e.0) es) (any_under d e es under h)

-- ---- of a parent, if there is one

pub old_fsnode : (past : Past) (d : Path) → has_dir past d ≡ true → Has (all_nodes_of past) (fsnode_bytes (fsnode (files_in past) d))
old_fsnode Begin d h = absurd (true≢false (sym h))
old_fsnode (At k first second) d h = has_fsnode k first second d h

pub old_dir : (past : Past) (d : Path) → has_dir past d ≡ true → Has (all_nodes_of past) (unode_bytes (unode_at past d))
old_dir Begin d h = absurd (true≢false (sym h))
old_dir (At k first second) d h = has_dir_node k first second d h

pub old_file : (past : Past) (p : Path) (f : File) → tree_of past p ≡ Some f → Has (all_nodes_of past) (unode_bytes (unode_at past p))
old_file Begin p f e = none_some f e
old_file (At k first second) p f e = has_file k first second p f e

old_deleted : (past : Past) (d : Path) → (length d == 0) ≡ false → has_deleted past d ≡ true → Has (all_nodes_of past) (deleted_bytes (deleted past d))
old_deleted Begin d deep there = absurd (true≢false (sym there ∙ (λ i. deep i || false)))
old_deleted (At k first second) d deep there = has_gone k first second d there

-- ---- of a changeset that touches directories

module _ (c : Known) (first second : Past) (sound : IsSound (At c first second)) (ds : List Path) (more : List (List ℕ)) (inside : (d : Path) → is_touched c first second d ≡ true → Has ds d) (are : AllByRecursion (λ d. AreIn c first second d more) ds) where
  abbrev q : Past
  q = At c first second

  abbrev now : List (Path × File)
  now = files_in (At c first second)

  abbrev es : List (Path × FileChange)
  es = c.changeset.changes

  in_dir : (d : Path) → is_touched c first second d ≡ true → AreIn c first second d more
  in_dir d touched = all_has (λ d. AreIn c first second d more) ds d are (inside d touched)

  abbrev pub IsFound : List ℕ → Type 0
  IsFound n = Contains more n ⊎ (Contains (all_nodes_of first) n ⊎ Contains (all_nodes_of second) n)

  new_one : (n m : List ℕ) → m ≡ n → Contains more m → IsFound n
  new_one n m e h = inl (subst (Contains more) e h)

  of_first : (n m : List ℕ) → m ≡ n → Has (all_nodes_of first) m → IsFound n
  of_first n m e h = inr (inl (subst (Contains (all_nodes_of first)) e (has_contains (all_nodes_of first) m h)))

  of_second : (n m : List ℕ) → m ≡ n → Has (all_nodes_of second) m → IsFound n
  of_second n m e h = inr (inr (subst (Contains (all_nodes_of second)) e (has_contains (all_nodes_of second) m h)))

  -- a directory that isn't touched has the nodes of a parent
  module _ (d : Path) (dir : is_dir now d ≡ true) (left : is_touched c first second d ≡ false) where
    parts : (is_renewed c.changeset d ≡ false) × (dirs_differ first second d ≡ false)
    parts = or_parts (is_renewed c.changeset d) (dirs_differ first second d) left

    same_ids : has_dir first d ≡ true → has_dir second d ≡ true → unode_id (unode_at first d) ≡ unode_id (unode_at second d)
    same_ids h k = same_name (unode_id (unode_at first d)) (unode_id (unode_at second d)) (by (bytes_eq (unode_id (unode_at first d)) (unode_id (unode_at second d))) (sym (λ i. h i && (k i && not (bytes_eq (unode_id (unode_at first d)) (unode_id (unode_at second d))))) ∙ parts.1))
      where
        by : (b : Bool) → not b ≡ false → b ≡ true
        by true h = refl
        by false h = absurd (true≢false h)

    kept_fsnode : (n : List ℕ) → fsnode_bytes (fsnode now d) ≡ n → (a b : Bool) → has_dir first d ≡ a → has_dir second d ≡ b → IsFound n
    kept_fsnode n e true false h k = of_first n (fsnode_bytes (fsnode (files_in first) d)) (ap fsnode_bytes (sym (kept_first c first second d sound.resolved parts.0 dir h k)) ∙ e) (old_fsnode first d h)
    kept_fsnode n e false true h k = of_second n (fsnode_bytes (fsnode (files_in second) d)) (ap fsnode_bytes (sym (kept_second c first second d sound.resolved parts.0 dir h k)) ∙ e) (old_fsnode second d k)
    kept_fsnode n e true true h k =
        let alike = same_fsnode c first second d sound.resolved sound.apart parts.0 dir h k (same_ids h k) in
        of_first n (fsnode_bytes (fsnode (files_in first) d)) (ap fsnode_bytes (sym (kept_both c first second d sound.resolved parts.0 dir sound.apart.0 h k (ap fsnode_id alike))) ∙ e) (old_fsnode first d h)
    kept_fsnode n e false false h k = absurd (true≢false (sym (was_either c first second d sound.resolved parts.0 dir) ∙ (λ i. h i || k i)))

    kept_unode : (n : List ℕ) → unode_bytes (unode_at q d) ≡ n → (a b : Bool) → has_dir first d ≡ a → has_dir second d ≡ b → IsFound n
    kept_unode n e true b h k = of_first n (unode_bytes (unode_at first d)) (ap unode_bytes (sym (dir_of_first c first second sound.resolved d dir left h)) ∙ e) (old_dir first d h)
    kept_unode n e false true h k = of_second n (unode_bytes (unode_at second d)) (ap unode_bytes (sym (dir_of_second c first second sound.resolved d dir left h k)) ∙ e) (old_dir second d k)
    kept_unode n e false false h k = absurd (true≢false (sym (was_either c first second d sound.resolved parts.0 dir) ∙ (λ i. h i || k i)))

  of_fsnode : (n : List ℕ) (d : Path) → is_dir now d ≡ true → fsnode_bytes (fsnode now d) ≡ n → IsFound n
  of_fsnode n d dir e = by_test (is_touched c first second d)
      (λ touched. new_one n (fsnode_bytes (fsnode now d)) e ((in_dir d touched).fsnode dir))
      (λ left. kept_fsnode d dir left n e (has_dir first d) (has_dir second d) refl refl)

  of_dir : (n : List ℕ) (d : Path) → is_dir now d ≡ true → unode_bytes (unode_at q d) ≡ n → IsFound n
  of_dir n d dir e = by_test (is_touched c first second d)
      (λ touched. new_one n (unode_bytes (unode_at q d)) e ((in_dir d touched).unode dir))
      (λ left. kept_unode d dir left n e (has_dir first d) (has_dir second d) refl refl)

  -- ---- a file that is new lies in a directory that is touched

  set_under : (d p : Path) (f : File) → is_strict_prefix d p ≡ true → set_at c.changeset p ≡ Some f → (change : Option FileChange) → find_key path_cmp p es ≡ change → is_touched c first second d ≡ true
  set_under d p f under sets None at = none_some f (sym (ap (option_and_then file_of) at) ∙ sets)
  set_under d p f under sets (Some Delete) at = none_some f (sym (ap (option_and_then file_of) at) ∙ sets)
  set_under d p f under sets (Some (Set g copied)) at =
      or_left (is_renewed c.changeset d) (dirs_differ first second d)
      (or_right (length d == 0) (list_any (λ e. is_strict_prefix d e.0) es) (any_under d (p, Set g copied) es under (found_has p (Set g copied) es at)))

  new_touched : (d : Path) (m : List ℕ) → (o : Option File) → set_at c.changeset (d ++ m ∷ []) ≡ o → is_new_file c first second (d ++ m ∷ []) ≡ true → is_touched c first second d ≡ true
  new_touched d m (Some f) sets new = set_under d (d ++ m ∷ []) f (under_dir d m) sets (find_key path_cmp (d ++ m ∷ []) es) refl
  new_touched d m None unset new =
      or_right (is_renewed c.changeset d) (dirs_differ first second d)
      (files_up c first second sound.resolved sound.apart d m (sym (ap (λ o. is_some o || files_differ first second (d ++ m ∷ [])) unset) ∙ new))

  new_file : (n : List ℕ) (p : Path) (f : File) → 0 < length p → tree_of q p ≡ Some f → unode_bytes (unode_at q p) ≡ n → is_new_file c first second p ≡ true → IsFound n
  new_file n p f some there e new =
      let cut = last_cut p some in
      let touched = new_touched cut.0 cut.1 (set_at c.changeset (cut.0 ++ cut.1 ∷ [])) refl (ap (is_new_file c first second) (sym cut.2) ∙ new) in
      new_one n (unode_bytes (unode_at q (cut.0 ++ cut.1 ∷ []))) (ap (λ x. unode_bytes (unode_at q x)) (sym cut.2) ∙ e)
      ((in_dir cut.0 touched).files cut.1 f (ap (tree_of q) (sym cut.2) ∙ there) (ap (is_new_file c first second) (sym cut.2) ∙ new))

  kept_file : (n : List ℕ) (p : Path) (f : File) → tree_of q p ≡ Some f → unode_bytes (unode_at q p) ≡ n → is_new_file c first second p ≡ false → (a b : Option File) → tree_of first p ≡ a → tree_of second p ≡ b → IsFound n
  kept_file n p f there e old (Some g) b h k =
      of_first n (unode_bytes (unode_at first p)) (ap unode_bytes (sym (file_of_first c first second p f there old (ap is_some (file_at-files_in first p ∙ h)))) ∙ e) (old_file first p g h)
  kept_file n p f there e old None (Some g) h k =
      of_second n (unode_bytes (unode_at second p)) (ap unode_bytes (sym (file_of_second c first second p f there old (ap is_some (file_at-files_in first p ∙ h)) (ap is_some (file_at-files_in second p ∙ k)))) ∙ e) (old_file second p g k)
  kept_file n p f there e old None None h k = none_some f (sym (by (decides c.changeset p) (set_at c.changeset p) refl) ∙ there)
    where
      unset : (o : Option File) → set_at c.changeset p ≡ o → o ≡ None
      unset None e = refl
      unset (Some g) e = absurd (true≢false (ap is_some (sym e) ∙ (or_parts (is_some (set_at c.changeset p)) (files_differ first second p) old).0))

      by : (b : Bool) (o : Option File) → set_at c.changeset p ≡ o → cond b (set_at c.changeset p) (option_or (tree_of first p) (tree_of second p)) ≡ None
      by true o sets = sets ∙ unset o sets
      by false o sets = λ i. option_or (h i) (k i)

  of_file : (n : List ℕ) (p : Path) (f : File) → 0 < length p → tree_of q p ≡ Some f → unode_bytes (unode_at q p) ≡ n → IsFound n
  of_file n p f some there e = by_test (is_new_file c first second p)
      (λ new. new_file n p f some there e new)
      (λ old. kept_file n p f there e old (tree_of first p) (tree_of second p) refl refl)

  pub put_whole : {P : Type 0} (n : List ℕ) → Contains (all_nodes_of q) n → (IsFound n → P) → ((d : Path) → has_deleted q d ≡ true → deleted_bytes (deleted q d) ≡ n → P) → P
  put_whole n h found gone = cases c first second n (rises q) (contains_has (all_nodes_of q) n h) (λ d dir e. found (of_fsnode n d dir e)) (λ d dir e. found (of_dir n d dir e)) (λ p f there e. found (of_file n p f (some_path p f there) there e)) gone
    where
      some_path : (p : Path) (f : File) → tree_of q p ≡ Some f → 0 < length p
      some_path [] f there = none_some f (sym (no_root q sound.resolved) ∙ there)
      some_path (e ∷ p) f there = omega arith

  -- ---- and with the deleted nodes that are new

  module _ (right : AllByRecursion (Contains (all_nodes_of q)) more) (ps : List Path) (new : DeletedDone) (of : AreDeletedOf first q ps new) where
    abbrev all_put : List (List ℕ)
    all_put = more ++ new.nodes.items

    a_node : (ns : List (List ℕ)) → AllByRecursion (IsNodeOf q) ns → AllByRecursion (Contains (all_nodes_of q)) ns
    a_node [] h = tt
    a_node (n ∷ ns) h = (subst (Contains (all_nodes_of q)) (sym h.0.2) (has_contains (all_nodes_of q) (deleted_bytes (deleted q h.0.0)) (has_gone c first second h.0.0 h.0.1)), a_node ns h.1)

    pub all_right : AllByRecursion (Contains (all_nodes_of q)) all_put
    all_right = all_append (Contains (all_nodes_of q)) more new.nodes.items right (a_node new.nodes.items of.right)

    abbrev pub IsThere : List ℕ → Type 0
    IsThere n = Contains all_put n ⊎ (Contains (all_nodes_of first) n ⊎ Contains (all_nodes_of second) n)

    of_put : (n : List ℕ) → IsFound n → IsThere n
    of_put n (inl h) = inl (has_contains all_put n (has_left more new.nodes.items n (contains_has more n h)))
    of_put n (inr h) = inr h

    is_new : (n : List ℕ) (node : DeletedNode) → deleted_bytes node ≡ n → IsNew new.nodes.items node → IsThere n
    is_new n node e has = inl (has_contains all_put n (has_right more new.nodes.items n (subst (Has new.nodes.items) e (contains_has new.nodes.items (deleted_bytes node) has.here))))

    of_gone : (n : List ℕ) (d : Path) → has_deleted q d ≡ true → deleted_bytes (deleted q d) ≡ n → IsThere n
    of_gone n [] there e = is_new n (deleted q []) e of.root_new
    of_gone n (m ∷ d) there e = by (of.whole (m ∷ d) there)
      where
        by : IsNew new.nodes.items (deleted q (m ∷ d)) ⊎ ((has_deleted first (m ∷ d) ≡ true) × (deleted q (m ∷ d) ≡ deleted first (m ∷ d))) → IsThere n
        by (inl has) = is_new n (deleted q (m ∷ d)) e has
        by (inr (was, same)) =
            inr (inl (subst (Contains (all_nodes_of first)) (sym (ap deleted_bytes same) ∙ e) (has_contains (all_nodes_of first) (deleted_bytes (deleted first (m ∷ d))) (old_deleted first (m ∷ d) (ne_eqb (length (m ∷ d)) 0 (λ z. absurd (omega arith))) was))))

    pub all_whole : (n : List ℕ) → Contains (all_nodes_of q) n → IsThere n
    all_whole n h = put_whole n h (of_put n) (of_gone n)
