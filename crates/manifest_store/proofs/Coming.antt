-- The files that a second parent brings, as its directories are gone through level by level.
use Rattle.std.proofs.Common.{◌≡◌, ◌⊎◌, inl, inr, ℕ, ◌≤◌, Bool, true, false, not, cond, ◌&&◌, ◌||◌, List, [], ◌∷◌, ◌++◌, length, drop, refl, sym, ap, subst, ◌∙◌, arith}
use Rattle.std.specs.Prelude.{Option, Some, None, is_some, option_map, ◌==◌}
use Rattle.std.specs.List.{list_any}
use Rattle.std.specs.Borrow.{Bor}
use Rattle.std.specs.Option.{option_and_then, option_copied}
use Rattle.std.specs.Ordering.{eq_by_cmp}
use mathlib.Core.Bool.{true≢false}
use Rattle.std.proofs.lemmas.Bool.{and_parts, false_from_ne_true, ne_eqb}
use Rattle.std.proofs.lemmas.List.{length-append}
use Rattle.std.proofs.lemmas.List.Folds.{list_any-append}
use Rattle.byte_fields.proofs.Booleans.{or_false, and_false, and_true, same_some}
use Rattle.changeset_model.specs.Path.{Path, path_cmp, is_path, is_prefix, is_strict_prefix}
use Rattle.changeset_model.specs.Changeset.{File, FileChange}
use Rattle.history_model.specs.Past.{Past, Begin, At}
use Rattle.history_model.specs.Tree.{files_in, is_dir, tree_of}
use Rattle.history_model.proofs.Landings.{prefix_self}
use Rattle.manifest_model.specs.Fsnode.{Fsnode, FsEntry, FsFile, FsDir, fsnode, fsnode_id}
use Rattle.manifest_model.proofs.Deletions.{file_at-files_in}
use Rattle.manifest_model.proofs.Derivations.{tied_same}
use Rattle.manifest_laws.specs.Entries.{fs_entry_at}
use Rattle.manifest_laws.proofs.Flat.{is_strict_or_same, strict_from, strict_parts, tied_self}
use Rattle.manifest_laws.proofs.Lists.{none_some}
use Rattle.manifest_laws.proofs.Fsnodes.{entry_of_file, entry_of_dir, entry_of_nothing}
use Rattle.manifest_laws.proofs.Steps.{both_ways}
use Rattle.merge_laws.specs.Resolved.{has_dir}
use Rattle.merge_laws.proofs.FsTold.{has, same_files_under}
use Rattle.merge_laws.proofs.Trees.{flat, no_file_at}
use Rattle.merge_laws.proofs.UnodeMerge.{has_is}
use Rattle.tree_fold.proofs.Texts.{front_rest}
use Rattle.tree_fold.proofs.Trees.{both as and_both}
use Rattle.deleted_step.specs.Steps.{is_among}
use Rattle.derive_step.specs.Pasts.{roots_of}
use Rattle.fsnode.specs.declared.entry.FsEntry.{FsEntry as RustEntry}
use Rattle.fsnode.specs.declared.node.Fsnode.{Fsnode as RustFsnode}
use Rattle.fsnode.specs.Parts.{children_seen}
use Rattle.fsnode.specs.Views.{fsnode_seen}
use Rattle.node_fields.specs.declared.child.Child.{Child}
use Rattle.node_table.specs.Table.{Nodes}
use Rattle.node_table.specs.declared.roots.Roots.{Roots}
use Rattle.manifest_store.specs.declared.brought.Brought.{Brought}
use Rattle.manifest_store.specs.Brought.{HasBoth, IsBroughtFrom, AreAsDeep, AreEntries, entry_under, id_of_dir, is_brought, is_file_entry, is_to_come, own}
use Rattle.manifest_store.specs.Manifests.{HoldsAll, IsRight}
use Rattle.manifest_store.specs.Moves.{Adds, IsDirectory, Stands, brings, comes, has_file, settles}
use Rattle.manifest_store.specs.Nodes.{fsnode_under}
use Rattle.manifest_store.specs.Reads.{dir_of}
use Rattle.manifest_store.proofs.Gathered.{front_path}
use Rattle.manifest_store.proofs.Levels.{all_named, any_named, dir_alone, more_gone, more_left, none_further, none_more, short_path, some_push}
use Rattle.manifest_store.proofs.Held.{fsnode_there, gone_dir, gone_file}
use Rattle.manifest_store.proofs.Taken.{adds_same, and_none, and_same, apart, file_path, no_root, one_further}

pub own_path : (o : Option (Bor Path)) (p : Option Path) → option_copied o ≡ p → dir_of o ≡ own p
own_path None p e = ap own e
own_path (Some x) p e = ap own e

-- ---- truth values

and_cancel : (x a b : Bool) → x ≡ true → (x && a) ≡ (x && b) → a ≡ b
and_cancel true a b h e = e
and_cancel false a b h e = absurd (true≢false (sym h))

pub node_under : (m : Nodes) (past : Past) (d : Path) → IsRight past → HoldsAll m past → has_dir past d ≡ true → fsnode_under m (fsnode_id (fsnode (files_in past) d)) ≡ Some (fsnode (files_in past) d)
node_under m Begin d right held dir = absurd (true≢false (sym dir))
node_under m (At c first second) d right held dir = fsnode_there m c first second right held d dir

-- a directory that isn't there has no entries
no_entry : (past : Past) (d : Path) (n : List ℕ) → has_dir past d ≡ false → fs_entry_at (fsnode (files_in past) d) n ≡ None
no_entry Begin d n out = refl
no_entry (At c first second) d n out =
    entry_of_nothing (files_in (At c first second)) d n (file_at-files_in (At c first second) (d ++ n ∷ []) ∙ gone_file (At c first second) d out n []) (gone_dir (files_in (At c first second)) d out n [])

module _ (first second : Past) (es : List (Path × FileChange)) where
  abbrev brought : Path → Bool
  brought p = is_brought first second es p

  abbrev settled : Path → Bool
  settled p = list_any (λ e. settles e p) es

  abbrev to_come : List Path → List Brought → Path → Bool
  to_come come next p = is_to_come first second es come next p

  -- ---- what is brought

  parts : (p : Path) → brought p ≡ true → (has_file first p ≡ false) × (has_file second p ≡ true)
  parts p h = by (has_file first p) (has_file second p) (not (settled p)) h
    where
      by : (a b c : Bool) → (not a && (b && c)) ≡ true → (a ≡ false) × (b ≡ true)
      by true b c k = absurd (true≢false (sym k))
      by false true c k = (refl, refl)
      by false false c k = absurd (true≢false (sym k))

  pub is_new : (q : Path) → has_file first q ≡ false → has_file second q ≡ true → settled q ≡ false → brought q ≡ true
  is_new q out here left = λ i. not (out i) && (here i && not (left i))

  pub was_there : (q : Path) → has_file first q ≡ true → brought q ≡ false
  was_there q there = λ i. not (there i) && (has_file second q && not (settled q))

  pub was_settled : (q : Path) → settled q ≡ true → brought q ≡ false
  was_settled q done = (λ i. not (has_file first q) && (has_file second q && not (done i))) ∙ ap (λ b. not (has_file first q) && b) (and_false (has_file second q)) ∙ and_false (not (has_file first q))

  module _ (right : IsRight second) where
    -- ---- at a file, and in a directory

    -- no other file lies under one
    itself : (q p : Path) → has_file second q ≡ true → brought p ≡ true → is_prefix q p ≡ true → p ≡ q
    itself q p at here under = by (is_strict_or_same q p under)
      where
        by : (p ≡ q) ⊎ (is_strict_prefix q p ≡ true) → p ≡ q
        by (inl e) = e
        by (inr more) = absurd (true≢false (sym more ∙ apart second right q p at (parts p here).1))

    pub file_brought : (q p : Path) → has_file second q ≡ true → brought q ≡ true → eq_by_cmp path_cmp p q ≡ (brought p && is_prefix q p)
    file_brought q p at new = both_ways (eq_by_cmp path_cmp p q) (brought p && is_prefix q p) there back
      where
        there : eq_by_cmp path_cmp p q ≡ true → (brought p && is_prefix q p) ≡ true
        there t = let same = tied_same p q t in and_both (brought p) (is_prefix q p) (ap brought same ∙ new) (ap (is_prefix q) same ∙ prefix_self q)

        back : (brought p && is_prefix q p) ≡ true → eq_by_cmp path_cmp p q ≡ true
        back h =
            let both = and_parts (brought p) (is_prefix q p) h in
            ap (λ x. eq_by_cmp path_cmp x q) (itself q p at both.0 both.1) ∙ tied_self q

    pub file_left : (q p : Path) → has_file second q ≡ true → brought q ≡ false → (brought p && is_prefix q p) ≡ false
    file_left q p at old = and_none (brought p) (is_prefix q p) (λ here. false_from_ne_true (is_prefix q p) (λ under. true≢false (sym here ∙ ap brought (itself q p at here under) ∙ old)))

    pub with_added : (P : Path → Bool) (come new : List Path) (next : List Brought) → Adds P come new → (p : Path) → to_come new next p ≡ (to_come come next p || P p)
    with_added P come new next adds p =
        ap (λ b. b || (brought p && list_any (λ d. is_strict_prefix (own d.path) p) next)) (adds p)
        ∙ more_gone (is_among p come) (P p) (brought p && list_any (λ d. is_strict_prefix (own d.path) p) next) (P p) refl

    pub with_dir : (dir : Brought) (come : List Path) (next new : List Brought) (q : Path) → new ≡ next ++ dir ∷ [] → own dir.path ≡ q → has_file second q ≡ false → (p : Path) → to_come come new p ≡ (to_come come next p || (brought p && is_prefix q p))
    with_dir dir come next new q e is out p =
        ap (λ next. to_come come next p) e
        ∙ ap (λ b. is_among p come || (brought p && b)) (list_any-append (λ (d : Brought). is_strict_prefix (own d.path) p) next (dir ∷ []))
        ∙ more_left (is_among p come) (brought p) (list_any (λ d. is_strict_prefix (own d.path) p) next) (is_strict_prefix (own dir.path) p) (brought p && is_prefix q p)
        (ap (λ d. brought p && is_strict_prefix d p) is
        ∙ and_same (brought p) (is_strict_prefix q p) (is_prefix q p) (λ here. and_cancel (has_file second p) (is_strict_prefix q p) (is_prefix q p) (parts p here).1 (dir_alone second right q p out)))

    -- no file is at or under what is no path
    pub with_nothing : (d : Path) (n : List ℕ) (come : List Path) (next : List Brought) → is_path (d ++ n ∷ []) ≡ false → (p : Path) → to_come come next p ≡ (to_come come next p || (brought p && is_prefix (d ++ n ∷ []) p))
    with_nothing d n come next out p =
        let q = d ++ n ∷ [] in
        none_more (to_come come next p) (brought p) (is_prefix q p)
        (and_none (brought p) (is_prefix q p) (λ here. false_from_ne_true (is_prefix q p) (λ under.
        true≢false (sym (front_path q (drop (length q) p) p (front_rest q p under) (file_path second right p (parts p here).1) (some_push second right d n)) ∙ out))))

    pub all_brought : (d p : Path) → (brought p && any_named d (fsnode (files_in second) d).entries p) ≡ (brought p && is_strict_prefix d p)
    all_brought d p = and_same (brought p) (any_named d (fsnode (files_in second) d).entries p) (is_strict_prefix d p) (λ here. and_cancel (has_file second p) (any_named d (fsnode (files_in second) d).entries p) (is_strict_prefix d p) (parts p here).1 (all_named second right d p))

    -- ---- the first level, and the last

    pub under_root : (p : Path) → (brought p && is_strict_prefix [] p) ≡ brought p
    under_root p = by p refl
      where
        by : (x : Path) → p ≡ x → (brought p && is_strict_prefix [] p) ≡ brought p
        by [] e = (λ i. out i && is_strict_prefix [] p) ∙ sym out
          where
            out : brought p ≡ false
            out = false_from_ne_true (brought p) (λ here. true≢false (sym (parts p here).1 ∙ ap (has_file second) e ∙ no_root second right))
        by (k ∷ x) e =
            ap (λ y. brought p && is_strict_prefix [] y) e
            ∙ ap (λ b. brought p && b) (strict_from [] (k ∷ x) refl (omega arith))
            ∙ and_true (brought p)

    pub none_deeper : (dirs : List Brought) (p : Path) (n : ℕ) → 4096 ≤ n → AreAsDeep n dirs → brought p ≡ true → list_any (λ d. is_strict_prefix (own d.path) p) dirs ≡ false
    none_deeper [] p n most deep here = refl
    none_deeper (d ∷ dirs) p n most deep here = λ i. last i || none_deeper dirs p n most deep.1 here i
      where
        last : is_strict_prefix (own d.path) p ≡ false
        last = false_from_ne_true (is_strict_prefix (own d.path) p) (λ under.
            let more = (strict_parts (own d.path) p under).1 in
            let short = short_path p (file_path second right p (parts p here).1) in
            let long = deep.0 in
            absurd (omega arith))

  -- no directory is left
  pub none_left : (come : List Path) (dirs : List Brought) (p : Path) → (length dirs == 0) ≡ true → to_come come dirs p ≡ is_among p come
  none_left come [] p e = none_further (is_among p come) (brought p)
  none_left come (d ∷ dirs) p e = absurd (true≢false (sym e ∙ ne_eqb (length (d ∷ dirs)) 0 (λ e. absurd (omega arith))))

  -- ---- a directory of which both have one fsnode

  module _ (m : Nodes) (both : HasBoth m first second) where
    one_node : (d : Path) → has_dir first d ≡ true → has_dir second d ≡ true → fsnode_id (fsnode (files_in first) d) ≡ fsnode_id (fsnode (files_in second) d) → fsnode (files_in first) d ≡ fsnode (files_in second) d
    one_node d here there same = same_some _ _ (sym (node_under m first d both.first_right both.first_held here) ∙ ap (fsnode_under m) same ∙ node_under m second d both.second_right both.second_held there)

    nothing_new : (d p : Path) → has_dir first d ≡ true → has_dir second d ≡ true → fsnode_id (fsnode (files_in first) d) ≡ fsnode_id (fsnode (files_in second) d) → (brought p && is_strict_prefix d p) ≡ false
    nothing_new d p here there same = and_none (brought p) (is_strict_prefix d p) (λ new. false_from_ne_true (is_strict_prefix d p) (λ under.
        let alike = same_files_under (files_in first) (files_in second) (flat first both.first_right.resolved) (flat second both.second_right.resolved)
        (λ x deep one two e. one_node x (has first x deep one) (has second x deep two) e) d (one_node d here there same) p under in
        true≢false (sym (parts p new).1 ∙ ap is_some (sym (file_at-files_in second p) ∙ sym alike ∙ file_at-files_in first p) ∙ (parts p new).0)))

    pub skipped : (dir : Brought) (come : List Path) (next : List Brought) → IsBroughtFrom first second dir → dir.first ≡ Some dir.second → (p : Path) → to_come come next p ≡ (to_come come next p || (brought p && is_strict_prefix (own dir.path) p))
    skipped dir come next from one p = none_more (to_come come next p) (brought p) (is_strict_prefix (own dir.path) p) (by (has_dir first (own dir.path)) refl (sym from.first ∙ one))
      where
        by : (b : Bool) → has_dir first (own dir.path) ≡ b → cond b (Some (fsnode_id (fsnode (files_in first) (own dir.path)))) None ≡ Some dir.second → (brought p && is_strict_prefix (own dir.path) p) ≡ false
        by true here e = nothing_new (own dir.path) p here from.there (same_some _ _ e ∙ from.second)
        by false here e = absurd cc

-- ---- what the first parent has at a path

module _ (first : Past) (right : IsRight first) (d : Path) (n : List ℕ) where
  abbrev q : Path
  q = d ++ n ∷ []

  abbrev Told : Option FsEntry → Type 0
  Told None = (has_file first q ≡ false) × (is_dir (files_in first) q ≡ false)
  Told (Some (FsFile f)) = has_file first q ≡ true
  Told (Some (FsDir x s)) = (has_file first q ≡ false) × IsDirectory first q x

  told : Told (fs_entry_at (fsnode (files_in first) d) n)
  told = by (tree_of first q) refl (is_dir (files_in first) q) refl
    where
      by : (o : Option File) → tree_of first q ≡ o → (b : Bool) → is_dir (files_in first) q ≡ b → Told (fs_entry_at (fsnode (files_in first) d) n)
      by (Some f) at b dir = subst Told (sym (entry_of_file (files_in first) d n f (file_at-files_in first q ∙ at))) (ap is_some at)
      by None at true dir = subst Told (sym (entry_of_dir (files_in first) d n (file_at-files_in first q ∙ at) dir)) (ap is_some at, (dir, refl))
      by None at false dir = subst Told (sym (entry_of_nothing (files_in first) d n (file_at-files_in first q ∙ at) dir)) (ap is_some at, dir)

  pub is_file_there : (o : Option FsEntry) → o ≡ fs_entry_at (fsnode (files_in first) d) n → is_file_entry o ≡ has_file first q
  is_file_there o e = by o (subst Told (sym e) told)
    where
      by : (o : Option FsEntry) → Told o → is_file_entry o ≡ has_file first q
      by None t = sym t.0
      by (Some (FsFile f)) t = sym t
      by (Some (FsDir x s)) t = sym t.0

  deep : (length q == 0) ≡ false
  deep = ne_eqb (length q) 0 (λ e. let long = length-append d (n ∷ []) in omega arith)

  pub dir_there : (o : Option FsEntry) → o ≡ fs_entry_at (fsnode (files_in first) d) n → id_of_dir o ≡ cond (has_dir first q) (Some (fsnode_id (fsnode (files_in first) q))) None
  dir_there o e = by o (subst Told (sym e) told)
    where
      none : is_dir (files_in first) q ≡ false → None ≡ cond (has_dir first q) (Some (fsnode_id (fsnode (files_in first) q))) None
      none out = sym (ap (λ b. cond b (Some (fsnode_id (fsnode (files_in first) q))) None) (has_is first q deep ∙ out))

      by : (o : Option FsEntry) → Told o → id_of_dir o ≡ cond (has_dir first q) (Some (fsnode_id (fsnode (files_in first) q))) None
      by None t = none t.1
      by (Some (FsFile f)) t = none (false_from_ne_true (is_dir (files_in first) q) (λ dir. true≢false (sym t ∙ ap is_some (no_file_at first q right.resolved dir))))
      by (Some (FsDir x s)) t = ap (λ x. Some x) t.1.1 ∙ sym (ap (λ b. cond b (Some (fsnode_id (fsnode (files_in first) q))) None) (has_is first q deep ∙ t.1.0))

-- ---- with what edits bring

module _ (past : Past) (es : List (Path × FileChange)) where
  pub with_brought : (other : Past) (old mid new : List Path) → Adds (λ p. not (has_file past p) && list_any (λ e. brings e p) es) old mid → Adds (λ p. not (has_file past p) && (has_file other p && not (list_any (λ e. settles e p) es))) mid new → Adds (comes past other es) old new
  with_brought other old mid new one two p =
      let rest = not (has_file past p) && (has_file other p && not (list_any (λ e. settles e p) es)) in
      two p
      ∙ ap (λ b. b || rest) (one p)
      ∙ one_further (is_among p old) (not (has_file past p)) (list_any (λ e. brings e p) es) (has_file other p && not (list_any (λ e. settles e p) es))

  -- without a second parent
  pub none_brought : (m : Nodes) (other : Past) (old new : List Path) → Stands m None other → Adds (λ p. not (has_file past p) && list_any (λ e. brings e p) es) old new → Adds (comes past other es) old new
  none_brought m Begin old new s one = adds_same _ (comes past Begin es) old new (λ p. ap (λ b. not (has_file past p) && b) (sym (or_false (list_any (λ e. brings e p) es)))) one
  none_brought m (At c first second) old new s one = none_some _ s.roots

-- ---- where it begins

pub has_both : (m : Nodes) (parent : Option Roots) (second : Roots) (past other : Past) → Stands m parent past → Stands m (Some second) other → HasBoth m past other
has_both m parent second past other s t = record { first_right = s.right; first_held = s.held; second_right = t.right; second_held = t.held }

pub begins : (first : Option Roots) (second : Roots) (past other : Past) → first ≡ roots_of past → Some second ≡ roots_of other → (dir : Brought) → own dir.path ≡ [] → dir.second ≡ second.fsnode → dir.first ≡ option_map (λ r. r.fsnode) first → IsBroughtFrom past other dir
begins first second past Begin one two dir root id at = absurd cc
begins first second past (At c a b) one two dir root id at = record {
  there = ap (has_dir (At c a b)) root;
  second = id ∙ ap (λ (r : Roots). r.fsnode) (same_some second _ two) ∙ ap (λ d. fsnode_id (fsnode (files_in (At c a b)) d)) (sym root);
  first = at ∙ ap (option_map (λ r. r.fsnode)) one ∙ by past ∙ ap (λ d. cond (has_dir past d) (Some (fsnode_id (fsnode (files_in past) d))) None) (sym root);
}
  where
    by : (past : Past) → option_map (λ r. r.fsnode) (roots_of past) ≡ cond (has_dir past []) (Some (fsnode_id (fsnode (files_in past) []))) None
    by Begin = refl
    by (At k x y) = refl

-- the first parent's fsnode of a directory, if it has one, and the entry of a name there
module _ (m : Nodes) (past other : Past) (both : HasBoth m past other) (dir : Brought) (from : IsBroughtFrom past other dir) where
  first_entry : (o : Option Fsnode) (n : List ℕ) → o ≡ option_and_then (fsnode_under m) dir.first → entry_under o n ≡ fs_entry_at (fsnode (files_in past) (own dir.path)) n
  first_entry o n read = ap (λ o. entry_under o n) (read ∙ ap (option_and_then (fsnode_under m)) from.first) ∙ by (has_dir past (own dir.path)) refl
    where
      by : (b : Bool) → has_dir past (own dir.path) ≡ b → entry_under (option_and_then (fsnode_under m) (cond b (Some (fsnode_id (fsnode (files_in past) (own dir.path)))) None)) n ≡ fs_entry_at (fsnode (files_in past) (own dir.path)) n
      by true here = ap (λ o. entry_under o n) (node_under m past (own dir.path) both.first_right both.first_held here)
      by false here = sym (no_entry past (own dir.path) n here)

  second_node : (o : Option RustFsnode) (node : RustFsnode) (es : List (Child RustEntry)) → o ≡ Some node → option_map fsnode_seen o ≡ fsnode_under m dir.second → es ≡ node.entries.items → children_seen es ≡ (fsnode (files_in other) (own dir.path)).entries
  second_node o node es is read same =
      ap children_seen same
      ∙ ap (λ (n : Fsnode). n.entries) (same_some (fsnode_seen node) (fsnode (files_in other) (own dir.path))
      (ap (option_map fsnode_seen) (sym is) ∙ read ∙ ap (fsnode_under m) from.second ∙ node_under m other (own dir.path) both.second_right both.second_held from.there))

  pub are_entries : (node : Option Fsnode) → node ≡ option_and_then (fsnode_under m) dir.first → (o : Option RustFsnode) (second : RustFsnode) (es : List (Child RustEntry)) → o ≡ Some second → option_map fsnode_seen o ≡ fsnode_under m dir.second → es ≡ second.entries.items → AreEntries past other (own dir.path) node (children_seen es)
  are_entries node read o second es is here same = record {
    first_right = both.first_right;
    second_right = both.second_right;
    at_first = λ n. first_entry node n read;
    at_second = second_node o second es is here same;
  }

  pub second_there : {P : Type 0} → None ≡ fsnode_under m dir.second → P
  second_there none = none_some _ (none ∙ ap (fsnode_under m) from.second ∙ node_under m other (own dir.path) both.second_right both.second_held from.there)

-- a directory of the second parent, found in another one
pub pushed : (past other : Past) (left : IsRight past) (d : Path) (n : List ℕ) (dir : Brought) (there : Option FsEntry) → own dir.path ≡ d ++ n ∷ [] → IsDirectory other (d ++ n ∷ []) dir.second → there ≡ fs_entry_at (fsnode (files_in past) d) n → dir.first ≡ id_of_dir there → IsBroughtFrom past other dir
pushed past other left d n dir there is in_other e at_first = record {
  there = ap (has_dir other) is ∙ has other (d ++ n ∷ []) (deep past left d n) in_other.0;
  second = in_other.1 ∙ ap (λ x. fsnode_id (fsnode (files_in other) x)) (sym is);
  first = at_first ∙ dir_there past left d n there e ∙ ap (λ x. cond (has_dir past x) (Some (fsnode_id (fsnode (files_in past) x))) None) (sym is);
}
