-- The unodes of the files directly in a directory that are new at a changeset: those that it sets, and those of which its parents have different ones.
use Rattle.std.proofs.Common.{◌≡◌, ℕ, Bool, true, false, cond, not, ◌&&◌, List, [], ◌∷◌, ◌++◌, map, length, drop, inl, refl, sym, ap, subst, ◌∙◌}
use Rattle.std.specs.Prelude.{Option, Some, None, bytes_eq, is_some}
use mathlib.Core.Bool.{true≢false}
use Rattle.std.specs.List.{AllByRecursion, dedup, list_any}
use Rattle.std.specs.Option.{option_and_then, option_or}
use Rattle.std.specs.BTreeMap.{BTreeMap}
use Rattle.std.specs.Ordering.{eq_by_cmp}
use Rattle.std.specs.FinMap.{is_sorted, find as find_key}
use Rattle.std.specs.FinMap.Entries.{below_all}
use Rattle.std.proofs.lemmas.Bool.{and_parts, or_left, or_right, false_from_ne_true}
use Rattle.sha2.specs.Sha256.{sha256}
use Rattle.byte_fields.specs.Bytes.{Id}
use Rattle.changeset_model.specs.Path.{Path, path_cmp, path_lt, text_of, is_path, is_strict_prefix}
use Rattle.changeset_model.specs.Changeset.{CopySource, File, FileChange, Set, Delete, file_of, set_at}
use Rattle.changeset_model.proofs.Rising.{path_lt_irreflexive}
use Rattle.history_model.specs.History.{Known}
use Rattle.history_model.specs.Past.{Past, Begin, At}
use Rattle.history_model.specs.Tree.{decides, file_at, files_in, is_dir, is_file, tree_of}
use Rattle.manifest_model.specs.Unode.{UnodeEntry, UnodeFile, UnodeDir, FileUnode, unode_bytes, unode_id}
use Rattle.manifest_model.specs.Merged.{unode_at}
use Rattle.manifest_model.proofs.Deletions.{file_at-files_in}
use Rattle.manifest_model.proofs.Derivations.{tied_same, or_case as or_either}
use Rattle.manifest_laws.specs.Entries.{unode_entry_for}
use Rattle.manifest_laws.specs.EntryEdits.{file_parents, is_unode_file}
use Rattle.manifest_laws.proofs.Entries.{file_by_entry}
use Rattle.manifest_laws.proofs.Flat.{tied_self, strict_parts}
use Rattle.manifest_laws.proofs.Lists.{none_some, true_and_false}
use Rattle.manifest_laws.proofs.Reach.{deletes}
use Rattle.manifest_laws.proofs.UnodeSide.{parents_of_entry}
use Rattle.merge_laws.specs.Joined.{both_parents, file_parents_of, files_differ, unode_entry_on}
use Rattle.merge_laws.proofs.Sides.{set_is as set_is_now}
use Rattle.merge_laws.proofs.Trees.{merges, no_file_at}
use Rattle.merge_laws.proofs.UnodeEntries.{entry_on, file_made}
use Rattle.merge_laws.proofs.UnodeMerge.{seen_on}
use Rattle.derive_step.specs.declared.made.Made.{Made}
use Rattle.derive_step.specs.Pasts.{IsSound}
use Rattle.derive_step.specs.Walk.{Sides, edited, name_in, nodes_at, renewed, sole}
use Rattle.derive_step.specs.Steps.{joined_unode, own_now, own_unode, set_unode, set_nodes, unode_after, unode_made_in, unode_set}
use Rattle.derive_step.specs.Renewal.{IsMadeUnder, files_set_in, is_new_file}
use Rattle.derive_step.proofs.Folded.{entries_by, folded}
use Rattle.derive_step.proofs.Joining.{left_files}
use Rattle.derive_step.proofs.Members.{Has}
use Rattle.derive_step.proofs.PastLaws.{file_here, file_path, rise}
use Rattle.bonsai.proofs.Between.{not_above as not_over}
use Rattle.tree_fold.proofs.Texts.{front_rest}

abbrev Edits : Type 0
Edits = List (Path × FileChange)

-- ---- edits by rising paths

-- later paths are greater
pub later_is_more : (q p : Path) (es : Edits) → below_all path_cmp q es ≡ true → list_any (λ e. eq_by_cmp path_cmp p e.0) es ≡ true → path_lt q p ≡ true
later_is_more q p [] below h = absurd (true≢false (sym h))
later_is_more q p (e ∷ es) below h =
    let parts = and_parts (path_lt q e.0) (below_all path_cmp q es) below in
    or_either (eq_by_cmp path_cmp p e.0) (list_any (λ e. eq_by_cmp path_cmp p e.0) es)
    (λ same. ap (path_lt q) (tied_same p e.0 same) ∙ parts.0)
    (λ rest. later_is_more q p es parts.1 rest) h

pub not_same : (q p : Path) → path_lt q p ≡ true → eq_by_cmp path_cmp p q ≡ false
not_same q p more = false_from_ne_true (eq_by_cmp path_cmp p q) (λ same. true_and_false (path_lt q p) more (ap (path_lt q) (tied_same p q same) ∙ path_lt_irreflexive q))

still_found : {V : Type 0} (k : Path) (v : V) (es xs : List (Path × V)) → below_all path_cmp k xs ≡ true → AllByRecursion (λ e. find_key path_cmp e.0 es ≡ Some e.1) xs → AllByRecursion (λ e. find_key path_cmp e.0 ((k, v) ∷ es) ≡ Some e.1) xs
still_found k v es [] below all = tt
still_found k v es (x ∷ xs) below all =
    let parts = and_parts (path_lt k x.0) (below_all path_cmp k xs) below in
    (ap (λ b. cond b (Some v) (find_key path_cmp x.0 es)) (not_same k x.0 parts.0) ∙ all.0, still_found k v es xs parts.1 all.1)

pub all_found : {V : Type 0} (es : List (Path × V)) → is_sorted path_cmp es ≡ true → AllByRecursion (λ e. find_key path_cmp e.0 es ≡ Some e.1) es
all_found [] rise = tt
all_found (e ∷ es) rise =
    let parts = and_parts (below_all path_cmp e.0 es) (is_sorted path_cmp es) rise in
    (ap (λ b. cond b (Some e.1) (find_key path_cmp e.0 es)) (tied_self e.0), still_found e.0 e.1 es es parts.0 (all_found es parts.1))

-- ---- names

sole_is : (p : Path) (n : List ℕ) → sole p ≡ Some n → p ≡ n ∷ []
sole_is [] n h = absurd (cc)
sole_is (e ∷ []) n h = ap (λ x. x ∷ []) (ap (λ o. or_name o e) h)
  where
    or_name : Option (List ℕ) → List ℕ → List ℕ
    or_name None e = e
    or_name (Some n) e = n
sole_is (e ∷ f ∷ p) n h = absurd (cc)

pub named : (d p : Path) (n : List ℕ) → name_in d p ≡ Some n → p ≡ d ++ n ∷ []
named d p n h = by (is_strict_prefix d p) refl h
  where
    by : (b : Bool) → is_strict_prefix d p ≡ b → cond b (sole (drop (length d) p)) None ≡ Some n → p ≡ d ++ n ∷ []
    by true under e = front_rest d p (strict_parts d p under).0 ∙ ap (λ r. d ++ r) (sole_is (drop (length d) p) n e)
    by false under e = absurd (cc)

-- ---- the nodes

-- where a file's entry is seen, a file is there
file_seen : (f : Option File) (b : Bool) (x u : Id) → unode_entry_for f b x ≡ Some (UnodeFile u) → (is_some f ≡ true) × (x ≡ u)
file_seen (Some f) b x u e = (refl, by e)
  where
    id_of : Option UnodeEntry → Id
    id_of None = x
    id_of (Some (UnodeFile y)) = y
    id_of (Some (UnodeDir y)) = y

    by : Some (UnodeFile x) ≡ Some (UnodeFile u) → x ≡ u
    by e = ap id_of e
file_seen None true x u e = absurd (cc)
file_seen None false x u e = absurd (cc)

seen_file : (f : Option File) (b : Bool) (x : Id) → is_some f ≡ true → unode_entry_for f b x ≡ Some (UnodeFile x)
seen_file (Some f) b x h = refl
seen_file None b x h = absurd (true≢false (sym h))

module _ (c : Known) (first second : Past) (sound : IsSound (At c first second)) (d : Path) where
  abbrev q : Past
  q = At c first second

  abbrev now : List (Path × File)
  now = files_in (At c first second)

  abbrev node : Path → List ℕ
  node p = unode_bytes (unode_at (At c first second) p)

  abbrev pub both_on : List ℕ → Sides UnodeEntry
  both_on n = (unode_entry_on first d n, unode_entry_on second d n)

  first_is : (n : List ℕ) → unode_entry_on first d n ≡ seen_on first (d ++ n ∷ [])
  first_is n = entry_on first d n sound.resolved.1 sound.apart.1

  second_is : (n : List ℕ) → unode_entry_on second d n ≡ seen_on second (d ++ n ∷ [])
  second_is n = entry_on second d n sound.resolved.2 sound.apart.2

  parents_is : (n : List ℕ) → both_parents (unode_entry_on first d n) (unode_entry_on second d n) ≡ file_parents_of first second (d ++ n ∷ [])
  parents_is n =
      let p = d ++ n ∷ [] in
      let one = ap file_parents (first_is n) ∙ parents_of_entry (file_at (files_in first) p) (is_dir (files_in first) p) (unode_id (unode_at first p)) in
      let two = ap file_parents (second_is n) ∙ parents_of_entry (file_at (files_in second) p) (is_dir (files_in second) p) (unode_id (unode_at second p)) in
      λ i. dedup bytes_eq (one i ++ two i)

  new_node : (n : List ℕ) (f : File) → tree_of q (d ++ n ∷ []) ≡ Some f → is_new_file c first second (d ++ n ∷ []) ≡ true → unode_bytes (set_unode c.id (d ++ n ∷ []) (both_on n) f) ≡ node (d ++ n ∷ [])
  new_node n f there new =
      let p = d ++ n ∷ [] in
      ap (λ ps. unode_bytes (FileUnode ps f.content f.kind (sha256 (text_of p)) c.id)) (parents_is n)
      ∙ ap unode_bytes (sym (file_made c first second p f there new))

  pub set_now : (p : Path) (f : File) → set_at c.changeset p ≡ Some f → tree_of q p ≡ Some f
  set_now p f h = sym (file_at-files_in q p) ∙ set_is_now c.changeset now (files_in first) (files_in second) (merges c first second sound.resolved) p f h

  module _ (made : BTreeMap Path Made) where
    abbrev after_one : (List ℕ → Sides UnodeEntry) → Path × FileChange → List ℕ → Sides UnodeEntry
    after_one o e n = unode_after c.id made d (e ∷ []) o n

    -- at the names that edits set, nothing was changed yet
    abbrev IsAsBefore : Edits → (List ℕ → Sides UnodeEntry) → Type 0
    IsAsBefore es o = (n : List ℕ) → list_any (λ e. eq_by_cmp path_cmp (d ++ n ∷ []) e.0) es ≡ true → o n ≡ both_on n

    still : (e : Path × FileChange) (es : Edits) (o : List ℕ → Sides UnodeEntry) → below_all path_cmp e.0 es ≡ true → IsAsBefore (e ∷ es) o → IsAsBefore es (after_one o e)
    still e es o below was n h =
        let p = d ++ n ∷ [] in
        let more = later_is_more e.0 p es below h in
        (λ i. cond (not_same e.0 p more i) (edited (unode_set c.id p) is_unode_file e.1 (o n)) (cond (not_over e.0 p more i) (renewed (unode_made_in made p) is_unode_file (o n)) (o n)))
        ∙ was n (or_right (eq_by_cmp path_cmp p e.0) (list_any (λ e. eq_by_cmp path_cmp p e.0) es) h)

    set_is : (n : List ℕ) (f : File) (copied : Option CopySource) → find_key path_cmp (d ++ n ∷ []) c.changeset.changes ≡ Some (Set f copied) → unode_bytes (set_unode c.id (d ++ n ∷ []) (both_on n) f) ≡ node (d ++ n ∷ [])
    set_is n f copied e =
        let p = d ++ n ∷ [] in
        let sets : set_at c.changeset p ≡ Some f = ap (option_and_then file_of) e in
        new_node n f (set_now p f sets) (or_left (is_some (set_at c.changeset p)) (files_differ first second p) (ap is_some sets))

    pub file_nodes : (es : Edits) (o : List ℕ → Sides UnodeEntry) → is_sorted path_cmp es ≡ true → AllByRecursion (λ e. find_key path_cmp e.0 c.changeset.changes ≡ Some e.1) es → IsAsBefore es o
        → set_nodes c.id made d es o ≡ map node (files_set_in d es)
    file_nodes [] o rise found was = refl
    file_nodes ((p, Delete) ∷ es) o rise found was =
        let parts = and_parts (below_all path_cmp p es) (is_sorted path_cmp es) rise in
        file_nodes es (after_one o (p, Delete)) parts.1 found.1 (still (p, Delete) es o parts.0 was)
    file_nodes ((p, Set f copied) ∷ es) o rise found was =
        let parts = and_parts (below_all path_cmp p es) (is_sorted path_cmp es) rise in
        by (file_nodes es (after_one o (p, Set f copied)) parts.1 found.1 (still (p, Set f copied) es o parts.0 was)) (name_in d p) refl
      where
        here : (n : List ℕ) → p ≡ d ++ n ∷ [] → unode_bytes (set_unode c.id p (o n) f) ≡ node p
        here n is =
            ap (λ x. unode_bytes (set_unode c.id p x f)) (was n (or_left (eq_by_cmp path_cmp (d ++ n ∷ []) p) (list_any (λ e. eq_by_cmp path_cmp (d ++ n ∷ []) e.0) es) (ap (eq_by_cmp path_cmp (d ++ n ∷ [])) is ∙ tied_self (d ++ n ∷ []))))
            ∙ ap (λ q. unode_bytes (set_unode c.id q (both_on n) f)) is
            ∙ set_is n f copied (ap (λ q. find_key path_cmp q c.changeset.changes) (sym is) ∙ found.0)
            ∙ ap node (sym is)

        by : set_nodes c.id made d es (after_one o (p, Set f copied)) ≡ map node (files_set_in d es) → (x : Option (List ℕ)) → name_in d p ≡ x → nodes_at (own_unode c.id) p f o x ++ set_nodes c.id made d es (after_one o (p, Set f copied)) ≡ map node (cond (is_some x) (p ∷ files_set_in d es) (files_set_in d es))
        by rest None e = rest
        by rest (Some n) e = λ i. here n (named d p n e) i ∷ rest i

    -- ---- files of which both parents have different unodes

    abbrev pub left_in : List ℕ → Sides UnodeEntry
    left_in n = unode_after c.id made d c.changeset.changes both_on n

    abbrev pub own_at : List ℕ → UnodeEntry → UnodeEntry → List (List ℕ)
    own_at n = joined_unode c.id (d ++ n ∷ []) (file_here c first second sound d n)

    -- such a file was there at both parents, with these unodes
    were_files : (n : List ℕ) (u v : Id) → bytes_eq u v ≡ false → (left_in n).0 ≡ Some (UnodeFile u) → (left_in n).1 ≡ Some (UnodeFile v) → ((unode_entry_on first d n ≡ Some (UnodeFile u)) × (unode_entry_on second d n ≡ Some (UnodeFile v))) × (files_differ first second (d ++ n ∷ []) ≡ true)
    were_files n u v other one two =
        let p = d ++ n ∷ [] in
        let both = left_files c.id p u v other (unode_made_in made p) c.changeset.changes (both_on n) (rise c first second sound) (one, two) in
        let a = file_seen (file_at (files_in first) p) (is_dir (files_in first) p) (unode_id (unode_at first p)) u (sym (first_is n) ∙ both.0) in
        let b = file_seen (file_at (files_in second) p) (is_dir (files_in second) p) (unode_id (unode_at second p)) v (sym (second_is n) ∙ both.1) in
        let apart = (λ i. bytes_eq (a.1 i) (b.1 i)) ∙ other in
        (both, λ i. a.0 i && (b.0 i && not (apart i)))

    pub joined_right : (P : List ℕ → Type 0) → ((p : Path) (f : File) → tree_of q p ≡ Some f → P (node p)) → (n : List ℕ) (a b : UnodeEntry) → (left_in n).0 ≡ Some a → (left_in n).1 ≡ Some b → AllByRecursion P (own_at n a b)
    joined_right P each n (UnodeFile u) (UnodeDir v) one two = tt
    joined_right P each n (UnodeDir u) (UnodeFile v) one two = tt
    joined_right P each n (UnodeDir u) (UnodeDir v) one two = tt
    joined_right P each n (UnodeFile u) (UnodeFile v) one two = by (bytes_eq u v) refl
      where
        p : Path
        p = d ++ n ∷ []

        both : Sides UnodeEntry
        both = (Some (UnodeFile u), Some (UnodeFile v))

        there : bytes_eq u v ≡ false → (f : File) → file_here c first second sound d n ≡ Some f → (t : Bool) → AllByRecursion P (cond t (own_unode c.id (d ++ n ∷ []) both f) [])
        there other f e false = tt
        there other f e true =
            let were = were_files n u v other one two in
            let at = sym (file_at-files_in q (d ++ n ∷ [])) ∙ file_by_entry now d n ∙ e in
            let same = (λ i. unode_bytes (set_unode c.id (d ++ n ∷ []) (sym were.0.0 i, sym were.0.1 i) f)) ∙ new_node n f at (or_right (is_some (set_at c.changeset (d ++ n ∷ []))) (files_differ first second (d ++ n ∷ [])) were.1) in
            (subst P (sym same) (each (d ++ n ∷ []) f at), tt)

        now_by : bytes_eq u v ≡ false → (o : Option File) → file_here c first second sound d n ≡ o → AllByRecursion P (own_now c.id (d ++ n ∷ []) o both)
        now_by other None e = tt
        now_by other (Some f) e = there other f e (is_path (d ++ n ∷ []))

        by : (b : Bool) → bytes_eq u v ≡ b → AllByRecursion P (cond b [] (own_now c.id (d ++ n ∷ []) (file_here c first second sound d n) both))
        by true e = tt
        by false e = now_by e (file_here c first second sound d n) refl

    -- with one parent alone no name is joined to anything new
    pub none_new : second ≡ Begin → (n : List ℕ) (a b : UnodeEntry) → (left_in n).0 ≡ Some a → (left_in n).1 ≡ Some b → own_at n a b ≡ []
    none_new none n (UnodeFile u) (UnodeDir v) one two = refl
    none_new none n (UnodeDir u) (UnodeFile v) one two = refl
    none_new none n (UnodeDir u) (UnodeDir v) one two = refl
    none_new none n (UnodeFile u) (UnodeFile v) one two = by (bytes_eq u v) refl
      where
        both : Sides UnodeEntry
        both = (Some (UnodeFile u), Some (UnodeFile v))

        by : (b : Bool) → bytes_eq u v ≡ b → cond b [] (own_now c.id (d ++ n ∷ []) (file_here c first second sound d n) both) ≡ []
        by true e = refl
        by false e = absurd (let were = (were_files n u v e one two).0.1 in no_entry (ap (λ past. unode_entry_on past d n) (sym none) ∙ were))
          where
            no_entry : None ≡ Some (UnodeFile v) → ⊥
            no_entry e = cc

    -- a file that isn't set and has different unodes is left by all edits
    module _ (under : IsMadeUnder c first second made d) (n : List ℕ) (f : File) (there : tree_of q (d ++ n ∷ []) ≡ Some f) (unset : set_at c.changeset (d ++ n ∷ []) ≡ None) (differ : files_differ first second (d ++ n ∷ []) ≡ true) where
      abbrev p : Path
      p = d ++ n ∷ []

      abbrev u : Id
      u = unode_id (unode_at first p)

      abbrev v : Id
      v = unode_id (unode_at second p)

      parts : (is_file (files_in first) p ≡ true) × ((is_file (files_in second) p && not (bytes_eq u v)) ≡ true)
      parts = and_parts (is_file (files_in first) p) (is_file (files_in second) p && not (bytes_eq u v)) differ

      others : (is_file (files_in second) p ≡ true) × (not (bytes_eq u v) ≡ true)
      others = and_parts (is_file (files_in second) p) (not (bytes_eq u v)) parts.1

      other : bytes_eq u v ≡ false
      other = by (bytes_eq u v) others.1
        where
          by : (b : Bool) → not b ≡ true → b ≡ false
          by true h = absurd (true≢false (sym h))
          by false h = refl

      had : both_on n ≡ (Some (UnodeFile u), Some (UnodeFile v))
      had = λ i. (
        (first_is n ∙ seen_file (file_at (files_in first) p) (is_dir (files_in first) p) u parts.0) i,
        (second_is n ∙ seen_file (file_at (files_in second) p) (is_dir (files_in second) p) v others.0) i,
      )

      undecided : decides c.changeset p ≡ false
      undecided = false_from_ne_true (decides c.changeset p) (λ h. none_some f (sym unset ∙ sym (ap (λ b. cond b (set_at c.changeset p) (option_or (tree_of first p) (tree_of second p))) h) ∙ there))

      no_dir : is_dir now p ≡ false
      no_dir = false_from_ne_true (is_dir now p) (λ h. none_some f (sym (no_file_at q p sound.resolved h) ∙ there))

      unedited : (change : Option FileChange) → find_key path_cmp p c.changeset.changes ≡ change → change ≡ None
      unedited None e = refl
      unedited (Some (Set g copied)) e = none_some g (sym unset ∙ ap (option_and_then file_of) e)
      unedited (Some Delete) e = absurd (true≢false (sym (deletes p c.changeset.changes e) ∙ undecided))

      nothing_made : list_any (λ e. is_strict_prefix p e.0) c.changeset.changes ≡ true → unode_made_in made p ≡ None
      nothing_made h =
          (under n (or_left (list_any (λ e. is_strict_prefix p e.0) c.changeset.changes) _ h)).1
          ∙ ap (λ b. cond b (Some (UnodeDir (unode_id (unode_at q p)))) None) no_dir

      left : left_in n ≡ (Some (UnodeFile u), Some (UnodeFile v))
      left =
          folded (unode_set c.id p) (unode_made_in made p) is_unode_file p c.changeset.changes (both_on n) (rise c first second sound)
          ∙ ap (λ x. entries_by (unode_set c.id p) (unode_made_in made p) is_unode_file x (list_any (λ e. is_strict_prefix p e.0) c.changeset.changes) (both_on n)) (unedited (find_key path_cmp p c.changeset.changes) refl)
          ∙ by (list_any (λ e. is_strict_prefix p e.0) c.changeset.changes) refl
        where
          by : (b : Bool) → list_any (λ e. is_strict_prefix p e.0) c.changeset.changes ≡ b → entries_by (unode_set c.id p) (unode_made_in made p) is_unode_file None b (both_on n) ≡ (Some (UnodeFile u), Some (UnodeFile v))
          by true h = (λ i. renewed (nothing_made h i) is_unode_file (had i))
          by false h = had

      here : file_here c first second sound d n ≡ Some f
      here = sym (file_by_entry now d n) ∙ file_at-files_in q p ∙ there

      pub new_joined : ((left_in n).0 ≡ Some (UnodeFile u)) × ((left_in n).1 ≡ Some (UnodeFile v)) × Has (own_at n (UnodeFile u) (UnodeFile v)) (node p)
      new_joined =
          let is : own_at n (UnodeFile u) (UnodeFile v) ≡ node p ∷ [] =
          ap (λ b. cond b [] (own_now c.id p (file_here c first second sound d n) (Some (UnodeFile u), Some (UnodeFile v)))) other
          ∙ ap (λ o. own_now c.id p o (Some (UnodeFile u), Some (UnodeFile v))) here
          ∙ ap (λ b. cond b (own_unode c.id p (Some (UnodeFile u), Some (UnodeFile v)) f) []) (file_path c first second sound p f there)
          ∙ ap (λ s. own_unode c.id p s f) (sym had)
          ∙ ap (λ x. x ∷ []) (new_node n f there (or_right (is_some (set_at c.changeset p)) (files_differ first second p) differ)) in
          (ap (λ s. s.0) left, ap (λ s. s.1) left, subst (λ (ns : List (List ℕ)). Has ns (node p)) (sym is) (inl refl))
