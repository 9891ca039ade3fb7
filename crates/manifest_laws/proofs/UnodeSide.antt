-- The entry of a name in the unode of a directory after a changeset, from the entry before.
use Rattle.std.proofs.Common.{◌≡◌, ℕ, Bool, true, false, cond, not, ◌&&◌, ◌||◌, List, [], ◌∷◌, ◌++◌, reverse, refl, sym, ap, ◌∙◌}
use Rattle.std.specs.Prelude.{Option, Some, None, is_some}
use Rattle.std.specs.List.{list_any}
use Rattle.std.specs.Option.{option_or, option_and_then}
use Rattle.std.specs.FinMap.{is_sorted, find as find_key}
use Rattle.std.proofs.lemmas.Bool.{false_from_ne_true}
use Rattle.sha2.specs.Sha256.{sha256}
use Rattle.byte_fields.specs.Bytes.{Id}
use Rattle.changeset_model.specs.Path.{Path, path_cmp, text_of, is_strict_prefix}
use Rattle.changeset_model.specs.Changeset.{File, CopySource, FileChange, Set, Delete, Changeset, file_of, set_at}
use Rattle.history_model.specs.History.{Known}
use Rattle.history_model.specs.Chain.{changesets}
use Rattle.history_model.specs.Tree.{decides, tree, files, is_dir}
use Rattle.manifest_model.specs.Unode.{UnodeEntry, UnodeFile, UnodeDir, FileUnode, is_renewed, unode, unode_id}
use Rattle.manifest_model.proofs.Links.{file_at-files, unode_kept}
use Rattle.manifest_laws.specs.Changes.{AreClear, is_reached, is_covered, tree_at, files_in}
use Rattle.manifest_laws.specs.Entries.{unode_entry_at, unode_entry_for}
use Rattle.manifest_laws.proofs.Changes.{one_more, none_decides, prefix_itself}
use Rattle.manifest_laws.proofs.Lists.{none_some, true_and_false}
use Rattle.manifest_laws.proofs.Flat.{file_under, dir_from, strict_under}
use Rattle.manifest_laws.proofs.Unodes.{chain_more, clear_chain, not_root, kept_is, unreached_kept, since_set}
use Rattle.history_model.proofs.Landings.{prefix_self}
use Rattle.manifest_laws.proofs.Steps.{there_after, set_there}
use Rattle.manifest_laws.proofs.Entries.{unode_entry_is}
use Rattle.manifest_laws.specs.EntryEdits.{without_file, without_dir, renewed, edited_if, entry_by, is_unode_file, file_parents, unode_set, unode_made, unode_entry_after, unode_entry_on}
use Rattle.manifest_laws.proofs.Folded.{folded}
use Rattle.manifest_laws.proofs.Seen.{one_more as under_dir}
use Rattle.manifest_laws.proofs.Reach.{Edits, sets_under, undecided, unreached, uncovered as uncovered_there, uncovered_deleted, set_found, deletes}
use Rattle.manifest_laws.proofs.FsSide.{not_both}
use Rattle.byte_fields.proofs.Booleans.{and_true}

-- ---- entries

pub parents_of_entry : (o : Option File) (b : Bool) (x : Id) → file_parents (unode_entry_for o b x) ≡ cond (is_some o) (x ∷ []) []
parents_of_entry (Some f) b x = refl
parents_of_entry None true x = refl
parents_of_entry None false x = refl

-- where a directory isn't there, nothing is in it
nothing_in : (cs : List Changeset) (d : Path) (n : List ℕ) → is_dir (files cs) d ≡ false → (o : Option File) → tree cs (d ++ n ∷ []) ≡ o → o ≡ None
nothing_in cs d n h None e = refl
nothing_in cs d n h (Some f) e = true_and_false (is_dir (files cs) d) (dir_from cs d (d ++ n ∷ []) f (under_dir d n) e) h

no_dir_in : (cs : List Changeset) (d : Path) (n : List ℕ) → is_dir (files cs) d ≡ false → is_dir (files cs) (d ++ n ∷ []) ≡ false
no_dir_in cs d n h = false_from_ne_true (is_dir (files cs) (d ++ n ∷ [])) (λ dir. (
    let found = file_under cs (d ++ n ∷ []) (not_root d n) dir in
    true_and_false (is_dir (files cs) d) (dir_from cs d found.0 found.1 (strict_under d (d ++ n ∷ []) found.0 (prefix_itself d (n ∷ [])) found.2) found.3) h))

pub entry_on : (ks : List Known) (d : Path) (n : List ℕ) → AreClear (changesets ks) → (is_dir (files_in ks) d ≡ true → tree_at ks d ≡ None)
    → unode_entry_on ks d n ≡ unode_entry_for (tree_at ks (d ++ n ∷ [])) (is_dir (files_in ks) (d ++ n ∷ [])) (unode_id (unode ks (d ++ n ∷ [])))
entry_on [] d n clear was = λ i. unode_entry_for None (sym (not_root d n) i || false) (unode_id (unode [] (d ++ n ∷ [])))
entry_on (k ∷ ks) d n clear was = by (is_dir (files_in (k ∷ ks)) d) refl
  where
    by : (b : Bool) → is_dir (files_in (k ∷ ks)) d ≡ b → cond b (unode_entry_at (unode (k ∷ ks) d) n) None ≡ unode_entry_for (tree_at (k ∷ ks) (d ++ n ∷ [])) (is_dir (files_in (k ∷ ks)) (d ++ n ∷ [])) (unode_id (unode (k ∷ ks) (d ++ n ∷ [])))
    by true h = unode_entry_is (k ∷ ks) d n clear h (was h)
    by false h = λ i. unode_entry_for (sym (nothing_in (changesets (reverse (k ∷ ks))) d n h (tree_at (k ∷ ks) (d ++ n ∷ [])) refl) i) (sym (no_dir_in (changesets (reverse (k ∷ ks))) d n h) i) (unode_id (unode (k ∷ ks) (d ++ n ∷ [])))

module _ (c : Known) (older : List Known) (d : Path) (n : List ℕ) (clear : AreClear (changesets (c ∷ older))) (rise : is_sorted path_cmp c.changeset.changes ≡ true) (out : is_covered c.changeset d ≡ false) where
  abbrev at : Path
  at = d ++ n ∷ []

  abbrev es : Edits
  es = c.changeset.changes

  abbrev before : List Changeset
  before = changesets (reverse older)

  abbrev file_then : Option File
  file_then = tree_at older at

  abbrev file_now : Option File
  file_now = tree_at (c ∷ older) at

  abbrev dir_then : Bool
  dir_then = is_dir (files_in older) at

  abbrev dir_now : Bool
  dir_now = is_dir (files_in (c ∷ older)) at

  abbrev id_then : Id
  id_then = unode_id (unode older at)

  abbrev id_now : Id
  id_now = unode_id (unode (c ∷ older) at)

  abbrev entry_then : Option UnodeEntry
  entry_then = unode_entry_for file_then dir_then id_then

  abbrev entry_now : Option UnodeEntry
  entry_now = unode_entry_for file_now dir_now id_now

  abbrev IsUnder : Bool → Type 0
  IsUnder b = list_any (λ e. is_strict_prefix at e.0) es ≡ b

  file_after : file_now ≡ cond (decides c.changeset at) (set_at c.changeset at) file_then
  file_after = ap (λ cs. tree cs at) (chain_more c older) ∙ one_more before c.changeset at

  decided_none : decides c.changeset at ≡ true → set_at c.changeset at ≡ None → file_now ≡ None
  decided_none decided none = file_after ∙ ap (λ b. cond b (set_at c.changeset at) file_then) decided ∙ none

  undecided_same : decides c.changeset at ≡ false → file_now ≡ file_then
  undecided_same h = file_after ∙ ap (λ b. cond b (set_at c.changeset at) file_then) h

  alone_now : dir_now ≡ true → file_now ≡ None
  alone_now h = not_both (changesets (reverse (c ∷ older))) (clear_chain (c ∷ older) clear) at (not_root d n) h

  alone_then : dir_then ≡ true → file_then ≡ None
  alone_then h = not_both before (clear_chain older clear.1) at (not_root d n) h

  unrenewed : IsUnder false → is_renewed c.changeset at ≡ false
  unrenewed h = λ i. not_root d n i || h i

  -- ---- a file is set

  set_case : (made : Option UnodeEntry) (f : File) (copied : Option CopySource) → find_key path_cmp at es ≡ Some (Set f copied) → (u : Bool) → (u ≡ true → made ≡ unode_made (c ∷ older) at)
      → entry_by (unode_set c.id at) made is_unode_file (Some (Set f copied)) u entry_then ≡ entry_now
  set_case made f copied e u right = by u right
    where
      sets : set_at c.changeset at ≡ Some f
      sets = ap (option_and_then file_of) e

      there : file_now ≡ Some f
      there = ap (λ cs. tree cs at) (chain_more c older) ∙ set_there before c.changeset at f sets

      no_dir : dir_now ≡ false
      no_dir = false_from_ne_true dir_now (λ h. none_some f (sym (alone_now h) ∙ there))

      same : Some (unode_set c.id at entry_then f) ≡ entry_now
      same =
          ap (λ ps. Some (UnodeFile (unode_id (FileUnode ps f.content f.kind (sha256 (text_of at)) c.id)))) (parents_of_entry file_then dir_then id_then)
          ∙ ap (λ node. Some (UnodeFile (unode_id node))) (sym (since_set [] c older at f f there tt sets))
          ∙ (λ i. unode_entry_for (sym there i) dir_now id_now)

      by : (u : Bool) → (u ≡ true → made ≡ unode_made (c ∷ older) at) → entry_by (unode_set c.id at) made is_unode_file (Some (Set f copied)) u entry_then ≡ entry_now
      by false right = same
      by true right = ap (λ m. option_or m (Some (unode_set c.id at entry_then f))) (right refl ∙ ap (λ b. cond b (Some (UnodeDir id_now)) None) no_dir) ∙ same

  -- ---- an edit lies under it

  no_file_no_dir : (made o : Option UnodeEntry) → without_dir (unode_set c.id at) made is_unode_file (without_file (unode_set c.id at) made is_unode_file o) ≡ None
  no_file_no_dir made None = refl
  no_file_no_dir made (Some (UnodeFile x)) = refl
  no_file_no_dir made (Some (UnodeDir x)) = refl

  -- what is left where no directory is: the file, with the id that it had
  file_left : (made : Option UnodeEntry) (o : Option File) (b : Bool) (x y : Id) → ((f : File) → o ≡ Some f → x ≡ y) → without_dir (unode_set c.id at) made is_unode_file (unode_entry_for o b x) ≡ unode_entry_for o false y
  file_left made (Some f) b x y same = ap (λ z. Some (UnodeFile z)) (same f refl)
  file_left made None true x y same = refl
  file_left made None false x y same = refl

  unset_under : dir_now ≡ false → list_any (sets_under at) es ≡ false
  unset_under none = false_from_ne_true (list_any (sets_under at) es) (λ h. (
      let found = set_found at es rise h in
      true_and_false dir_now (dir_from (changesets (reverse (c ∷ older))) at found.0 found.1 found.2 (ap (λ cs. tree cs found.0) (chain_more c older) ∙ set_there before c.changeset found.0 found.1 found.3)) none))

  same_file : set_at c.changeset at ≡ None → file_now ≡ file_then → (f : File) → file_then ≡ Some f → id_then ≡ id_now
  same_file unset same f e = ap unode_id (sym (unode_kept c older at f (same ∙ e) unset))

  under_by : (made : Option UnodeEntry) → made ≡ unode_made (c ∷ older) at → (change : Option FileChange) → find_key path_cmp at es ≡ change → option_and_then file_of change ≡ None → (b : Bool) → dir_now ≡ b
      → renewed (unode_set c.id at) made is_unode_file (edited_if (unode_set c.id at) made is_unode_file change entry_then) ≡ entry_now
  under_by made right change e none true dir =
      ap (λ m. option_or m (without_dir (unode_set c.id at) made is_unode_file (edited_if (unode_set c.id at) made is_unode_file change entry_then))) (right ∙ ap (λ b. cond b (Some (UnodeDir id_now)) None) dir)
      ∙ (λ i. unode_entry_for (sym (alone_now dir) i) (sym dir i) id_now)
  under_by made right None e none false dir =
      let same : file_now ≡ file_then = undecided_same (undecided d n es e out (unset_under dir)) in
      ap (λ m. option_or m (without_dir (unode_set c.id at) made is_unode_file entry_then)) (right ∙ ap (λ b. cond b (Some (UnodeDir id_now)) None) dir)
      ∙ file_left made file_then dir_then id_then id_now (same_file (ap (option_and_then file_of) e) same)
      ∙ (λ i. unode_entry_for (sym same i) (sym dir i) id_now)
  under_by made right (Some Delete) e none false dir =
      ap (λ m. option_or m (without_dir (unode_set c.id at) made is_unode_file (without_file (unode_set c.id at) made is_unode_file entry_then))) (right ∙ ap (λ b. cond b (Some (UnodeDir id_now)) None) dir)
      ∙ no_file_no_dir made entry_then
      ∙ (λ i. unode_entry_for (sym (decided_none (deletes at es e) (ap (option_and_then file_of) e)) i) (sym dir i) id_now)
  under_by made right (Some (Set f copied)) e none false dir = absurd (cc)

  -- ---- nothing lies under it

  dir_left : (made : Option UnodeEntry) (o : Option File) (b : Bool) (x y : Id) → (b ≡ true → o ≡ None) → (b ≡ true → x ≡ y) → without_file (unode_set c.id at) made is_unode_file (unode_entry_for o b x) ≡ unode_entry_for None b y
  dir_left made (Some f) true x y alone same = none_some f (sym (alone refl))
  dir_left made (Some f) false x y alone same = refl
  dir_left made None true x y alone same = ap (λ z. Some (UnodeDir z)) (same refl)
  dir_left made None false x y alone same = refl

  deleted : (made : Option UnodeEntry) → find_key path_cmp at es ≡ Some Delete → IsUnder false → without_file (unode_set c.id at) made is_unode_file entry_then ≡ entry_now
  deleted made e under =
      dir_left made file_then dir_then id_then id_now alone_then (λ h. ap unode_id (sym (kept_is c older at clear (unrenewed under) (stays ∙ h))))
      ∙ (λ i. unode_entry_for (sym (decided_none (deletes at es e) (ap (option_and_then file_of) e)) i) (sym stays i) id_now)
    where
      stays : dir_now ≡ dir_then
      stays =
          ap (λ cs. is_dir (files cs) at) (chain_more c older)
          ∙ there_after before c.changeset at (unrenewed under)
          ∙ ap (λ b. dir_then && not b) (uncovered_deleted d n es rise e out)
          ∙ and_true dir_then

  kept_by : (o : Option File) (b : Bool) (x y : Id) → ((is_some o || b) ≡ true → x ≡ y) → unode_entry_for o b x ≡ unode_entry_for o b y
  kept_by (Some f) b x y same = ap (λ z. Some (UnodeFile z)) (same refl)
  kept_by None true x y same = ap (λ z. Some (UnodeDir z)) (same refl)
  kept_by None false x y same = refl

  kept : find_key path_cmp at es ≡ None → IsUnder false → entry_then ≡ entry_now
  kept e under =
      (λ i. unode_entry_for (sym same i) (sym stays i) id_then)
      ∙ kept_by file_now dir_now id_then id_now (λ there. ap unode_id (sym (unreached_kept c older d n clear apart (ap (λ o. is_some o || dir_now) (file_at-files (changesets (reverse (c ∷ older))) at) ∙ there))))
    where
      apart : is_reached c.changeset at ≡ false
      apart = unreached d n es e out under

      same : file_now ≡ file_then
      same = undecided_same (none_decides at at (prefix_self at) es apart)

      uncovered : is_covered c.changeset at ≡ false
      uncovered = uncovered_there d n es e out

      stays : dir_now ≡ dir_then
      stays =
          ap (λ cs. is_dir (files cs) at) (chain_more c older)
          ∙ there_after before c.changeset at (unrenewed under)
          ∙ ap (λ b. dir_then && not b) uncovered
          ∙ and_true dir_then

  -- ---- all together

  told : (made : Option UnodeEntry) (change : Option FileChange) → find_key path_cmp at es ≡ change → (u : Bool) → IsUnder u → (u ≡ true → made ≡ unode_made (c ∷ older) at)
      → entry_by (unode_set c.id at) made is_unode_file change u entry_then ≡ entry_now
  told made (Some (Set f copied)) e u under right = set_case made f copied e u right
  told made None e true under right = under_by made (right refl) None e refl dir_now refl
  told made (Some Delete) e true under right = under_by made (right refl) (Some Delete) e refl dir_now refl
  told made None e false under right = kept e under
  told made (Some Delete) e false under right = deleted made e under

  pub unode_after : (made : Option UnodeEntry) → is_dir (files_in (c ∷ older)) d ≡ true → tree_at (c ∷ older) d ≡ None → (is_dir (files_in older) d ≡ true → tree_at older d ≡ None)
      → (list_any (λ e. is_strict_prefix at e.0) es ≡ true → made ≡ unode_made (c ∷ older) at) → unode_entry_after c.id made at es (unode_entry_on older d n) ≡ unode_entry_at (unode (c ∷ older) d) n
  unode_after made dir none was right =
      folded (unode_set c.id at) made is_unode_file at es (unode_entry_on older d n) rise
      ∙ ap (entry_by (unode_set c.id at) made is_unode_file (find_key path_cmp at es) (list_any (λ e. is_strict_prefix at e.0) es)) (entry_on older d n clear.1 was)
      ∙ told made (find_key path_cmp at es) refl (list_any (λ e. is_strict_prefix at e.0) es) refl right
      ∙ sym (unode_entry_is (c ∷ older) d n clear dir none)
