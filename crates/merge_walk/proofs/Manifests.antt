-- A tree's fsnodes list it.
use Rattle.std.proofs.Common.{◌≡◌, Bool, true, false, List, [], ◌∷◌, ◌++◌, length, refl, sym, ap, ◌∙◌, append_assoc, arith}
use Rattle.std.specs.Prelude.{Option, None, Some, is_some, ◌==◌}
use mathlib.Core.Bool.{true≢false}
use Rattle.std.specs.List.{AllByRecursion, list_any}
use Rattle.std.specs.FinMap.{is_sorted, find as find_key}
use Rattle.std.proofs.lemmas.Bool.{or_right}
use Rattle.std.proofs.lemmas.List.{append-nil}
use Rattle.byte_fields.specs.Bytes.{Id}
use Rattle.byte_fields.proofs.Lists.{each_of}
use Rattle.changeset_model.specs.Path.{Path, path_cmp, is_path, is_strict_prefix}
use Rattle.changeset_model.specs.Changeset.{File}
use Rattle.history_model.specs.Tree.{file_at, is_dir}
use Rattle.manifest_model.specs.Fsnode.{Summary, FsEntry, FsFile, FsDir, fs_dir, fsnode, fsnode_id, summary_of}
use Rattle.manifest_laws.specs.Entries.{fs_entry_at, file_of_entry}
use Rattle.manifest_laws.specs.Summaries.{IsFlat}
use Rattle.manifest_laws.proofs.Names.{Name, name_cmp}
use Rattle.manifest_laws.proofs.Flat.{any_under}
use Rattle.manifest_laws.proofs.Fsnodes.{entry_of_file, entry_of_dir, entry_of_nothing}
use Rattle.tree_fold.proofs.Texts.{strict-append}
use Rattle.merge_tree.proofs.Found.{there_of}
use Rattle.merge_walk.specs.Walk.{Listing, entry_from, entry_at, IsTreeAt}
use Rattle.merge_walk.proofs.Entries.{from_nothing}
use Rattle.std.specs.FinMap as map
use Rattle.std.specs.Option.{option_map_or}
use Rattle.manifest_model.specs.Fsnode.{fsnode_bytes, is_fsnode}
use Rattle.manifest_model.proofs.Nodes.{fsnode_is_read}
use Rattle.node_table.specs.Table.{Nodes}
use Rattle.merge_walk.specs.Table.{entries_spelled, entries_under}
use Rattle.merge_walk.proofs.Tables.{all_kept}

file_in_any : (listed : Listing) (x : Id) (s t : Summary) (p : Path) → file_of_entry (entry_from listed (Some (FsDir x s)) p) ≡ file_of_entry (entry_from listed (Some (FsDir x t)) p)
file_in_any listed x s t [] = refl
file_in_any listed x s t (n ∷ p) = refl

module _ (listed : Listing) (files : List (Path × File)) (flat : IsFlat files) (read : (d : Path) → is_dir files d ≡ true → listed (fsnode_id (fsnode files d)) ≡ (fsnode files d).entries) where
  name_path : (d : Path) (n : Name) (p : Path) → (d ++ n ∷ []) ++ p ≡ d ++ n ∷ p
  name_path d n p = append_assoc d (n ∷ []) p

  at_file : (d : Path) (n : Name) (p : Path) (f : File) → file_at files (d ++ n ∷ []) ≡ Some f → file_at files (d ++ n ∷ p) ≡ file_of_entry (entry_from listed (Some (FsFile f)) p)
  at_file d n [] f e = e
  at_file d n (m ∷ p) f e =
      flat (d ++ n ∷ []) (d ++ n ∷ m ∷ p) f (ap (is_strict_prefix (d ++ n ∷ [])) (sym (name_path d n (m ∷ p))) ∙ strict-append (d ++ n ∷ []) (m ∷ p) (omega arith)) e
      ∙ ap file_of_entry (sym (from_nothing listed p))

  at_nothing : (d : Path) (n : Name) (p : Path) → file_at files (d ++ n ∷ []) ≡ None → is_dir files (d ++ n ∷ []) ≡ false → file_at files (d ++ n ∷ p) ≡ None
  at_nothing d n [] none empty = none
  at_nothing d n (m ∷ p) none empty = by (file_at files (d ++ n ∷ m ∷ p)) refl
    where
      by : (o : Option File) → file_at files (d ++ n ∷ m ∷ p) ≡ o → file_at files (d ++ n ∷ m ∷ p) ≡ None
      by None e = e
      by (Some f) e =
          let under = any_under files (d ++ n ∷ []) (d ++ n ∷ m ∷ p) (ap (is_strict_prefix (d ++ n ∷ [])) (sym (name_path d n (m ∷ p))) ∙ strict-append (d ++ n ∷ []) (m ∷ p) (omega arith)) (ap is_some e) in
          absurd (true≢false (sym (or_right (length (d ++ n ∷ []) == 0) (list_any (λ f. is_strict_prefix (d ++ n ∷ []) f.0) files) under) ∙ empty))

  from_dir : (p d : Path) → is_dir files d ≡ true → file_at files d ≡ None → file_at files (d ++ p) ≡ file_of_entry (entry_at listed (fsnode_id (fsnode files d)) p)
  from_dir [] d dir none = ap (file_at files) (append-nil d) ∙ none
  from_dir (n ∷ p) d dir none = by (λ dir none. from_dir p (d ++ n ∷ []) dir none) (file_at files (d ++ n ∷ [])) refl (is_dir files (d ++ n ∷ [])) refl
    where
      there : (o : Option FsEntry) → fs_entry_at (fsnode files d) n ≡ o → file_of_entry (entry_from listed o p) ≡ file_of_entry (entry_from listed (find_key name_cmp n (listed (fsnode_id (fsnode files d)))) p)
      there o e = ap (λ x. file_of_entry (entry_from listed x p)) (sym (ap (find_key name_cmp n) (read d dir) ∙ e))

      by : (is_dir files (d ++ n ∷ []) ≡ true → file_at files (d ++ n ∷ []) ≡ None → file_at files ((d ++ n ∷ []) ++ p) ≡ file_of_entry (entry_at listed (fsnode_id (fsnode files (d ++ n ∷ []))) p)) → (o : Option File) → file_at files (d ++ n ∷ []) ≡ o → (b : Bool) → is_dir files (d ++ n ∷ []) ≡ b → file_at files (d ++ n ∷ p) ≡ file_of_entry (entry_at listed (fsnode_id (fsnode files d)) (n ∷ p))
      by deeper (Some f) e b h = at_file d n p f e ∙ there (Some (FsFile f)) (entry_of_file files d n f e)
      by deeper None e true h =
          ap (file_at files) (sym (name_path d n p)) ∙ deeper h e
          ∙ file_in_any listed (fsnode_id (fsnode files (d ++ n ∷ []))) (summary_of []) (fsnode files (d ++ n ∷ [])).summary p
          ∙ there (Some (fs_dir (fsnode files (d ++ n ∷ [])))) (entry_of_dir files d n e h)
      by deeper None e false h = at_nothing d n p e h ∙ ap file_of_entry (sym (from_nothing listed p)) ∙ there None (entry_of_nothing files d n e h)

no_root : (files : List (Path × File)) → AllByRecursion (λ f. is_path f.0 ≡ true) files → file_at files [] ≡ None
no_root files ruled = by (file_at files []) refl
  where
    by : (o : Option File) → file_at files [] ≡ o → file_at files [] ≡ None
    by None e = e
    by (Some f) e = absurd (true≢false (sym (each_of (λ f. is_path f.0 ≡ true) files ([], f) ruled (there_of files [] f e))))

pub tree_of_fsnodes : (listed : Listing) (files : List (Path × File)) → is_sorted path_cmp files ≡ true → AllByRecursion (λ f. is_path f.0 ≡ true) files → IsFlat files → ((d : Path) → is_dir files d ≡ true → listed (fsnode_id (fsnode files d)) ≡ (fsnode files d).entries) → IsTreeAt listed (fsnode_id (fsnode files [])) files
tree_of_fsnodes listed files rising ruled flat read = record {
  rising = rising;
  ruled = ruled;
  same = λ p. from_dir listed files flat read p [] refl (no_root files ruled);
}

pub tree_in_table : (nodes : Nodes) (files : List (Path × File)) → is_sorted path_cmp files ≡ true → AllByRecursion (λ f. is_path f.0 ≡ true) files → IsFlat files → ((d : Path) → is_dir files d ≡ true → (is_fsnode (fsnode files d) ≡ true) × (map.get nodes (fsnode_id (fsnode files d)) ≡ Some (fsnode_bytes (fsnode files d)))) → IsTreeAt (entries_under nodes) (fsnode_id (fsnode files [])) files
tree_in_table nodes files rising ruled flat has =
    tree_of_fsnodes (entries_under nodes) files rising ruled flat
    (λ d dir. ap (λ o. option_map_or entries_spelled o []) (has d dir).1 ∙ sym (all_kept (fsnode_bytes (fsnode files d)) (fsnode files d) (has d dir).0 (fsnode_is_read (fsnode files d) (has d dir).0)))
