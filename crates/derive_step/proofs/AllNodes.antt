-- All nodes of a changeset on a line.
use Rattle.std.proofs.Common.{◌≡◌, ℕ, true, List, ◌∷◌, ◌++◌, map, reverse, ◌∙◌}
use Rattle.std.specs.Prelude.{Some}
use Rattle.changeset_model.specs.Path.{Path}
use Rattle.changeset_model.specs.Changeset.{File}
use Rattle.history_model.specs.History.{Known}
use Rattle.history_model.specs.Chain.{changesets}
use Rattle.history_model.specs.Past.{past_on}
use Rattle.history_model.specs.Tree.{is_dir}
use Rattle.manifest_model.specs.Fsnode.{Fsnode, fsnode, fsnode_bytes}
use Rattle.manifest_model.specs.Unode.{Unode, unode, unode_bytes}
use Rattle.manifest_model.specs.Deleted.{DeletedNode, deleted, deleted_bytes, deletions, has_deleted, node_in}
use Rattle.manifest_model.specs.Manifests.{dirs_of, paths_of, gone_paths}
use Rattle.manifest_model.proofs.Links.{file_at-files}
use Rattle.manifest_laws.specs.Changes.{tree_at, files_in}
use Rattle.manifest_laws.proofs.Directories.{directories_are, gone_paths_are}
use Rattle.byte_fields.specs.Bytes.{Id}
use Rattle.derive_step.specs.Jobs.{all_nodes_on}
use Rattle.derive_step.proofs.Members.{Has, contains_has, has_left, has_right, has_map, found_has}

module _ (k : Known) (ks : List Known) where
  abbrev these : List (Path × File)
  these = files_in (k ∷ ks)

  abbrev all : List (List ℕ)
  all = all_nodes_on (k ∷ ks)

  abbrev fs_bytes : Path × Fsnode → List ℕ
  fs_bytes e = fsnode_bytes e.1

  abbrev fs_at : Path → Path × Fsnode
  fs_at d = (d, fsnode these d)

  abbrev unode_spelled : Path × Unode → List ℕ
  unode_spelled e = unode_bytes e.1

  abbrev unode_of : Path → Path × Unode
  unode_of p = (p, unode (k ∷ ks) p)

  abbrev fsnodes : List (List ℕ)
  fsnodes = map fs_bytes (map fs_at (dirs_of these))

  abbrev unodes : List (List ℕ)
  unodes = map unode_spelled (map unode_of (paths_of these))

  abbrev these_gone : List (Path × Id)
  these_gone = deletions (past_on (k ∷ ks))

  abbrev deleted_spelled : Path × DeletedNode → List ℕ
  deleted_spelled e = deleted_bytes e.1

  abbrev deleted_of : Path → Path × DeletedNode
  deleted_of d = (d, node_in these_gone d)

  abbrev deleted_nodes : List (List ℕ)
  deleted_nodes = map deleted_spelled (map deleted_of (gone_paths these_gone))

  pub has_fsnode : (d : Path) → is_dir these d ≡ true → Has all (fsnode_bytes (fsnode these d))
  has_fsnode d dir =
      has_left (fsnodes ++ unodes) deleted_nodes (fsnode_bytes (fsnode these d))
      (has_left fsnodes unodes (fsnode_bytes (fsnode these d))
      (has_map fs_bytes (map fs_at (dirs_of these)) (fs_at d) (has_map fs_at (dirs_of these) d (contains_has (dirs_of these) d ((directories_are these d).1 dir)))))

  has_unode : (p : Path) → Has (paths_of these) p → Has all (unode_bytes (unode (k ∷ ks) p))
  has_unode p h =
      has_left (fsnodes ++ unodes) deleted_nodes (unode_bytes (unode (k ∷ ks) p))
      (has_right fsnodes unodes (unode_bytes (unode (k ∷ ks) p))
      (has_map unode_spelled (map unode_of (paths_of these)) (unode_of p) (has_map unode_of (paths_of these) p h)))

  pub has_gone : (d : Path) → has_deleted (past_on (k ∷ ks)) d ≡ true → Has all (deleted_bytes (deleted (past_on (k ∷ ks)) d))
  has_gone d there =
      has_right (fsnodes ++ unodes) deleted_nodes (deleted_bytes (node_in these_gone d))
      (has_map deleted_spelled (map deleted_of (gone_paths these_gone)) (deleted_of d) (has_map deleted_of (gone_paths these_gone) d (contains_has (gone_paths these_gone) d ((gone_paths_are these_gone d).1 there))))

  pub has_dir : (d : Path) → is_dir these d ≡ true → Has all (unode_bytes (unode (k ∷ ks) d))
  has_dir d dir = has_unode d (has_left (dirs_of these) (map (λ f. f.0) these) d (contains_has (dirs_of these) d ((directories_are these d).1 dir)))

  pub has_file : (p : Path) (f : File) → tree_at (k ∷ ks) p ≡ Some f → Has all (unode_bytes (unode (k ∷ ks) p))
  has_file p f e = has_unode p (has_right (dirs_of these) (map (λ f. f.0) these) p (has_map (λ f. f.0) these (p, f) (found_has p f these (file_at-files (changesets (reverse (k ∷ ks))) p ∙ e))))
