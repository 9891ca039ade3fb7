-- What a walk from a directory finds, by what directories list.
--     Listing      the entries of each directory, by its id
--     under listed o name, entry_from listed o p      from an entry, if there is one: the entry of a name in it;  what is at a path from there
--     entry_at listed x p      what is at a path from the directory with this id
--     IsTreeAt listed x files      these are the files of the tree with this root: by rising paths that may stand in a changeset, and at each path what a walk finds there
use Rattle.std.specs.Prelude.{◌≡◌, ℕ, true, List, [], ◌∷◌, Option, None, Some}
use Rattle.std.specs.List.{AllByRecursion}
use Rattle.std.specs.Ordering.{nat_cmp}
use Rattle.std.specs.Cmp.Lexicographic.{slice_cmp}
use Rattle.std.specs.FinMap.{is_sorted, find as find_key}
use Rattle.byte_fields.specs.Bytes.{Id}
use Rattle.changeset_model.specs.Path.{Path, path_cmp, is_path}
use Rattle.changeset_model.specs.Changeset.{File}
use Rattle.history_model.specs.Tree.{file_at}
use Rattle.manifest_model.specs.Fsnode.{FsEntry, FsFile, FsDir, summary_of}
use Rattle.manifest_laws.specs.Entries.{file_of_entry}

abbrev pub Listing : Type 0
Listing = Id → List (List ℕ × FsEntry)

abbrev pub under : Listing → Option FsEntry → List ℕ → Option FsEntry
under listed None name = None
under listed (Some (FsFile f)) name = None
under listed (Some (FsDir x s)) name = find_key (slice_cmp nat_cmp) name (listed x)

abbrev pub entry_from : Listing → Option FsEntry → Path → Option FsEntry
entry_from listed o [] = o
entry_from listed o (name ∷ p) = entry_from listed (under listed o name) p

-- the summary of a directory tells nothing of what is under it
abbrev pub directory : Id → Option FsEntry
directory x = Some (FsDir x (summary_of []))

abbrev pub entry_at : Listing → Id → Path → Option FsEntry
entry_at listed x p = entry_from listed (directory x) p

pub record IsTreeAt (listed : Listing) (x : Id) (files : List (Path × File)) : Type 0 where
  pub rising : is_sorted path_cmp files ≡ true
  pub ruled : AllByRecursion (λ f. is_path f.0 ≡ true) files
  pub same : (p : Path) → file_at files p ≡ file_of_entry (entry_at listed x p)
