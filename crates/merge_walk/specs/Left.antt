-- What a changeset leaves where two sides meet.
--     HasLeft listed c d x, NoLeft listed c d x      of the directory with the id x at the path d: some file in it, however deep, is left undecided;  none that is at a path
--     Leaves listed c d x b      b tells which
--     Stands listed c d x b      b tells whether a file at the path d stands against a file in the directory there that is left too
--     Judged listed c d left right b      b tells whether the path d is unresolved, where the sides have these entries there
--     is_left_file c d e, dir_in d e      an entry of a directory at the path d: whether it is a file that is left;  its path and id, if it is a directory
use Rattle.std.specs.Prelude.{◌≡◌, ℕ, Bool, true, false, not, ◌&&◌, if◌then◌else◌, List, [], ◌∷◌, ◌++◌, Option, None, Some}
use Rattle.byte_fields.specs.Bytes.{Id}
use Rattle.changeset_model.specs.Path.{Path, is_path}
use Rattle.changeset_model.specs.Changeset.{File, Changeset}
use Rattle.history_model.specs.Tree.{decides}
use Rattle.history_model.specs.Merge.{file_eq}
use Rattle.manifest_model.specs.Fsnode.{FsEntry, FsFile, FsDir}
use Rattle.merge_walk.specs.Walk.{Listing, entry_at}

pub record HasLeft (listed : Listing) (c : Changeset) (d : Path) (x : Id) : Type 0 where
  pub path : Path
  pub file : File
  pub there : entry_at listed x path ≡ Some (FsFile file)
  pub is_left : decides c (d ++ path) ≡ false

abbrev pub NoLeft : Listing → Changeset → Path → Id → Type 0
NoLeft listed c d x = (p : Path) (f : File) → entry_at listed x p ≡ Some (FsFile f) → is_path (d ++ p) ≡ true → decides c (d ++ p) ≡ true

abbrev pub Leaves : Listing → Changeset → Path → Id → Bool → Type 0
Leaves listed c d x true = HasLeft listed c d x
Leaves listed c d x false = NoLeft listed c d x

abbrev pub Stands : Listing → Changeset → Path → Id → Bool → Type 0
Stands listed c d x true = (decides c d ≡ false) × HasLeft listed c d x
Stands listed c d x false = decides c d ≡ false → NoLeft listed c d x

abbrev pub Judged : Listing → Changeset → Path → FsEntry → FsEntry → Bool → Type 0
Judged listed c d (FsFile f) (FsFile g) b = b ≡ (not (decides c d) && not (file_eq f g))
Judged listed c d (FsFile f) (FsDir y t) b = Stands listed c d y b
Judged listed c d (FsDir x s) (FsFile g) b = Stands listed c d x b
Judged listed c d (FsDir x s) (FsDir y t) b = b ≡ false

abbrev pub is_left_file : Changeset → Path → List ℕ × FsEntry → Bool
is_left_file c d (name, FsFile f) = is_path (d ++ name ∷ []) && not (decides c (d ++ name ∷ []))
is_left_file c d (name, FsDir x s) = false

abbrev pub dir_in : Path → List ℕ × FsEntry → Option (Path × Id)
dir_in d (name, FsFile f) = None
dir_in d (name, FsDir x s) = if is_path (d ++ name ∷ []) then Some (d ++ name ∷ [], x) else None
