-- Where two directories meet: the names that both have.
--     Meeting      a path with what either side has there
--     is_same e g      the two are equal files, or directories with one id
--     met d left right      of two directories at the path d, by their entries: the paths of names under which they have different entries
--     opened listed c d left right      where two directories meet at the path d, the meetings in them, unless the changeset sets a file there or above
use Rattle.std.specs.Prelude.{ℕ, Bool, false, not, ◌||◌, if◌then◌else◌, List, [], ◌∷◌, ◌++◌, filter_map, bytes_eq, Option, None, Some}
use Rattle.std.specs.Option.{option_and_then}
use Rattle.std.specs.Ordering.{nat_cmp}
use Rattle.std.specs.Cmp.Lexicographic.{slice_cmp}
use Rattle.std.specs.FinMap.{find as find_key}
use Rattle.changeset_model.specs.Path.{Path, is_path}
use Rattle.history_model.specs.Merge.{file_eq}
use Rattle.manifest_model.specs.Fsnode.{FsEntry, FsFile, FsDir}
use Rattle.changeset_model.specs.Changeset.{Changeset}
use Rattle.manifest_laws.specs.Changes.{is_covered}
use Rattle.merge_walk.specs.Walk.{Listing}

abbrev pub Meeting : Type 0
Meeting = Path × (FsEntry × FsEntry)

abbrev pub is_same : FsEntry → FsEntry → Bool
is_same (FsFile f) (FsFile g) = file_eq f g
is_same (FsFile f) (FsDir y t) = false
is_same (FsDir x s) (FsFile g) = false
is_same (FsDir x s) (FsDir y t) = bytes_eq x y

-- A path that would be too long is none, and no file is at or under it.
abbrev pub met_here : Path → List ℕ × FsEntry → FsEntry → Option Meeting
met_here d e g = if is_same e.1 g || not (is_path (d ++ e.0 ∷ [])) then None else Some (d ++ e.0 ∷ [], (e.1, g))

abbrev pub met_among : Path → List (List ℕ × FsEntry) → List ℕ × FsEntry → Option Meeting
met_among d others e = option_and_then (met_here d e) (find_key (slice_cmp nat_cmp) e.0 others)

abbrev pub met : Path → List (List ℕ × FsEntry) → List (List ℕ × FsEntry) → List Meeting
met d left right = filter_map (met_among d right) left

abbrev pub opened : Listing → Changeset → Path → FsEntry → FsEntry → List Meeting
opened listed c d (FsFile f) (FsFile g) = []
opened listed c d (FsFile f) (FsDir y t) = []
opened listed c d (FsDir x s) (FsFile g) = []
opened listed c d (FsDir x s) (FsDir y t) = if is_covered c d then [] else met d (listed x) (listed y)
