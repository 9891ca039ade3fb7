-- What a walk reads: how many directories.
--     room d      how many elements more a path under d may have, at most
--     cleared listed c deep d x      of the directory with the id x at the path d and of those in it, at most so deep: how many have no file directly in them that the changeset leaves
--     standing listed c deep d x      what is read to tell whether a file at the path d stands against a file in the directory there: one directory more than are cleared, if the changeset leaves d
--     judging listed c deep d left right, opening c d left right      what is read to judge a meeting: where a file meets a directory;  and to open it: two directories that meet, unless the changeset sets a file there or above
--     reads_at listed c deep d left right      what is read of a meeting and of the meetings in it, at most so deep
--     reads listed c left right      the same of two roots. Equal ones are not read
use Rattle.std.specs.Prelude.{ℕ, zero, suc, ◌+◌, ◌-◌, if◌then◌else◌, [], length, filter_map, sum_by, bytes_eq}
use Rattle.std.specs.List.{list_any}
use Rattle.byte_fields.specs.Bytes.{Id}
use Rattle.changeset_model.specs.Path.{Path}
use Rattle.changeset_model.specs.Changeset.{Changeset}
use Rattle.history_model.specs.Tree.{decides}
use Rattle.manifest_model.specs.Fsnode.{FsEntry, FsFile, FsDir}
use Rattle.manifest_laws.specs.Changes.{is_covered}
use Rattle.merge_walk.specs.Walk.{Listing}
use Rattle.merge_walk.specs.Meeting.{met, opened}
use Rattle.merge_walk.specs.Left.{is_left_file, dir_in}

-- each element has a byte at least
abbrev pub room : Path → ℕ
room d = 4096 - length d

abbrev pub cleared_here : Listing → Changeset → Path → Id → ℕ
cleared_here listed c d x = if list_any (is_left_file c d) (listed x) then 0 else 1

unfoldable pub cleared : Listing → Changeset → ℕ → Path → Id → ℕ
cleared listed c zero d x = cleared_here listed c d x
cleared listed c (suc deep) d x = cleared_here listed c d x + sum_by (λ t. cleared listed c deep t.0 t.1) (filter_map (dir_in d) (listed x))

abbrev pub standing : Listing → Changeset → ℕ → Path → Id → ℕ
standing listed c deep d x = if decides c d then 0 else 1 + cleared listed c deep d x

abbrev pub judging : Listing → Changeset → ℕ → Path → FsEntry → FsEntry → ℕ
judging listed c deep d (FsFile f) (FsFile g) = 0
judging listed c deep d (FsFile f) (FsDir y t) = standing listed c deep d y
judging listed c deep d (FsDir x s) (FsFile g) = standing listed c deep d x
judging listed c deep d (FsDir x s) (FsDir y t) = 0

abbrev pub opening : Changeset → Path → FsEntry → FsEntry → ℕ
opening c d (FsFile f) (FsFile g) = 0
opening c d (FsFile f) (FsDir y t) = 0
opening c d (FsDir x s) (FsFile g) = 0
opening c d (FsDir x s) (FsDir y t) = if is_covered c d then 0 else 2

unfoldable pub reads_at : Listing → Changeset → ℕ → Path → FsEntry → FsEntry → ℕ
reads_at listed c zero d left right = judging listed c zero d left right + opening c d left right
reads_at listed c (suc deep) d left right = judging listed c (suc deep) d left right + opening c d left right + sum_by (λ m. reads_at listed c deep m.0 m.1.0 m.1.1) (opened listed c d left right)

abbrev pub reads : Listing → Changeset → Id → Id → ℕ
reads listed c left right = if bytes_eq left right then 0 else 2 + sum_by (λ m. reads_at listed c (room m.0) m.0 m.1.0 m.1.1) (met [] (listed left) (listed right))
