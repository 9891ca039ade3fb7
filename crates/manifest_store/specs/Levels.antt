-- Directories of a tree, whose files are gone through level by level.
--     AreDirectories past dirs      they are there, with the ids of their fsnodes
--     AreDeep n dirs      their paths have so many elements at least
--     is_reached past gone dirs p      a path was added, or a file is there under one of the directories
use Rattle.std.specs.Prelude.{◌≤◌, ℕ, Bool, ◌&&◌, ◌||◌, List, length}
use Rattle.std.specs.List.{AllByRecursion, list_any}
use Rattle.changeset_model.specs.Path.{Path, is_strict_prefix}
use Rattle.history_model.specs.Past.{Past}
use Rattle.deleted_step.specs.Steps.{is_among}
use Rattle.manifest_store.specs.declared.under.Directory.{Directory}
use Rattle.manifest_store.specs.Moves.{IsDirectory, has_file}

abbrev pub AreDirectories : Past → List Directory → Type 0
AreDirectories past dirs = AllByRecursion (λ d. IsDirectory past d.path d.id) dirs

abbrev pub AreDeep : ℕ → List Directory → Type 0
AreDeep n dirs = AllByRecursion (λ d. n ≤ length d.path) dirs

abbrev pub is_reached : Past → List Path → List Directory → Path → Bool
is_reached past gone dirs p = is_among p gone || (has_file past p && list_any (λ d. is_strict_prefix d.path p) dirs)
