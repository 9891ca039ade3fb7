-- What is at a path where o was, once files are placed.
--     set_once e p o, set_all es p o      what edits set stands in its place
--     left_once c e p o, left_all c es p o      files that the changeset leaves stand where none was
use Rattle.std.specs.Prelude.{not, ◌&&◌, if◌then◌else◌, List, [], ◌∷◌, Option, Some}
use Rattle.std.specs.Option.{option_or}
use Rattle.changeset_model.specs.Path.{Path, path_eq}
use Rattle.changeset_model.specs.Changeset.{File, FileChange, Set, Delete, Changeset}
use Rattle.history_model.specs.Tree.{decides}

abbrev pub set_once : Path × FileChange → Path → Option File → Option File
set_once (q, Set f copied) p o = if path_eq q p then Some f else o
set_once (q, Delete) p o = o

abbrev pub set_all : List (Path × FileChange) → Path → Option File → Option File
set_all [] p o = o
set_all (e ∷ es) p o = set_all es p (set_once e p o)

abbrev pub left_once : Changeset → Path × File → Path → Option File → Option File
left_once c e p o = if path_eq e.0 p && not (decides c e.0) then option_or o (Some e.1) else o

abbrev pub left_all : Changeset → List (Path × File) → Path → Option File → Option File
left_all c [] p o = o
left_all c (e ∷ es) p o = left_all c es p (left_once c e p o)
