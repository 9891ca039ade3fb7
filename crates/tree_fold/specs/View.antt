-- Trees as the definitions see them.
--     file_view f      a file;  files_view es      the files with their paths
--     child_view c      a name in a directory, with the file there or None for a directory
use Rattle.std.specs.Prelude.{ℕ, List, map, Option, option_map, string_bytes}
use Rattle.changeset_model.specs.Path.{Path}
use Rattle.changeset_model.specs.Changeset as model
use Rattle.bonsai.specs.Kinds.{kind_view}
use Rattle.tree_fold.specs.declared.file.File.{File}
use Rattle.tree_fold.specs.declared.child.Child.{Child}

abbrev pub file_view : File → model.File
file_view f = record { content = f.content; kind = kind_view f.kind; size = f.size }

abbrev pub files_view : List (Path × File) → List (Path × model.File)
files_view es = map (λ e. (e.0, file_view e.1)) es

abbrev pub child_view : Child → List ℕ × Option model.File
child_view c = (string_bytes c.name, option_map file_view c.file)
