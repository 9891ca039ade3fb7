-- Files and members as the definitions see them.
--     flat_view f, flats_view fs      files with their paths
--     member_view m, members_view ms      changesets with the places of their parents
use Rattle.std.specs.Prelude.{List, map}
use Rattle.changeset_model.specs.Path.{Path}
use Rattle.changeset_model.specs.Changeset as model
use Rattle.tree_fold.specs.View.{file_view}
use Rattle.merge_tree.specs.Lineage as lines
use Rattle.merge_tree.specs.declared.flat.FlatFile.{FlatFile}
use Rattle.merge_tree.specs.declared.lineage.Member.{Member}

abbrev pub flat_view : FlatFile → Path × model.File
flat_view f = (f.path, file_view f.file)

abbrev pub flats_view : List FlatFile → List (Path × model.File)
flats_view fs = map flat_view fs

abbrev pub member_view : Member → lines.Member
member_view m = lines.member_of m.change m.parents.first m.parents.second

abbrev pub members_view : List Member → List lines.Member
members_view ms = map member_view ms
