-- What is left of a merge between its parents, by their manifests.
--     is_settled_by ks t x      the known changeset with this id is settled
--     are_sides_settled ks t parents      so are the first two of these parents, where there are two
--     root_fsnode ks x      the id of the fsnode of its root
--     read_between ks t c parents      how many directories are read to tell what c leaves between the trees of the first two of these parents
use Rattle.std.specs.Prelude.{ℕ, Bool, true, false, ◌&&◌, List, [], ◌∷◌}
use Rattle.std.specs.Option.{option_map_or}
use Rattle.byte_fields.specs.Bytes.{Id}
use Rattle.changeset_model.specs.Changeset.{Changeset}
use Rattle.history_model.specs.History.{Known}
use Rattle.history_model.specs.Tree.{files_of}
use Rattle.manifest_model.specs.Fsnode.{fsnode, fsnode_id}
use Rattle.node_table.specs.Table.{Table, is_settled}
use Rattle.changeset_store.specs.Store.{number_in}
use Rattle.merge_walk.specs.Cost.{reads}
use Rattle.merge_walk.specs.Table.{entries_under}

abbrev pub is_settled_by : List Known → Table → Id → Bool
is_settled_by ks t x = option_map_or (is_settled t) (number_in ks x) false

abbrev pub are_sides_settled : List Known → Table → List Id → Bool
are_sides_settled ks t [] = true
are_sides_settled ks t (p ∷ []) = true
are_sides_settled ks t (p ∷ q ∷ ps) = is_settled_by ks t p && is_settled_by ks t q

abbrev pub root_fsnode : List Known → Id → Id
root_fsnode ks x = fsnode_id (fsnode (files_of ks x) [])

abbrev pub read_between : List Known → Table → Changeset → List Id → ℕ
read_between ks t c [] = 0
read_between ks t c (p ∷ []) = 0
read_between ks t c (p ∷ q ∷ ps) = reads (entries_under t.nodes) c (root_fsnode ks p) (root_fsnode ks q)
