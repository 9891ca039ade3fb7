-- The history of a file.
--     file_history ks p      of a changeset and its ancestors, each the child of the next, those that set the file, newest first, back to the last whose parent lacks it as a file
use Rattle.std.specs.Prelude.{if◌then◌else◌, List, [], ◌∷◌, reverse, is_some}
use Rattle.byte_fields.specs.Bytes.{Id}
use Rattle.changeset_model.specs.Path.{Path}
use Rattle.changeset_model.specs.Changeset.{set_at}
use Rattle.history_model.specs.History.{Known}
use Rattle.history_model.specs.Chain.{changesets}
use Rattle.history_model.specs.Tree.{tree}

abbrev pub file_history : List Known → Path → List Id
file_history [] p = []
file_history (c ∷ older) p =
    if is_some (set_at c.changeset p)
    then c.id ∷ (if is_some (tree (changesets (reverse older)) p) then file_history older p else [])
    else file_history older p
