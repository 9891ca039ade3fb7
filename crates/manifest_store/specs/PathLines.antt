-- What was changed at a path, of known changesets by their numbers.
--     link_at ks p n      who made the unode of the file at the path there;  IsLinkOf ks p n link      a file is there, and this is the number of that changeset
--     IsEnd ks t p n r      a settled changeset on the line of n that has a file at the path, where the same was logged last
--     last_logged_at ks p n      the last on the line of first parents that is logged at the path
--     has_file_at ks p n, is_logged_at ks p n      whether a file is at the path there;  whether the changeset sets the path, or has another file there than its first parent
use Rattle.std.specs.Prelude.{◌≡◌, ◌≤◌, ℕ, Bool, true, is_some, List, Option, Some}
use Rattle.byte_fields.specs.Bytes.{Id}
use Rattle.changeset_model.specs.Path.{Path}
use Rattle.history_model.specs.History.{Known}
use Rattle.history_model.specs.Tree.{tree_of}
use Rattle.manifest_model.specs.Deleted.{is_logged}
use Rattle.manifest_model.specs.Unode.{linknode_of}
use Rattle.manifest_model.specs.Merged.{unode_at}
use Rattle.node_table.specs.Table.{Table, is_settled}
use Rattle.path_log.specs.Line.{last_logged}
use Rattle.changeset_store.specs.Store.{number_in, parent_at}
use Rattle.changeset_store.specs.Pasts.{past_at}

abbrev pub has_file_at : List Known → Path → ℕ → Bool
has_file_at ks p n = is_some (tree_of (past_at ks n) p)

abbrev pub is_logged_at : List Known → Path → ℕ → Bool
is_logged_at ks p n = is_logged (past_at ks n) p

abbrev pub link_at : List Known → Path → ℕ → Id
link_at ks p n = linknode_of (unode_at (past_at ks n) p)

pub record IsLinkOf (ks : List Known) (p : Path) (n link : ℕ) : Type 0 where
  pub file : has_file_at ks p n ≡ true
  pub maker : number_in ks (link_at ks p n) ≡ Some link

abbrev pub last_logged_at : List Known → Path → ℕ → Option ℕ
last_logged_at ks p n = last_logged (parent_at ks) (is_logged_at ks p) n

pub record IsEnd (ks : List Known) (t : Table) (p : Path) (n r : ℕ) : Type 0 where
  pub settled : is_settled t r ≡ true
  pub upto : r ≤ n
  pub file : has_file_at ks p r ≡ true
  pub last : last_logged_at ks p r ≡ last_logged_at ks p n
