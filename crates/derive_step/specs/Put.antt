-- The deleted nodes of a changeset among those that are derived.
--     ArePut c first second ps root had put      those that are new were put to the nodes, and the root's has this id
use Rattle.std.specs.Prelude.{◌≡◌, ℕ, List, ◌++◌}
use Rattle.byte_fields.specs.Bytes.{Id}
use Rattle.changeset_model.specs.Path.{Path}
use Rattle.history_model.specs.History.{Known}
use Rattle.history_model.specs.Past.{Past, At}
use Rattle.deleted_step.specs.declared.done.Done.{Done}
use Rattle.deleted_step.specs.Steps.{IsDoneOf}

pub record ArePut (c : Known) (first second : Past) (ps : List Path) (root : Id) (had put : List (List ℕ)) : Type 0 where
  pub new : Done
  pub of : IsDoneOf first (At c first second) ps new
  pub top : root ≡ new.root
  pub nodes : put ≡ had ++ new.nodes.items
