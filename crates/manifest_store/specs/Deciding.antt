-- Edits that a changeset makes, with the paths that it sets.
--     IsMadeBy c es      the edits are those of a changeset that keeps its rules;  AreMade es      of one
--     AreDecided es sets      and the paths are those that it sets
use Rattle.std.specs.Prelude.{◌≡◌, true, List, None}
use Rattle.changeset_model.specs.Path.{Path}
use Rattle.changeset_model.specs.Changeset.{Changeset, FileChange, is_changeset, self_conflict}
use Rattle.derive_step.specs.Covering.{paths_set}

pub record IsMadeBy (c : Changeset) (es : List (Path × FileChange)) : Type 0 where
  pub kept : is_changeset c ≡ true
  pub clear : self_conflict c ≡ None
  pub changes : es ≡ c.changes

abbrev pub AreMade : List (Path × FileChange) → Type 0
AreMade es = (c : Changeset) × IsMadeBy c es

pub record AreDecided (es : List (Path × FileChange)) (sets : List Path) : Type 0 where
  pub made : AreMade es
  pub sets_are : sets ≡ paths_set es
