-- Shared changesets.
--     values shared      the changesets that some pointers share
use Rattle.std.specs.Prelude.{List, map}
use Rattle.std.specs.Arc.{arc_value}
use Rattle.std.specs.declared.sync.Arc.{Arc}
use Rattle.changeset_model.specs.Changeset.{Changeset}

abbrev pub values : {Z : Type 0} → List (Arc Changeset Z) → List Changeset
values shared = map arc_value shared
