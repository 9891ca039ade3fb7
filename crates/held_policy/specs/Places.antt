-- What stands at a place among paths.
--     denial_at ps d      the denial of the path at the place
use Rattle.std.specs.Prelude.{List, [], slice_index_or}
use Rattle.changeset_model.specs.Path.{Path}
use Rattle.policy_model.specs.Rules.{Denial}
use Rattle.held_policy.specs.declared.places.DeniedAt.{DeniedAt}

abbrev pub denial_at : List Path → DeniedAt → Denial
denial_at ps d = record { path = slice_index_or ps d.at []; rule = d.rule }
