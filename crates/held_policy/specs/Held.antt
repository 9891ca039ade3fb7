-- What is decided by rules that may be held.
--     denied_by rules caller ps      the first path that isn't allowed. Where no rules are held all is allowed
use Rattle.std.specs.Prelude.{ℕ, List, Option, None, Some}
use Rattle.changeset_model.specs.Path.{Path}
use Rattle.policy_model.specs.Rules.{Rule, Denial, denied}

abbrev pub denied_by : Option (List Rule) → List ℕ → List Path → Option Denial
denied_by None caller ps = None
denied_by (Some rules) caller ps = denied rules caller ps
