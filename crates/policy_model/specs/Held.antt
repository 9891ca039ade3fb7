-- What is decided where a policy may be held.
--     rules_in text      the rules of a policy's text. No text is held that breaks the grammar, and one would have no rule
--     denied_under held caller ps      the first path on which the policy that is held doesn't allow the caller. Where none is held all is allowed
use Rattle.std.specs.Prelude.{ℕ, List, [], unwrap_or, Option, None, Some}
use Rattle.std.specs.Result.{result_ok}
use Rattle.changeset_model.specs.Path.{Path}
use Rattle.policy_model.specs.Rules.{Rule, Denial, denied}
use Rattle.policy_model.specs.Grammar.{parse}

abbrev pub rules_in : List ℕ → List Rule
rules_in text = unwrap_or (result_ok (parse text)) []

abbrev pub denied_under : Option (List ℕ) → List ℕ → List Path → Option Denial
denied_under None caller ps = None
denied_under (Some text) caller ps = denied (rules_in text) caller ps
