-- The definitions' rules of the code's.
use Rattle.std.specs.Prelude.{List, [], map, Option, None, Some}
use Rattle.changeset_model.specs.Path.{Path}
use Rattle.policy_model.specs.Rules as model
use Rattle.land_policy.specs.declared.rule.Rule.{Rule}

-- a rule without a path speaks of everything
abbrev pub elements_in : Option Path → Path
elements_in None = []
elements_in (Some p) = p

abbrev pub rule_view : Rule → model.Rule
rule_view r = record { allows = r.allows; name = r.name; elements = elements_in r.path }

abbrev pub rules_view : List Rule → List model.Rule
rules_view rs = map rule_view rs
