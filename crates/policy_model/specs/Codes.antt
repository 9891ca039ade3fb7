-- The code of rules, so that they can be a model's value.
use Rattle.std.specs.Prelude.{ℕ, Bool, List, Option, refl}
use Rattle.std.specs.Coded.{Coded, code_by, coded_ℕ, coded_bool, coded_list, coded_option, coded×}
use Rattle.changeset_model.specs.Path.{Path}
use Rattle.changeset_model.specs.Codes.{coded_path}
use Rattle.policy_model.specs.Rules.{Rule}

abbrev pub coded_rule : Coded Rule
coded_rule = code_by (Bool × (Option (List ℕ) × Path)) (coded× coded_bool (coded× (coded_option (coded_list coded_ℕ)) coded_path))
    (λ r. (r.allows, (r.name, r.elements)))
    (λ t. record { allows = t.0; name = t.1.0; elements = t.1.1 })
    (λ _. refl)

abbrev pub coded_rules : Coded (List Rule)
coded_rules = coded_list coded_rule
