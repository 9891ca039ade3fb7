use Rattle.std.proofs.Common.{ap, ◌∙◌}
use Rattle.changeset_model.specs.Path.{path_eq}
use Rattle.land_policy.specs.Index.{place_of}
use Rattle.land_policy.specs.View.{elements_in}
use Rattle.land_policy.proofs.Places.{path_at_key}
use Rattle.land_policy.proofs.rule.Rule.place.Goals as goal

pub returns-in-Some : goal.returns-in-Some
returns-in-Some c = λ key. ap (λ o. path_eq (elements_in o) (place_of key)) c.in-Some.is ∙ path_at_key c.in-Some.path _ c.as_str.ensures.elements c.as_str.ensures.path key
