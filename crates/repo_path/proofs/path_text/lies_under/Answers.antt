use Rattle.std.proofs.Common.{ap, ◌∙◌}
use Rattle.std.specs.Prelude.{nat_eq}
use Rattle.std.specs.List.{starts_with}
use Rattle.repo_path.proofs.Under.{under_after, not_under}
use Rattle.repo_path.proofs.path_text.lies_under.Goals as goal

pub returns-in-Some : goal.returns-in-Some
returns-in-Some c =
    let cases = c.in-Some.ensures.cases in
    c.starts_with.ensures.value ∙ ap (starts_with nat_eq c.in-Some.rest.now) c.as_slice.ensures ∙ under_after c.args.above.now c.args.text.now c.in-Some.rest.now cases.0 cases.1

pub returns-in-None : goal.returns-in-None
returns-in-None c = not_under c.args.above.now c.args.text.now c.in-None.ensures.cases
