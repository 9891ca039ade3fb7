use Rattle.std.proofs.Common.{◌∙◌, ap}
use Rattle.run_gen.specs.Calls.{last_id}
use Rattle.run_gen.proofs.Outcomes.{last_is}
use Rattle.run_gen.proofs.asking.head_of.Goals as goal

pub returns-in-Some : goal.returns-in-Some
returns-in-Some c = last_is c.args.landed.now.old c.deref.result.now c.in-Some.id.now c.in-Some.ensures.value ∙ ap (last_id c.args.landed.now.old) c.deref.ensures.value
