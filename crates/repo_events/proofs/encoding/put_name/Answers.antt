use Rattle.std.proofs.Common.{arith}
use Rattle.std.proofs.lemmas.Grind.{common_steps}
use Rattle.repo_events.proofs.Names.{name_length_fits}
use Rattle.repo_events.proofs.encoding.put_name.Goals as goal

pub returns : goal.returns
returns c = rw (name_length_fits c.args.name.now c.as_str-text.ensures.rules) (grind (arith, common_steps))
