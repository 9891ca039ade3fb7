use Rattle.std.proofs.Common.{arith}
use Rattle.std.specs.Prelude.{◌&&◌}
use Rattle.repo_machine.proofs.Judging.{are_bytes-from}
use Rattle.repo_machine.proofs.policies.keep_rules.Goals as goal

pub returns : goal.returns
returns c = λ h i. c.as_str-caller.ensures.rules i && are_bytes-from c.args.text.now (λ j. omega (arith, c.type_inv.text j)) i
