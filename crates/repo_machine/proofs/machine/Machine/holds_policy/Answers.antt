use Rattle.std.proofs.Common.{ap, ◌∙◌}
use Rattle.repo_machine.specs.Held.{repository}
use Rattle.repo_machine.proofs.HeldPolicy.{holds_as}
use Rattle.repo_machine.proofs.machine.Machine.holds_policy.Goals as goal

pub returns : goal.returns
returns c = c.is_some.ensures ∙ holds_as _ _ c.self.inside.held c.self.invariant.4 (repository c.args.self.now) (ap repository c.self.view_is)
