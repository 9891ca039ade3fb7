use Rattle.std.proofs.Common.{cond, sym, ap, ◌∙◌}
use Rattle.std.specs.Prelude.{None, Some, is_some}
use Rattle.repo_machine.specs.Held.{repository}
use Rattle.repo_machine.proofs.HeldPolicy.{holds_as}
use Rattle.repo_machine.proofs.machine.Machine.told.Goals as goal

pub returns-in_ok-copy-in-Some : goal.returns-in_ok-copy-in-Some
returns-in_ok-copy-in-Some c =
    ap Some c.in_ok-copy-in-Some.ensures
    ∙ sym (ap (λ b. cond b (Some c.args.caller.now) None) (sym (holds_as _ _ c.self.inside.held c.self.invariant.4 (repository c.args.self.now) (ap repository c.self.view_is)) ∙ ap is_some c.in-Some.is))

pub returns-in-None : goal.returns-in-None
returns-in-None c =
    sym (ap (λ b. cond b (Some c.args.caller.now) None) (sym (holds_as _ _ c.self.inside.held c.self.invariant.4 (repository c.args.self.now) (ap repository c.self.view_is)) ∙ ap is_some c.in-None.is))
