use Rattle.std.proofs.Common.{◌≡◌, length, ap, arith, ◌∙◌}
use Rattle.repo_machine.specs.Held.{repository}
use Rattle.repo_machine.proofs.Logging.{total_is}
use Rattle.repo_machine.proofs.machine.Machine.stored_length.Goals as goal

pub returns : goal.returns
returns c = (let same : c.len.result ≡ length c.self.inside.kept.items = omega (arith, c.len.ensures) in same) ∙ total_is c.self.inside.changesets.known c.self.inside.entries.items c.self.inside.kept.items c.self.invariant.3 _ c.self.invariant.0 _ (repository c.args.self.now) (ap repository c.self.view_is)
