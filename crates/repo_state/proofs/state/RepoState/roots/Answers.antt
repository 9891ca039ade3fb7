use Rattle.std.proofs.Common.{sym}
use Rattle.repo_state.proofs.Reading.{roots_told}
use Rattle.repo_state.proofs.state.RepoState.roots.Goals as goal

pub returns-clause-some : goal.returns-clause-some
returns-clause-some g c =
    rw (← c.self.view_is)
    (roots_told c.self.inside.machine.header c.self.inside.machine.history c.args.id c.self.inside.manifests c.self.invariant.1.manifests c.in_ok-number.number (sym c.in_ok-number.ensures) c.roots.result c.roots.ensures.roots)
