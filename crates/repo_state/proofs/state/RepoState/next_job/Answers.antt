use Rattle.repo_state.proofs.Settling.{takes_as}
use Rattle.repo_state.proofs.state.RepoState.next_job.Goals as goal

pub returns-clause-core : goal.returns-clause-core
returns-clause-core g c =
    rw (← c.self.view_is)
    (takes_as c.self.inside.machine.header c.self.inside.machine.history c.self.inside.sealed c.self.inside.manifests c.self.invariant.0.0.0.legal c.self.invariant.1.manifests
    c.changesets-changesets.result.now.known c.changesets-changesets.ensures.known c.in-Some.number c.in_ok-next_job.field-0 c.in_ok-next_job.ensures)
