use Rattle.repo_state.proofs.state.RepoState.plan_again.Goals as goal

pub returns-clause-only_new : goal.returns-clause-only_new
returns-clause-only_new g c = rw (← c.self.view_is) c.plan_again.ensures.only_new
