use Rattle.repo_state.proofs.Stepping.{plans_if_ok}
use Rattle.repo_state.proofs.state.RepoState.plan.Goals as goal

pub returns-clause-core : goal.returns-clause-core
returns-clause-core g c = rw (← c.self.view_is) (plans_if_ok c.self.inside.machine.header c.self.inside.machine.history c.self.inside.sealed c.args.caller.now c.args.name.now c.args.draft c.plan.result c.plan.ensures.ok)
