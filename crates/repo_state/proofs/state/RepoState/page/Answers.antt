use Rattle.repo_state.proofs.Answered.{page_answers}
use Rattle.repo_state.proofs.state.RepoState.page.Goals as goal

pub returns-in-Ok-clause-answer : goal.returns-in-Ok-clause-answer
returns-in-Ok-clause-answer g c =
    rw (← c.self.view_is)
    (page_answers c.self.inside.machine.header c.self.inside.machine.history c.args.from c.in-Ok.page c.in-Ok.ensures.entries c.in-Ok.ensures.total)
