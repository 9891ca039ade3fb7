use Rattle.std.proofs.Common.{◌<◌, length, sym, subst}
use Rattle.history_model.specs.History.{known}
use Rattle.repo_state.specs.State.{State}
use Rattle.repo_state.proofs.Settling.{settles_as}
use Rattle.repo_state.proofs.state.RepoState.settle.Goals as goal

pub returns-clause-core : goal.returns-clause-core
returns-clause-core g c =
    let less = subst (λ (s : State). c.args.done.number < length (known s.history)) (sym c.self.view_is) c.requires.known in
    rw (← c.self.view_is)
    (settles_as c.self.inside.machine.header c.self.inside.machine.history c.self.inside.sealed c.self.inside.manifests c.settle.new.self c.self.invariant.1.manifests c.args.done less
    c.changesets.result.now.known c.changesets.ensures.known c.settle.result c.settle.ensures.manifests c.settle.ensures.ok c.settle.ensures.err c.settle.ensures.settled c.settle.ensures.beside)
