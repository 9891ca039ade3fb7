use Rattle.std.proofs.Common.{◌≡◌, true, List, ap, subst, ◌∙◌}
use Rattle.std.specs.Prelude.{IfOk}
use Rattle.std.specs.List.{AllByRecursion}
use Rattle.changeset_model.specs.Changeset.{Changeset}
use Rattle.history_model.specs.History.{Known, is_known, known}
use Rattle.reply_model.specs.Reply.{unresolved_of}
use Rattle.repo_machine.specs.Found.{IsLeft}
use Rattle.repo_state.specs.State.{State}
use Rattle.repo_state.proofs.state.RepoState.left_by.Goals as goal

pub returns : goal.returns
returns g c =
    let told = c.changesets.ensures.known ∙ ap (λ (s : State). known s.history) c.self.view_is in
    subst (λ (change : Changeset). IfOk c.left_unresolved.result (IsLeft c.args.self.now.history change)) c.changeset.ensures
    (subst (λ (ks : List Known). IfOk c.left_unresolved.result (λ path. AllByRecursion (λ p. is_known ks p ≡ true) c.changeset.result.now.parents → path ≡ unresolved_of ks c.changeset.result.now c.changeset.result.now.parents)) told c.left_unresolved.ensures)
