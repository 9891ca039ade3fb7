use Rattle.std.proofs.Common.{◌≡◌, sym, ap, subst, ◌∙◌}
use Rattle.std.specs.Prelude.{Ok}
use Rattle.history_model.specs.History.{known}
use Rattle.reply_model.specs.After.{Answers, Looks, nothing}
use Rattle.reply_model.specs.Reply.{HistoryOf}
use Rattle.manifest_store.specs.Reads.{IsAbsence, history_at}
use Rattle.repo_calls.specs.Asking.{fault_answer}
use Rattle.repo_state.specs.Manifests.{ids_answer}
use Rattle.repo_state.specs.State.{State}
use Rattle.repo_state.proofs.Reading.{history_saw, history_absent}
use Rattle.repo_state.proofs.state.RepoState.file_history.Goals.{in-Ok, in-Err}
use Rattle.repo_state.proofs.state.RepoState.file_history.Goals as goal

pub returns-clause-answer : goal.returns-clause-answer
returns-clause-answer g c =
    let header = c.args.self.now.header in
    let h = c.args.self.now.history in
    let n = c.in_ok-number.number in
    let there = c.in_ok-number.ensures.ok.0 in
    let path = c.args.path.now in
    let told = c.changesets-changesets.ensures.known ∙ ap (λ (s : State). known s.history) (c.self.view_is ∙ c.in_ok-number.ensures.same) in
    elim c.match-file_history.branch as (λ _. Answers header h (Looks (HistoryOf c.args.id path)) (ids_answer c.match-file_history.result) nothing) [
      | in-Ok w ↦ subst (λ r. Answers header h (Looks (HistoryOf c.args.id path)) (ids_answer r) nothing) (sym w.result-is)
          (history_saw header h c.args.id n there path w.in-Ok.ids.items (subst (λ ks. history_at ks n path ≡ Ok w.in-Ok.ids.items) told w.in-Ok.ensures.ids))
      | in-Err w ↦ subst (λ r. Answers header h (Looks (HistoryOf c.args.id path)) (ids_answer r) nothing) (sym w.result-is)
          (subst (λ fault. Answers header h (Looks (HistoryOf c.args.id path)) (fault_answer fault) nothing) (sym w.read_fault.ensures)
          (history_absent header h c.args.id n there path w.in-Err.fault (subst (λ ks. IsAbsence w.in-Err.fault (history_at ks n path)) told w.in-Err.ensures.absent)))
    ]
