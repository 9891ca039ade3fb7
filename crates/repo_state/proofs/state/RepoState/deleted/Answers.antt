use Rattle.std.proofs.Common.{sym, ap, subst, ◌∙◌}
use Rattle.history_model.specs.History.{known}
use Rattle.reply_model.specs.After.{Answers, Looks, nothing}
use Rattle.reply_model.specs.Reply.{DeletedOf}
use Rattle.manifest_store.specs.Manifests.{AreManifests}
use Rattle.repo_calls.specs.Asking.{bytes_answer, fault_answer, place_of}
use Rattle.repo_state.specs.State.{State}
use Rattle.repo_state.proofs.Reading.{deleted_saw, deleted_absent}
use Rattle.repo_state.proofs.state.RepoState.deleted.Goals.{in-Ok, in-Err}
use Rattle.repo_state.proofs.state.RepoState.deleted.Goals as goal

pub returns-clause-answer : goal.returns-clause-answer
returns-clause-answer g c =
    let header = c.args.self.now.header in
    let h = c.args.self.now.history in
    let same = ap (λ (s : State). s.history) (c.self.view_is ∙ c.in_ok-number.ensures.same) in
    let are = subst (λ h. AreManifests (known h) c.self.inside.manifests) same c.self.invariant.1.manifests in
    elim c.match-deleted.branch as (λ _. Answers header h (Looks (DeletedOf c.args.id (place_of c.args.path))) (bytes_answer c.match-deleted.result) nothing) [
      | in-Ok w ↦ subst (λ r. Answers header h (Looks (DeletedOf c.args.id (place_of c.args.path))) (bytes_answer r) nothing) (sym w.result-is)
          (deleted_saw header h c.args.id c.in_ok-number.number c.in_ok-number.ensures.ok.0 c.args.path w.in-Ok.bytes.items (w.in-Ok.ensures.bytes (known h) are))
      | in-Err w ↦ subst (λ r. Answers header h (Looks (DeletedOf c.args.id (place_of c.args.path))) (bytes_answer r) nothing) (sym w.result-is)
          (subst (λ fault. Answers header h (Looks (DeletedOf c.args.id (place_of c.args.path))) (fault_answer fault) nothing) (sym w.read_fault.ensures)
          (deleted_absent header h c.args.id c.in_ok-number.number c.in_ok-number.ensures.ok.0 c.args.path w.in-Err.fault (w.in-Err.ensures.absent (known h) are)))
    ]
