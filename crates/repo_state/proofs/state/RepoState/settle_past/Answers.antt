use Rattle.std.proofs.Common.{◌≡◌, ◌<◌, length, sym, ap, subst, ◌∙◌}
use Rattle.std.specs.Prelude.{Some}
use Rattle.history_model.specs.History.{known}
use Rattle.reply_model.specs.After.{Answers, Derives, nothing}
use Rattle.changeset_store.specs.Store.{number_in}
use Rattle.manifest_store.specs.Settling.{IsCollision}
use Rattle.repo_calls.specs.Asking.{fault_answer}
use Rattle.repo_state.specs.Manifests.{IsNextOf}
use Rattle.repo_state.specs.State.{State}
use Rattle.settled_merge.proofs.Deriving.{missing, done_right, done_ready, stay_settled, fewer_missing}
use Rattle.repo_state.proofs.Reading.{next_of, collided, past_settled}
use Rattle.repo_state.proofs.state.RepoState.settle_past.Goals as goal

pub settle-requires-clause-derived : goal.settle-requires-clause-derived
settle-requires-clause-derived g c =
    let ks = known c.loop-job.self.history in
    let next = next_of ks c.loop-job.self.table c.args.id c.in_ok-job.field-0 c.in-Some.job c.in_ok-job.ensures.ok c.in-Some.is in
    done_right ks c.loop-job.self.table next.0 c.in-Some.job next.1 c.in-Ok.done c.in-Ok.ensures.past

pub returns-in-Err-clause-err : goal.returns-in-Err-clause-err
returns-in-Err-clause-err g c =
    let same = ap (λ (s : State). s.history) c.loop-job.invariant.same in
    subst (λ fault. Answers c.args.self.now.header c.args.self.now.history (Derives c.args.id) (fault_answer fault) nothing) (sym c.settle_fault.ensures)
    (collided c.args.self.now.header c.args.self.now.history c.args.id c.in-Err.fault (subst (λ h. IsCollision (known h) c.in-Err.fault) same c.in-Err.ensures.collision))

pub loop-job-smaller : goal.loop-job-smaller
loop-job-smaller g c =
    let ks = known c.loop-job.self.history in
    let next = next_of ks c.loop-job.self.table c.args.id c.in_ok-job.field-0 c.in-Some.job c.in_ok-job.ensures.ok c.in-Some.is in
    let ready = done_ready ks c.loop-job.self.table next.0 c.in-Some.job next.1 c.in-Ok.done c.in-Ok.ensures.past in
    let same = ap (λ (s : State). s.history) c.in_default-settle.ensures.same in
    subst (λ h. missing c.settle.new.self.table (length (known h)) < missing c.loop-job.self.table (length ks)) (sym same)
    (fewer_missing ks c.loop-job.self.table c.settle.new.self.table next.0 c.in-Some.job next.1 c.in-Ok.done c.in-Ok.ensures.past c.in_default-settle.ensures.ok (c.in_default-settle.ensures.settled ready))

pub loop-job-preserved : goal.loop-job-preserved
loop-job-preserved g c = record {
  same = c.in_default-settle.ensures.same ∙ ap (λ (s : State). record s { table = c.settle.new.self.table }) c.loop-job.invariant.same;
  stay = λ n h. stay_settled (known c.loop-job.self.history) c.loop-job.self.table c.settle.new.self.table c.in-Ok.done c.in_default-settle.ensures.ok n (c.loop-job.invariant.stay n h);
}

pub returns-clause-ok : goal.returns-clause-ok
returns-clause-ok g c =
    let n = c.in-Some-number_of.number in
    let seen = ap (λ (s : State). s.history) c.self.view_is in
    let same = ap (λ (s : State). s.history) c.loop-job.invariant.same in
    let there = subst (λ h. number_in (known h) c.args.id ≡ Some n) seen (sym c.in-Some-number_of.ensures) in
    let next = subst (IsNextOf (known c.loop-job.self.history) c.loop-job.self.table c.args.id) c.in_default.is c.in_ok-job.ensures.ok in (
      subst (λ h. number_in (known h) c.args.id ≡ Some n) same there,
      past_settled (known c.loop-job.self.history) c.loop-job.self.table c.args.id n c.in_ok-job.ensures.manifests next there,
    )
