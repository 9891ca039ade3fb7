use Rattle.std.proofs.Common.{◌+◌, ◌-◌, sym, ap, ◌∙◌}
use Rattle.std.proofs.lemmas.Result.{err_from_is_err_and}
use Rattle.byte_fields.specs.Reading.{times}
use Rattle.history_model.specs.Payload.{encoded}
use Rattle.byte_fields.proofs.Run.{times_run, with_front, goes_on, fails}
use Rattle.repo_events.proofs.parts.commits_at.Goals as goal

pub returns-in_err-commit : goal.returns-in_err-commit
returns-in_err-commit c =
    let p = err_from_is_err_and c.from_residual-in_err-commit.result c.from_residual-in_err-commit.ensures.1 in
    rw (p.1, p.2) (fails (times_run encoded) c.in_err-commit.field-0.0 c.loop.commits.items c.args.count c.loop.counter tt c.loop.rest.now (times c.args.count encoded c.args.bytes.now) c.loop-test.true c.in_err-commit.ensures c.loop.invariant)

pub loop-preserved : goal.loop-preserved
loop-preserved c =
    ap (λ front. with_front front (times (c.args.count - (c.loop.counter + 1)) encoded c.in_ok-commit.after.now)) c.in_ok-push.ensures.items
    ∙ sym (goes_on (times_run encoded) c.loop.commits.items c.args.count c.loop.counter tt c.loop.rest.now c.in_ok-commit.after.now c.in_ok-commit.commit c.loop-test.true c.in_ok-commit.ensures)
    ∙ c.loop.invariant
