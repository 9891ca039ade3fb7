use Rattle.std.proofs.Common.{refl, subst, arith}
use Rattle.std.proofs.lemmas.Result.{err_from_is_err_and}
use Rattle.repo_state.specs.AloneSteps.{IsStored}
use Rattle.repo_state.proofs.AloneSteps.{sealed_err, sealed_ok, sealed_failed}
use Rattle.repo_state.proofs.state.RepoState.seal_stored.Goals as goal

-- ---- it isn't granted

pub returns-in_err-granted-clause-change : goal.returns-in_err-granted-clause-change
returns-in_err-granted-clause-change g c = λ before call is.
    let p = err_from_is_err_and c.from_residual.result c.from_residual.ensures.1 in
    rw (p.1, p.2) (sealed_err before call c.in_err-granted.field-0.0 c.args.self.now (subst (λ r. IsStored before call r c.args.self.now) c.in_err-granted.was is))

-- ---- it is granted, and its entry is sealed, or the disk fails

pub returns-in-Ok-clause-change : goal.returns-in-Ok-clause-change
returns-in-Ok-clause-change g c = λ before call is.
    let e = c.in-Ok.ensures in
    let all = c.stored_length-upto.ensures.length in
    let done = e.done in
    sealed_ok before call c.in_ok-granted.granted c.args.self.now c.seal.new.self (subst (λ r. IsStored before call r c.args.self.now) c.in_ok-granted.was is)
    (record { history = e.history; most = e.most; grows = e.grows; still = λ few. e.still (omega arith); leaves = e.leaves; faults = e.faults; broken = e.leaves_now.cut_is; ends = e.leaves_now.ends; idle = λ some. e.idle (omega arith); reaches = e.sound.reaches; within = e.sound.within })
    (omega arith)

pub returns-in-Err-clause-change : goal.returns-in-Err-clause-change
returns-in-Err-clause-change g c = λ before call is.
    let e = c.in-Err.ensures in
    let all = c.stored_length-upto.ensures.length in
    let less = (e.failed.0 refl).1 in
    sealed_failed before call c.in_ok-granted.granted c.args.self.now c.seal.new.self (subst (λ r. IsStored before call r c.args.self.now) c.in_ok-granted.was is)
    (record { history = e.history; most = e.most; grows = e.grows; still = λ few. e.still (omega arith); leaves = e.leaves; faults = e.faults; broken = e.leaves_now.cut_is; ends = e.leaves_now.ends; idle = λ some. e.idle (omega arith); reaches = e.sound.reaches; within = e.sound.within })
    e.fails (omega arith)
