use Rattle.std.proofs.Common.{◌+◌, ◌-◌, sym, ap, ◌∙◌, Ok}
use Rattle.std.proofs.lemmas.Result.{err_from_is_err_and}
use Rattle.byte_fields.specs.Reading.{id, times}
use Rattle.byte_fields.specs.declared.field_fault.FieldFault.TheVariants.{Bad}
use Rattle.byte_fields.proofs.Run.{times_run, with_front, goes_on, fails}
use Rattle.repo_events.proofs.parts.ids_at.Goals as goal

pub returns-in_err-part : goal.returns-in_err-part
returns-in_err-part c =
    let p = err_from_is_err_and c.from_residual-in_err-part.result c.from_residual-in_err-part.ensures.1 in
    rw (p.1, p.2) (fails (times_run id) (Bad c.in_err-part.field-0.0.left) c.loop.ids.items c.args.count c.loop.counter tt c.loop.rest.now (times c.args.count id c.args.bytes.now) c.loop-test.true c.in_err-part.ensures c.loop.invariant)

pub loop-preserved : goal.loop-preserved
loop-preserved c =
    let part = c.in_ok-part.ensures ∙ ap (λ x. Ok (x, c.in_ok-part.after.now)) (sym c.from_bytes.ensures) in
    ap (λ front. with_front front (times (c.args.count - (c.loop.counter + 1)) id c.in_ok-part.after.now)) c.in_ok-push.ensures.items
    ∙ sym (goes_on (times_run id) c.loop.ids.items c.args.count c.loop.counter tt c.loop.rest.now c.in_ok-part.after.now c.from_bytes.result c.loop-test.true part)
    ∙ c.loop.invariant
