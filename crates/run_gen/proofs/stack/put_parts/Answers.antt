use Rattle.std.proofs.Common.{ℕ, ◌+◌, [], Err, ap, subst, ◌∙◌}
use Rattle.byte_fields.specs.Bytes.{Id}
use Rattle.bookmark_lock.specs.Place.{Place, moved}
use Rattle.run_gen.specs.Stacks.{no_parts, parts_of}
use Rattle.run_gen.specs.Answers.{Answered}
use Rattle.run_gen.proofs.Stacking.{last_put, part_put, part_stopped, state_put}
use Rattle.run_gen.proofs.stack.put_parts.Goals as goal

pub loop-place-preserved : goal.loop-place-preserved
loop-place-preserved g c =
    let header = c.args.repo.now.opening.header in
    let seat = c.args.seat.now in
    let mid = c.loop-place.seat in
    let stack = no_parts c.args.parent c.below-length.new.self in
    let inv = c.loop-place.invariant in
    let to = c.put_part.new.seat.front in (
      c.put_part.ensures.seat ∙ ap (λ (p : Place). moved p c.put_part.new.seat) inv.0,
      last_put header seat mid c.args.client c.args.stack c.loop-place.place stack c.loop-place.last c.loop-place.draws inv.0 inv.1 inv.2 inv.3 to c.in-Ok.id c.in-Ok.ensures.id,
      state_put header seat mid c.args.client c.args.stack c.loop-place.place stack c.loop-place.last c.loop-place.draws inv.0 inv.1 inv.2 inv.3 to c.put_part.new.draws c.in-Ok.ensures.state,
      part_put header seat mid c.args.client c.args.stack c.loop-place.place stack c.loop-place.last c.loop-place.draws inv.0 inv.1 inv.2 inv.3 to c.in-Ok.id c.in-Ok.ensures.answered,
    )

pub returns-in-Err-clause-answered : goal.returns-in-Err-clause-answered
returns-in-Err-clause-answered g c =
    let header = c.args.repo.now.opening.header in
    let seat = c.args.seat.now in
    let mid = c.loop-place.seat in
    let stack = no_parts c.args.parent c.below-length.new.self in
    let inv = c.loop-place.invariant in
    let to = c.put_part.new.seat.front in
    let told = part_stopped header seat mid c.args.client c.args.stack c.loop-place.place stack c.loop-place.last c.loop-place.draws inv.0 inv.1 inv.2 inv.3 to (c.below-length.result + 1) c.in-Err.fault c.loop-place-test.true
    c.in-Err.ensures.answered in
    subst (λ (t : ℕ × ℕ). Answered {X = Id} header seat.number seat.front (parts_of c.args.client c.args.stack (t.0 + 1) (no_parts c.args.parent t.1)).asks [] (Err c.in-Err.fault) to)
    (λ i. (c.below-length.ensures.value i, c.below-length.ensures.state i)) told
