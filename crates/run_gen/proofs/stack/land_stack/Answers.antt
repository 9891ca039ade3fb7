use Rattle.std.proofs.Common.{[], ◌∷◌, subst}
use Rattle.byte_fields.specs.Bytes.{Id}
use Rattle.reply_model.specs.Reply.{LandDraft}
use Rattle.reply_model.specs.Opening.{nobody}
use Rattle.run_gen.specs.Answers.{Answered}
use Rattle.run_gen.specs.Outcomes.{heads_given}
use Rattle.run_gen.specs.Stacks.{main}
use Rattle.run_gen.proofs.Stacking.{seat_then}
use Rattle.run_gen.proofs.stack.land_stack.Goals as goal

pub returns-in-Ok-clause-answered : goal.returns-in-Ok-clause-answered
returns-in-Ok-clause-answered g c =
    let header = c.args.repo.now.opening.header in
    let mid = c.put_parts.new.seat in
    let heads = heads_given c.land.result in
    let land = subst (λ (x : Id). Answered header mid.number mid.front (LandDraft nobody main x 0 ∷ []) heads c.land.result c.land.new.seat.front) c.in-Ok.ensures.last c.land.ensures.answered in
    seat_then header c.args.seat.now mid c.land.new.seat.front _ _ [] heads c.in-Ok.draft c.land.result c.put_parts.ensures.seat c.in-Ok.ensures.answered land
