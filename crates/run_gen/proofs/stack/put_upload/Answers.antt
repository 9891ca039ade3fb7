use Rattle.std.proofs.Common.{[], ◌∷◌, ℕ, List, refl, subst}
use Rattle.reply_model.specs.Reply.{PutChangeset}
use Rattle.run_gen.specs.Answers.{Answered}
use Rattle.run_gen.proofs.Stacking.{seat_then}
use Rattle.run_gen.proofs.stack.put_upload.Goals as goal

pub put-requires-clause-upload : goal.put-requires-clause-upload
put-requires-clause-upload g c = (PutChangeset c.as_slice.result.now, refl, refl)

pub returns-in-Ok-clause-answered : goal.returns-in-Ok-clause-answered
returns-in-Ok-clause-answered g c =
    let mid = c.put_content.new.seat in
    let put = subst (λ (bytes : List ℕ). Answered c.args.repo.now.opening.header mid.number mid.front (PutChangeset bytes ∷ []) [] c.put.result c.put.new.seat.front) c.as_slice.ensures.value (c.put.ensures.answered (PutChangeset c.as_slice.result.now) refl) in
    seat_then _ c.args.seat.now mid _ _ _ _ _ tt c.put.result c.put_content.ensures.seat c.in-Ok.ensures.answered put
