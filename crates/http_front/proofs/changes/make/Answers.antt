use Rattle.http_front.proofs.AnswerLemmas.{put_answers}
use Rattle.http_front.proofs.changes.make.Goals as goal

pub put_granted-requires : goal.put_granted-requires
put_granted-requires g c = (g.met.T.Seat.lawful (g.T.Seat.home c.args.seat.now) (g.T.Seat.sealed c.change.new.self)).fits _ _ _ _ _ _ c.in-Ok.ensures.reply

pub returns-in-Err-clause-answers : goal.returns-in-Err-clause-answers
returns-in-Err-clause-answers g c = put_answers (g.T.Seat.replies (g.T.Seat.home c.args.seat.now) (g.T.Seat.sealed c.change.new.self)) (g.met.T.Seat.lawful (g.T.Seat.home c.args.seat.now) (g.T.Seat.sealed c.change.new.self)) _ _ _ _ _ _ _ _ _ c.in-Err.ensures.reply (c.put_fault.ensures _)
