use Rattle.http_front.proofs.Listing.{grant_fits, grant_answers, fault_answers_at}
use Rattle.http_front.proofs.lists.make_all.Goals as goal

pub returns-in-Ok-clause-answers : goal.returns-in-Ok-clause-answers
returns-in-Ok-clause-answers g c =
    grant_answers (record { replies = g.T.Seat.replies (g.T.Seat.home c.args.seat.now) (g.T.Seat.sealed c.change_all.new.self); enters = g.T.StackSeat.enters }) (g.met.T.Seat.lawful (g.T.Seat.home c.args.seat.now) (g.T.Seat.sealed c.change_all.new.self)) _ _ _ _ _ _ _
    c.args.asks.now c.in-Some.field-0-1.now c.in-Some.last.now c.in-Ok.ensures.reply.0 _ c.in-Some.ensures.cases.0 c.in-Ok.ensures.reply.1 c.put_granted.ensures

pub returns-in-Err-clause-answers : goal.returns-in-Err-clause-answers
returns-in-Err-clause-answers g c =
    fault_answers_at (record { replies = g.T.Seat.replies (g.T.Seat.home c.args.seat.now) (g.T.Seat.sealed c.change_all.new.self); enters = g.T.StackSeat.enters }) (g.met.T.Seat.lawful (g.T.Seat.home c.args.seat.now) (g.T.Seat.sealed c.change_all.new.self)) _ _ _ _ _ _ _
    _ c.in-Err.ended.at _ c.in-Err.ensures.reply c.put_fault_at.ensures

pub put_granted-requires : goal.put_granted-requires
put_granted-requires g c =
    grant_fits (record { replies = g.T.Seat.replies (g.T.Seat.home c.args.seat.now) (g.T.Seat.sealed c.change_all.new.self); enters = g.T.StackSeat.enters }) (g.met.T.Seat.lawful (g.T.Seat.home c.args.seat.now) (g.T.Seat.sealed c.change_all.new.self)) _ _ _
    c.args.asks.now c.in-Some.field-0-1.now c.in-Some.last.now c.in-Ok.ensures.reply.0 _ _ c.in-Some.ensures.cases.0 c.in-Ok.ensures.reply.1
