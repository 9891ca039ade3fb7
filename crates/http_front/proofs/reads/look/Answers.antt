use Rattle.std.proofs.Common.{arith}
use Rattle.http_front.proofs.AnswerLemmas.{seen_suits, seen_answers, fault_answers}
use Rattle.http_front.proofs.Widening.{replied_wider}
use Rattle.http_front.proofs.reads.look.Goals as goal

pub put_seen-requires : goal.put_seen-requires
put_seen-requires g c =
    let reply = c.in-Ok.ensures.reply in
    seen_suits (g.T.Seat.replies (g.T.Seat.home c.args.seat.now) 0) (g.met.T.Seat.lawful (g.T.Seat.home c.args.seat.now) 0) _ _ _ _ c.args.question.now c.in-Ok.seen reply.0 reply.1 reply.2

pub returns-in-Ok-clause-answers : goal.returns-in-Ok-clause-answers
returns-in-Ok-clause-answers g c =
    let reply = c.in-Ok.ensures.reply in
    let home = g.T.Seat.home c.args.seat.now in
    replied_wider (g.T.Seat.replies home 0) (g.T.Seat.replies home (g.T.Seat.sealed c.look.new.self)) (g.met.T.Seat.widens home 0 (g.T.Seat.sealed c.look.new.self) (omega arith)) _ _ _ _ _ _ _ _ _
    (seen_answers (g.T.Seat.replies home 0) (g.met.T.Seat.lawful home 0) _ _ _ _ c.args.question.now c.in-Ok.seen reply.0 _ _ _ reply.1 reply.2 c.put_seen.ensures)

pub returns-in-Err-clause-answers : goal.returns-in-Err-clause-answers
returns-in-Err-clause-answers g c =
    let reply = c.in-Err.ensures.reply in
    let home = g.T.Seat.home c.args.seat.now in
    replied_wider (g.T.Seat.replies home 0) (g.T.Seat.replies home (g.T.Seat.sealed c.look.new.self)) (g.met.T.Seat.widens home 0 (g.T.Seat.sealed c.look.new.self) (omega arith)) _ _ _ _ _ _ _ _ _
    (fault_answers (g.T.Seat.replies home 0) _ _ _ c.args.question.now c.in-Err.fault reply.0 _ _ _ _ reply.1 reply.2 c.put_fault.ensures)
