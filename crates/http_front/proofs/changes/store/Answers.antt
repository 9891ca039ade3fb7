use Rattle.std.proofs.Common.{sym, ◌∙◌}
use Rattle.reply_model.specs.After.{Asks}
use Rattle.reply_model.specs.Reply.{PutContent}
use Rattle.http_front.proofs.AnswerLemmas.{put_answers}
use Rattle.http_front.proofs.changes.store.Goals as goal

pub put_stored-requires : goal.put_stored-requires
put_stored-requires g c = (g.met.T.Seat.lawful (g.T.Seat.home c.args.seat.now) (g.T.Seat.sealed c.put_content.new.self)).fits _ _ _ _ _ _ c.in-Ok.ensures.reply

pub returns-in-Err-clause-answers : goal.returns-in-Err-clause-answers
returns-in-Err-clause-answers g c = put_answers (g.T.Seat.replies (g.T.Seat.home c.args.seat.now) (g.T.Seat.sealed c.put_content.new.self)) (g.met.T.Seat.lawful (g.T.Seat.home c.args.seat.now) (g.T.Seat.sealed c.put_content.new.self)) _ _ _ _ _ _ _ _ _ c.in-Err.ensures.reply (c.put_fault.ensures (Asks (PutContent c.args.bytes.items)))

pub returns-in-Ok-clause-answers : goal.returns-in-Ok-clause-answers
returns-in-Ok-clause-answers g c = record { answer = _; answered = c.in-Ok.ensures.reply; text = c.put_stored.ensures c.args.bytes.items (sym (c.len-size.ensures ∙ c.args.bytes.ok.0)) }
