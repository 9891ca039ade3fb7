use Rattle.std.proofs.Common.{◌≡◌, refl, subst}
use Rattle.reply_model.specs.After as after_call
use Rattle.reply_model.specs.Reply.{PutContent}
use Rattle.repo_calls.specs.Calls.{call_seen}
use Rattle.repo_calls.specs.Asking.{question_seen}
use Rattle.session_model.specs.Asking.{change_response, read_response}
use Rattle.session_model.specs.Dating.{Dated}
use Rattle.session_model.specs.Responses.{text_of}
use Rattle.http_wire.specs.Seen.{seen}
use Rattle.routes.specs.Failed.{failed}
use Rattle.stacked_calls.specs.Chain.{Answering}
use Rattle.stacked_calls.specs.Stacking.{calls_seen}
use Rattle.http_front.specs.Answered.{Replied, RepliedAll}
use Rattle.http_front.specs.Dating.{DatedBy}
use Rattle.http_front.proofs.Uploads.{list_is_stack}
use Rattle.http_front.proofs.AnswerLemmas.{change_answers, content_answers, read_answers, list_answers, route_refusal_answers}
use Rattle.http_front.proofs.Dating.{dated_change, dated_read}
use Rattle.http_front.proofs.answering.answer.Goals as goal

pub returns-in-Ok-Change-PutContent-clause-answers : goal.returns-in-Ok-Change-PutContent-clause-answers
returns-in-Ok-Change-PutContent-clause-answers g c =
    let seat = g.T.Seat in
    let before = c.args.seat.now in
    let tells = g.C.Clock.tells c.args.clock.now in
    let call = after_call.Asks (PutContent c.args.request.body.items) in
    content_answers (DatedBy tells (seat.replies (seat.home before) (seat.sealed c.store.new.seat)) g.T.StackSeat.enters) _ _ _ (seen c.args.request) c.in-Ok-Change-PutContent.field-0-0-0.now _ _ (rw (c.in-Ok-Change-PutContent.field-0-is, c.in-Ok-Change-PutContent.field-0-0-is) at c.in-Ok-Change-PutContent.ensures.asks)
    (subst (λ b. Replied (Dated tells (seat.replies (seat.home before) (seat.sealed c.store.new.seat))) (seat.header before) (seat.number before) (seat.front before) call (change_response call) c.args.request.close b c.store.new.buffer (seat.front c.store.new.seat)) c.requires (dated_change tells (seat.replies (seat.home before) (seat.sealed c.store.new.seat)) _ _ _ _ _ _ _ call call refl c.store.ensures.answers))

pub returns-in-Ok-Change-clause-answers : goal.returns-in-Ok-Change-clause-answers
returns-in-Ok-Change-clause-answers g c =
    let seat = g.T.Seat in
    let before = c.args.seat.now in
    let tells = g.C.Clock.tells c.args.clock.now in
    let ask = c.in-Ok-Change.ask in
    change_answers (DatedBy tells (seat.replies (seat.home before) (seat.sealed c.change.new.seat)) g.T.StackSeat.enters) _ _ _ (seen c.args.request) ask _ _ (rw c.in-Ok-Change.field-0-is at c.in-Ok-Change.ensures.asks)
    (subst (λ b. Replied (Dated tells (seat.replies (seat.home before) (seat.sealed c.change.new.seat))) (seat.header before) (seat.number before) (seat.front before) (call_seen ask) (change_response (call_seen ask)) c.args.request.close b c.change.new.buffer (seat.front c.change.new.seat)) c.requires c.change.ensures.answers)

pub returns-in-Ok-Read-clause-answers : goal.returns-in-Ok-Read-clause-answers
returns-in-Ok-Read-clause-answers g c =
    let seat = g.T.Seat in
    let before = c.args.seat.now in
    let tells = g.C.Clock.tells c.args.clock.now in
    let question = question_seen c.in-Ok-Read.question in
    read_answers (DatedBy tells (seat.replies (seat.home before) (seat.sealed c.look.new.seat)) g.T.StackSeat.enters) _ _ _ (seen c.args.request) question _ _ (rw c.in-Ok-Read.field-0-is at c.in-Ok-Read.ensures.asks)
    (subst (λ b. Replied (Dated tells (seat.replies (seat.home before) (seat.sealed c.look.new.seat))) (seat.header before) (seat.number before) (seat.front before) (after_call.Looks question) (read_response question) c.args.request.close b c.look.new.buffer (seat.front c.look.new.seat)) c.requires (dated_read tells (seat.replies (seat.home before) (seat.sealed c.look.new.seat)) _ _ _ _ _ _ _ question c.look.ensures.answers))

pub change_all-requires : goal.change_all-requires
change_all-requires g c = list_is_stack (seen c.args.request) _ (rw c.in-Ok-List.field-0-is at c.in-Ok-List.ensures.asks)

pub returns-in-Ok-List-clause-answers : goal.returns-in-Ok-List-clause-answers
returns-in-Ok-List-clause-answers g c =
    let seat = g.T.Seat in
    let before = c.args.seat.now in
    let tells = g.C.Clock.tells c.args.clock.now in
    let calls = calls_seen c.in-Ok-List.asks.items in
    let answering : Answering = DatedBy tells (seat.replies (seat.home before) (seat.sealed c.change_all.new.seat)) g.T.StackSeat.enters in
    list_answers answering _ _ _ (seen c.args.request) calls _ _ (rw c.in-Ok-List.field-0-is at c.in-Ok-List.ensures.asks)
    (subst (λ b. RepliedAll answering (seat.header before) (seat.number before) (seat.front before) calls c.args.request.close b c.change_all.new.buffer (seat.front c.change_all.new.seat)) c.requires c.change_all.ensures.answers)

pub returns-in-Err-clause-answers : goal.returns-in-Err-clause-answers
returns-in-Err-clause-answers g c =
    route_refusal_answers (DatedBy (g.C.Clock.tells c.args.clock.now) (g.T.Seat.replies (g.T.Seat.home c.args.seat.now) (g.T.Seat.sealed c.args.seat.now)) g.T.StackSeat.enters) _ _ _ (seen c.args.request) c.in-Err.refusal _ c.in-Err.ensures.asks
    (subst (λ b. c.put_route_refusal.new.buffer ≡ text_of (failed c.in-Err.refusal) c.args.request.close b) c.requires c.put_route_refusal.ensures)
