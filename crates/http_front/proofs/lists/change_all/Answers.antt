use Rattle.std.proofs.Common.{ap, subst, ◌∙◌}
use Rattle.stacked_calls.specs.Chain.{Answering}
use Rattle.stacked_calls.specs.Stacking.{calls_seen}
use Rattle.http_front.specs.Answered.{RepliedAll}
use Rattle.http_front.proofs.Listing.{dated_list}
use Rattle.http_front.proofs.lists.change_all.Goals as goal

pub returns-clause-answers : goal.returns-clause-answers
returns-clause-answers g c =
    let seat = g.T.Seat in
    let before = c.args.seat.now in
    let answering : Answering = record { replies = seat.replies (seat.home before) (seat.sealed c.make_all.new.seat); enters = g.T.StackSeat.enters } in
    dated_list (g.C.Clock.tells c.args.clock.now) answering (seat.header before) (seat.number before) (seat.front before) (calls_seen c.args.asks.now.items) (calls_seen c.date_last.new.asks.items) c.args.form.close c.args.form.head_only c.make_all.new.buffer (seat.front c.make_all.new.seat)
    c.requires c.date_last.ensures
    (subst (λ asks. RepliedAll answering (seat.header before) (seat.number before) (seat.front before) (calls_seen asks) c.args.form.close c.args.form.head_only c.make_all.new.buffer (seat.front c.make_all.new.seat)) c.as_slice.ensures.value c.make_all.ensures.answers)
