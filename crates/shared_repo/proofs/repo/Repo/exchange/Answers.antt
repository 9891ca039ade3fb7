use Rattle.reply_model.specs.Reply.{LandDraft}
use Rattle.reply_model.specs.After.{Asks}
use Rattle.shared_repo.proofs.Turning.{later_in, told_maybe}
use Rattle.shared_repo.proofs.repo.Repo.exchange.Goals as goal

pub returns-clause-told : goal.returns-clause-told
returns-clause-told g c =
    let t = c.enter.ensures.turn in
    let ran = t.ran in
    let asked = Asks (LandDraft c.args.rebased.caller c.args.rebased.name c.args.rebased.draft c.args.rebased.asked) in
    told_maybe _ _ c.args.seat.now c.enter.new.seat c.enter.result t c.number-who.result c.number-who.ensures ran.shown.now ran.left.now ran.shows ran.leaves c.requires.none asked c.enter.result ran.met.0 ran.met.1.0

pub returns-clause-later : goal.returns-clause-later
returns-clause-later g c = later_in _ _ c.args.seat.now c.enter.new.seat c.enter.result c.enter.ensures.turn
