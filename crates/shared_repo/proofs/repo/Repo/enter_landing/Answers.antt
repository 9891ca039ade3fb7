use Rattle.reply_model.specs.Reply.{LandDraft}
use Rattle.reply_model.specs.After.{Asks}
use Rattle.shared_repo.proofs.Turning.{later_in, told_of}
use Rattle.shared_repo.proofs.repo.Repo.enter_landing.Goals as goal

pub returns-clause-told : goal.returns-clause-told
returns-clause-told g c =
    let t = c.enter.ensures.turn in
    let ran = t.ran in
    let asked = Asks (LandDraft c.args.caller.now c.args.name.now c.args.draft c.args.moment) in
    told_of _ _ c.args.seat.now c.enter.new.seat c.enter.result t c.number-who.result c.number-who.ensures ran.shown.now ran.left.now ran.shows ran.leaves c.requires.none asked c.enter.result ran.met.0 ran.met.1.0

pub returns-clause-later : goal.returns-clause-later
returns-clause-later g c = later_in _ _ c.args.seat.now c.enter.new.seat c.enter.result c.enter.ensures.turn
