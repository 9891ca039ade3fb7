use Rattle.shared_repo.proofs.Turning.{later_in, told_of}
use Rattle.shared_repo.proofs.repo.Repo.enter_change.Goals as goal

pub returns-clause-told : goal.returns-clause-told
returns-clause-told g c =
    let t = c.enter.ensures.turn in
    let ran = t.ran in
    told_of _ _ c.args.seat.now c.enter.new.seat c.enter.result t c.number-who.result c.number-who.ensures ran.shown.now ran.left.now ran.shows ran.leaves c.requires.none (g.C.TurnChange.asked c.args.change) c.enter.result ran.met.0 ran.met.1.0

pub returns-clause-later : goal.returns-clause-later
returns-clause-later g c = later_in _ _ c.args.seat.now c.enter.new.seat c.enter.result c.enter.ensures.turn
