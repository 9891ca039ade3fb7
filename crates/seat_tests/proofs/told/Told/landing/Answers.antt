use Rattle.std.proofs.Common.{[], None, Some, ap, sym}
use Rattle.history_model.specs.History.{Land, unnumbered}
use Rattle.reply_model.specs.Log.{LandingLine}
use Rattle.seat_tests.proofs.told.Told.landing.Goals as goal

-- a landing of no changeset
pub returns-in-Ok : goal.returns-in-Ok
returns-in-Ok c = (
  unnumbered (Land (record { name = c.in-Ok.name; old = c.args.self.now.other; draft = c.args.self.now.known; new = []; moment = c.args.moment; caller = None })),
  ap (λ ids. Some (LandingLine None c.in-Ok.name c.args.self.now.other c.args.self.now.known c.args.moment ids)) (sym c.new.ensures.items),
)
