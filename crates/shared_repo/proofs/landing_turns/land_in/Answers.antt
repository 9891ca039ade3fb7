use Rattle.reply_model.specs.Reply.{LandDraft}
use Rattle.reply_model.specs.After.{Asks}
use Rattle.shared_repo.proofs.Landings.{refused_alone}
use Rattle.shared_repo.proofs.Turning.{still_turn}
use Rattle.shared_repo.proofs.landing_turns.land_in.Goals as goal

pub returns-in-Err-clause-reply : goal.returns-in-Err-clause-reply
returns-in-Err-clause-reply g c =
    refused_alone c.args.state.now.opening.header c.args.state.now.history c.plan_from.new.state.history c.args.who (Asks (LandDraft c.args.caller.now c.args.name.now c.args.draft c.args.moment)) c.in-Err.refusal (c.in-Err.ensures.err c.args.moment) c.plan_from.ensures.same

pub returns-in-Err-clause-turn : goal.returns-in-Err-clause-turn
returns-in-Err-clause-turn g c =
    let e = c.plan_from.ensures in
    still_turn c.args.who c.args.state.now c.plan_from.new.state e.same e.opening e.sealed e.reaches e.disk

pub returns-in_default-clause-turn : goal.returns-in_default-clause-turn
returns-in_default-clause-turn g c =
    let e = c.plan_from.ensures in
    still_turn c.args.who c.args.state.now c.plan_from.new.state e.same e.opening e.sealed e.reaches e.disk
