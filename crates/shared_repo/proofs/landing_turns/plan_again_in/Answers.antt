use Rattle.shared_repo.proofs.Landings.{refused_plan_in}
use Rattle.shared_repo.proofs.landing_turns.plan_again_in.Goals as goal

pub returns-clause-err : goal.returns-clause-err
returns-clause-err g c =
    refused_plan_in c.args.state.now.header c.args.state.now.opening.header c.args.state.now.history c.args.plan.caller c.args.plan.name c.args.plan.draft c.plan_again.result c.history_length.ensures.header c.plan_again.ensures.err
