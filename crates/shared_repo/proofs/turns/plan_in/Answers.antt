use Rattle.shared_repo.proofs.Landings.{refused_plan_in}
use Rattle.shared_repo.proofs.turns.plan_in.Goals as goal

pub returns-clause-err : goal.returns-clause-err
returns-clause-err g c =
    refused_plan_in c.args.state.now.header c.args.state.now.opening.header c.args.state.now.history c.args.caller.now c.args.name.now c.args.draft c.plan.result c.history_length.ensures.header c.plan.ensures.err
