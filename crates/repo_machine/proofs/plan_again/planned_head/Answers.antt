use Rattle.std.proofs.Common.{ap, ◌∙◌}
use Rattle.history_model.specs.Pushrebase.{fork}
use Rattle.repo_machine.specs.Plans.{PlannedLanding}
use Rattle.repo_machine.proofs.Renewed.{other_root}
use Rattle.repo_machine.proofs.plan_again.planned_head.Goals as goal

pub returns-then-planned-fork-clause-goes_on : goal.returns-then-planned-fork-clause-goes_on
returns-then-planned-fork-clause-goes_on c =
    other_root c.args.store.now.known c.args.plan.now c.args.fork.now c.requires.of_draft c.requires.forks c.in_ok-planned.planned
    (c.in_ok-planned.ensures.fork ∙ ap (λ (p : PlannedLanding). fork c.args.store.now.known p.old p.draft) c.plan.view_is) c.in_ok-planned.ensures.of_root c.requires.of_root c.if-planned-fork.true
