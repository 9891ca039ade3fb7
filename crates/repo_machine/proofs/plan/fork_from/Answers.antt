use Rattle.std.proofs.Common.{sym, ap, ◌∙◌}
use Rattle.std.specs.Prelude.{option_map}
use Rattle.changeset_store.specs.Fork.{fork_between}
use Rattle.repo_machine.proofs.LandingSteps.{unknown_draft, no_root}
use Rattle.repo_machine.proofs.plan.fork_from.Goals as goal

pub returns-then-not-is_known-clause-steps : goal.returns-then-not-is_known-clause-steps
returns-then-not-is_known-clause-steps c = unknown_draft c.args.store.now.known c.args.old.now c.args.draft.now (sym c.is_known.ensures ∙ c.if-not-is_known.true)

pub returns-in-None-clause-steps : goal.returns-in-None-clause-steps
returns-in-None-clause-steps c =
    no_root c.args.store.now.known c.args.old.now c.args.draft.now (sym c.is_known.ensures ∙ c.if-not-is_known.false) (sym c.fork.ensures.fork ∙ ap (option_map (fork_between c.args.store.now.known)) c.in-None.is)
