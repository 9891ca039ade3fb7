use Rattle.std.proofs.Common.{sym, ◌∙◌}
use Rattle.changeset_store.specs.Fork.{fork_between}
use Rattle.repo_machine.proofs.LandingSteps.{merge_in_stack, merge_in_range, no_merge_in}
use Rattle.repo_machine.proofs.plan.check_merges.Goals as goal

pub returns-in-Some : goal.returns-in-Some
returns-in-Some c = merge_in_stack (fork_between c.args.store.now.known c.args.fork.now) c.in-Some.id (sym c.merge_in_stack.ensures ∙ c.in-Some.is)

pub returns-in-Some-merge_in_range : goal.returns-in-Some-merge_in_range
returns-in-Some-merge_in_range c =
    merge_in_range (fork_between c.args.store.now.known c.args.fork.now) c.in-Some-merge_in_range.id (sym c.merge_in_stack.ensures ∙ c.in_default.is) (sym c.merge_in_range.ensures ∙ c.in-Some-merge_in_range.is)

pub returns-in-None : goal.returns-in-None
returns-in-None c =
    no_merge_in (fork_between c.args.store.now.known c.args.fork.now) (sym c.merge_in_stack.ensures ∙ c.in_default.is) (sym c.merge_in_range.ensures ∙ c.in-None.is)
