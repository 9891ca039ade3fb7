use Rattle.changeset_store.specs.Fork.{fork_between}
use Rattle.repo_machine.proofs.LandingSteps.{too_far, already_in, too_many}
use Rattle.repo_machine.proofs.plan.check_lengths.Goals as goal

pub returns-then-distance-gt-MOST_RANGE : goal.returns-then-distance-gt-MOST_RANGE
returns-then-distance-gt-MOST_RANGE c =
    too_far (fork_between c.args.store.now.known c.args.fork.now) c.range_length-distance.result c.range_length-distance.ensures c.if-distance-gt-MOST_RANGE.true

pub returns-then-count-eq0 : goal.returns-then-count-eq0
returns-then-count-eq0 c =
    already_in (fork_between c.args.store.now.known c.args.fork.now) c.range_length-distance.result c.range_length-distance.ensures c.if-distance-gt-MOST_RANGE.false
    c.stack_length-count.result c.stack_length-count.ensures c.if-count-eq0.true

pub returns-then-count-gt-MOST_STACK : goal.returns-then-count-gt-MOST_STACK
returns-then-count-gt-MOST_STACK c =
    too_many (fork_between c.args.store.now.known c.args.fork.now) c.range_length-distance.result c.range_length-distance.ensures c.if-distance-gt-MOST_RANGE.false
    c.stack_length-count.result c.stack_length-count.ensures c.if-count-eq0.false c.if-count-gt-MOST_STACK.true
