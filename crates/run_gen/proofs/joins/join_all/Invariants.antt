use Rattle.run_gen.specs.Joining.{TakesIn, seats_of}
use Rattle.run_gen.proofs.joins.join_all.Given as goal

abbrev pub invariant-loop-finished : goal.invariant-loop-finished
invariant-loop-finished g l =
    (goal.iterator-loop-finished g).can_next l.finished-iterator × (goal.iterator-loop-finished g).is_finite l.finished-iterator × TakesIn l.initial.lead l.lead (seats_of l.yielded)
