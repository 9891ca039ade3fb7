use Rattle.std.specs.Prelude.{length}
use Rattle.server_lanes.specs.Lanes.{TakesBack}
use Rattle.server_lanes.specs.Derivers.{HaveNone}
use Rattle.server_lanes.proofs.derivers.join_derivers.Given as goal

abbrev pub invariant-loop-deriver : goal.invariant-loop-deriver
invariant-loop-deriver g l = record {
  next : (goal.iterator-loop-deriver g).can_next l.deriver-iterator;
  ends : (goal.iterator-loop-deriver g).is_finite l.deriver-iterator;
  lead : TakesBack l.initial.lead (length l.yielded) l.lead;
  none : HaveNone l.lead l.yielded;
}
