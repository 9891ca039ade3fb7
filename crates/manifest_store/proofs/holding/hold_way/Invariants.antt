use Rattle.std.proofs.Common.{length}
use Rattle.changeset_model.specs.Path.{elements}
use Rattle.manifest_store.specs.Dirs.{left}
use Rattle.manifest_store.specs.Holding.{ByIds, AreOf, IsMore, IsHere, AreOnWay}
use Rattle.manifest_store.proofs.holding.hold_way.Given as goal

-- once the rest of the way is held, all of it is
abbrev pub invariant-loop-rest : goal.invariant-loop-rest
invariant-loop-rest l = record {
  are : AreOf l.table.nodes l.nodes;
  more : IsMore l.fn.nodes l.nodes;
  here : IsHere l.table.nodes l.nodes l.at;
  way : (last : ByIds) → IsMore l.nodes last → AreOnWay l.table.nodes last l.at (left l.rest) → AreOnWay l.table.nodes last l.root (elements l.path);
}

abbrev pub decreases-loop-rest : goal.decreases-loop-rest
decreases-loop-rest l = length (left l.rest)
