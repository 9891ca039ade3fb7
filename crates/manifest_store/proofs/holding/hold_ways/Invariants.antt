use Rattle.std.proofs.Common.{drop}
use Rattle.std.specs.List.{AllByRecursion}
use Rattle.manifest_store.specs.Holding.{ByIds, AreOf, IsMore, IsHere, AreOnWay}
use Rattle.manifest_store.proofs.holding.hold_ways.Given as goal

-- once the ways that are left are held, all are
abbrev pub invariant-loop-path : goal.invariant-loop-path
invariant-loop-path l = record {
  are : AreOf l.table.nodes l.nodes;
  more : IsMore l.fn.nodes l.nodes;
  root : IsHere l.table.nodes l.nodes l.root;
  ways : (last : ByIds) → IsMore l.nodes last → AllByRecursion (AreOnWay l.table.nodes last l.root) (drop l.path-index l.paths) → AllByRecursion (AreOnWay l.table.nodes last l.root) l.paths;
}
