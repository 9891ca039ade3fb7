use Rattle.std.proofs.Common.{◌-◌, ◌≤◌, length, drop}
use Rattle.node_parts.specs.Finding.{IsPast}
use Rattle.node_parts.proofs.Halves.{IsReached}
use Rattle.node_parts.proofs.finding.part_of.Given as goal

abbrev pub invariant-halving : goal.invariant-halving
invariant-halving l = record {
  order : l.low ≤ l.high;
  within : l.high ≤ length l.parts;
  reached : IsReached l.parts l.name l.low;
  past : IsPast (drop l.high l.parts) l.name;
}

abbrev pub decreases-halving : goal.decreases-halving
decreases-halving l = l.high - l.low
