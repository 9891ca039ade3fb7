use Rattle.std.proofs.Common.{◌-◌}
use Rattle.std.specs.Option.{option_copied}
use Rattle.node_parts.specs.Cutting.{IsRunOn}
use Rattle.node_parts.proofs.Runs.{Bytes}
use Rattle.node_parts.proofs.cutting.next_run.Given as goal

abbrev pub invariant-entries : goal.invariant-entries
invariant-entries g l = (part : Bytes) × IsRunOn g.E.Entry.reader l.bytes (option_copied l.fn.before) part l.entries l.last l.left

abbrev pub decreases-entries : goal.decreases-entries
decreases-entries g l = 256 - l.entries
