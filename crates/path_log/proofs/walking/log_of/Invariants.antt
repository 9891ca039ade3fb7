use Rattle.std.proofs.Common.{◌≡◌, ◌+◌, ◌*◌, ◌≤◌, ◌++◌, length}
use Rattle.std.specs.Prelude.{IfSome, IsTrue}
use Rattle.std.specs.Option.{option_map_or}
use Rattle.path_log.specs.Line.{logged}
use Rattle.path_log.proofs.Links.{logged_from}
use Rattle.path_log.proofs.walking.log_of.Given as goal

-- what is listed, and what is logged from the next one on, is what is logged
abbrev pub invariant-loop-next : goal.invariant-loop-next
invariant-loop-next g l = record {
  may : IfSome l.next (λ n. IsTrue (g.N.Lines.may_be_asked l.lines.lines.now n));
  so_far : l.log.items ++ logged_from (g.N.Lines.parent_of l.lines.lines.now) (g.N.Lines.is_logged l.lines.lines.now l.path) l.next ≡ logged (g.N.Lines.parent_of l.lines.lines.now) (g.N.Lines.is_logged l.lines.lines.now l.path) l.fn.at;
  counted : l.initial.steps ≤ l.steps;
  cost : l.steps ≤ l.initial.steps + 2 * length l.log.items;
}

abbrev pub decreases-loop-next : goal.decreases-loop-next
decreases-loop-next g l = option_map_or (λ n. n + 1) l.next 0
