use Rattle.std.proofs.Common.{◌≡◌, ◌+◌}
use Rattle.std.specs.Prelude.{IfSome, IsTrue}
use Rattle.std.specs.Option.{option_and_then, option_map_or}
use Rattle.path_log.specs.Line.{last_logged}
use Rattle.path_log.proofs.members.last_by_members.Given as goal

-- the last that is logged from the next one on is the last of all
abbrev pub invariant-loop-next : goal.invariant-loop-next
invariant-loop-next g l = record {
  may : IfSome l.next (λ n. IsTrue (g.M.Members.may_be_asked l.members n));
  so_far : option_and_then (last_logged (g.M.Members.parent_of l.members) (g.M.Members.is_logged l.members l.path)) l.next ≡ last_logged (g.M.Members.parent_of l.members) (g.M.Members.is_logged l.members l.path) l.fn.at;
}

abbrev pub decreases-loop-next : goal.decreases-loop-next
decreases-loop-next g l = option_map_or (λ n. n + 1) l.next 0
