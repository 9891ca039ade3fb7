use Rattle.std.proofs.Common.{◌≡◌, ◌+◌}
use Rattle.load_tests.proofs.in_turn.land_in_turn.Given as goal

abbrev pub invariant-loop-number : goal.invariant-loop-number
invariant-loop-number g l = l.lead ≡ record l.initial.lead { split = l.initial.lead.split + l.number; out = l.initial.lead.out + l.number }
