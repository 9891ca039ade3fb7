use Rattle.std.proofs.Common.{◌≡◌, ◌+◌}
use Rattle.shared_tests.proofs.meanwhile.players.Given as goal

abbrev pub invariant-loop-part : goal.invariant-loop-part
invariant-loop-part g l = l.lead ≡ record l.initial.lead { split = l.initial.lead.split + l.part-index; out = l.initial.lead.out + l.part-index }
