use Rattle.std.proofs.Common.{◌≡◌, ◌+◌}
use Rattle.shared_tests.proofs.threads.split_all.Given as goal

abbrev pub invariant-loop-first : goal.invariant-loop-first
invariant-loop-first g l = l.lead ≡ record l.initial.lead { split = l.initial.lead.split + l.first; out = l.initial.lead.out + l.first }
