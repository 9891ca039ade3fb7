use Rattle.std.proofs.Common.{◌≡◌, ◌+◌}
use Rattle.std.specs.Prelude.{length}
use Rattle.run_gen.specs.Crew.{AreClients}
use Rattle.run_gen.proofs.crew.split_all.Given as goal

abbrev pub invariant-loop-number : goal.invariant-loop-number
invariant-loop-number g l =
    (l.lead ≡ record l.initial.lead { split = l.initial.lead.split + l.number; out = l.initial.lead.out + l.number })
    × (length l.all.items ≡ l.number)
    × AreClients l.initial.lead l.number l.all.items
