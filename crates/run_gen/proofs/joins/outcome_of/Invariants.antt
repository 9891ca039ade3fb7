use Rattle.std.proofs.Common.{◌≡◌}
use Rattle.std.specs.Prelude.{All, Ok, take}
use Rattle.run_gen.proofs.joins.outcome_of.Given as goal

abbrev pub invariant-loop-finished : goal.invariant-loop-finished
invariant-loop-finished l = All (λ f. f.outcome ≡ Ok tt) (take l.finished-index l.all)
