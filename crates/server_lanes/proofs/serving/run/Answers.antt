use Rattle.std.specs.Prelude.{All}
use Rattle.std.proofs.Common.{◌+◌, ◌≤◌, subst, sym, ℕ}
use Rattle.history_model.specs.History.{Entry}
use Rattle.server_lanes.specs.Derivers.{AreUnused}
use Rattle.server_lanes.specs.Serving.{Gave, IsThrough}
use Rattle.server_lanes.proofs.Idle.{of_lanes}
use Rattle.server_lanes.proofs.serving.run.Goals as goal

pub returns-in-Ok-clause-numbers : goal.returns-in-Ok-clause-numbers
returns-in-Ok-clause-numbers g c = λ began.
    let lead = c.serve_on-accept.new.lead in
    let most = subst (λ (n : ℕ). All (λ (e : Entry). e.who ≤ n) c.close.result.history) c.serve_on-accept.ensures.lead.split c.close.ensures.recorded in
    of_lanes c.args.lanes c.args.derivers c.close.result.history most (subst (AreUnused (c.args.lanes + 1) c.args.derivers) (sym c.close.ensures.history) c.serve_on-accept.ensures.unused)

pub returns-in-Ok-clause-served : goal.returns-in-Ok-clause-served
returns-in-Ok-clause-served g c =
    let done = c.serve_on-accept in
    subst (λ (n : ℕ). Gave done.result.1.count n (g.A.Accept.given done.result.0)) (sym c.requires.given) done.ensures.gave

pub returns-in-Ok-clause-through : goal.returns-in-Ok-clause-through
returns-in-Ok-clause-through g c = λ began.
    let done = c.serve_on-accept in
    let over = g.A.Accept.over done.result.0 in
    let after = g.A.Accept.faults done.result.0 in
    subst (λ (m : ℕ). IsThrough done.result.1.count m over (g.A.Accept.faults c.args.accept) after) (sym c.requires.connections)
    (subst (λ (f : ℕ). IsThrough done.result.1.count g.K.Run.connections over f after) (sym c.requires.faults) done.ensures.through)
