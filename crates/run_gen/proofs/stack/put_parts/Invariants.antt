use Rattle.std.proofs.Common.{◌≡◌, []}
use Rattle.bookmark_lock.specs.Place.{moved}
use Rattle.run_gen.specs.Stacks.{no_parts, parts_of}
use Rattle.run_gen.specs.Answers.{Answered}
use Rattle.run_gen.specs.Running.{done}
use Rattle.run_gen.proofs.stack.put_parts.Given as goal

abbrev pub invariant-loop-place : goal.invariant-loop-place
invariant-loop-place g l =
    let stack = parts_of l.client l.stack l.place (no_parts l.initial.last l.initial.draws) in
    (l.seat ≡ moved l.initial.seat l.seat)
    × (l.last ≡ stack.last)
    × (l.draws ≡ stack.state)
    × Answered l.repo.opening.header l.initial.seat.number l.initial.seat.front stack.asks [] done l.seat.front
