use Rattle.std.proofs.Common.{ℕ, ◌+◌, [], ◌∷◌, Ok, Err, refl, ap, sym, subst, ◌∙◌}
use Rattle.byte_fields.specs.Bytes.{Id}
use Rattle.sha2.specs.Sha256.{sha256}
use Rattle.bookmark_lock.specs.Place.{Place, moved}
use Rattle.run_gen.specs.Stacks.{stack_of}
use Rattle.run_gen.specs.Answers.{Answered}
use Rattle.run_gen.specs.Running.{IsAt}
use Rattle.run_gen.proofs.Runs.{begins, goes_on, stops}
use Rattle.run_gen.proofs.Stacking.{same_number}
use Rattle.run_gen.proofs.clients.land_all.Goals as goal

pub loop-stack-init : goal.loop-stack-init
loop-stack-init g c =
    let header = c.args.repo.now.opening.header in
    let seat = c.args.seat.now in
    let parent = c.of-parent.ensures ∙ ap sha256 c.base_encoding.ensures in (
      refl,
      subst (λ (t : Id × ℕ). IsAt header seat.number seat.front c.args.number c.args.seed 0 t.0 t.1 seat.front) (λ i. (sym parent i, sym c.new-draws.ensures i)) (begins header seat.number seat.front c.args.number c.args.seed),
    )

pub loop-stack-preserved : goal.loop-stack-preserved
loop-stack-preserved g c =
    let header = c.args.repo.now.opening.header in
    let seat = c.args.seat.now in
    let mid = c.loop-stack.seat in
    let inv = c.loop-stack.invariant in
    let to = c.land_stack.new.seat.front in
    let asks = (stack_of c.args.number c.loop-stack.stack c.loop-stack.parent c.loop-stack.draws).asks in
    let told = subst (λ n. Answered header n mid.front asks (c.in-Ok.head ∷ []) (Ok c.in-Ok.head) to) (same_number seat mid inv.0) c.in-Ok.ensures.answered in
    let at = goes_on header seat.number seat.front c.args.number c.args.seed c.loop-stack.stack c.loop-stack.parent c.loop-stack.draws mid.front to inv.1 c.in-Ok.head told in (
      c.land_stack.ensures.seat ∙ ap (λ (p : Place). moved p c.land_stack.new.seat) inv.0,
      subst (λ s. IsAt header seat.number seat.front c.args.number c.args.seed (c.loop-stack.stack + 1) c.in-Ok.head s to) (sym c.in-Ok.ensures.state) at,
    )

pub returns-in-Err-clause-ran : goal.returns-in-Err-clause-ran
returns-in-Err-clause-ran g c =
    let header = c.args.repo.now.opening.header in
    let seat = c.args.seat.now in
    let mid = c.loop-stack.seat in
    let inv = c.loop-stack.invariant in
    let to = c.land_stack.new.seat.front in
    let asks = (stack_of c.args.number c.loop-stack.stack c.loop-stack.parent c.loop-stack.draws).asks in
    let told = subst (λ n. Answered {X = Id} header n mid.front asks [] (Err c.in-Err.fault) to) (same_number seat mid inv.0) c.in-Err.ensures.answered in
    stops header seat.number seat.front c.args.number c.args.seed c.loop-stack.stack c.loop-stack.parent c.loop-stack.draws mid.front to inv.1 c.args.stacks c.loop-stack-test.true c.in-Err.fault told
