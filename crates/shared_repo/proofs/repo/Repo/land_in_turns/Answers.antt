use Rattle.std.proofs.Common.{ℕ, ap, refl, subst, ◌∙◌, arith}
use Rattle.bookmark_lock.specs.Place.{Place, Site}
use Rattle.reply_model.specs.Reply.{LandDraft}
use Rattle.reply_model.specs.After.{Asks, SeesMore}
use Rattle.repo_calls.specs.Asking.{is_disk_fault, stored_answer}
use Rattle.shared_repo.proofs.Fronts.{made_before, sees_nothing, sees_twice}
use Rattle.shared_repo.proofs.Sealings.{plan_refused, sealed_later}
use Rattle.shared_repo.proofs.Turning.{moved_twice}
use Rattle.shared_repo.proofs.Laters.{later_then}
use Rattle.shared_repo.proofs.LastTurns.{unless_later}
use Rattle.shared_repo.proofs.repo.Repo.land_in_turns.Goals as goal

pub returns-in-Err-clause-sealed : goal.returns-in-Err-clause-sealed
returns-in-Err-clause-sealed g c =
    let told = c.loop-attempt.invariant in
    plan_refused c.args.self.now.opening.header c.args.seat.now.front c.loop-attempt.seat.front c.plan.new.seat.front c.args.seat.now.number c.loop-attempt.seat.number (Asks (LandDraft c.args.caller.now c.args.name.now c.args.draft c.args.moment))
    c.in-Err.refusal c.plan.new.seat.sealed told.3 (ap (λ (p : Place). p.number) told.0) c.in-Err.ensures.more (c.in-Err.ensures.err c.args.moment)

pub returns-in-Some-clause-sealed : goal.returns-in-Some-clause-sealed
returns-in-Some-clause-sealed g c =
    let told = c.loop-attempt.invariant in
    let is = c.in-Ok.ensures.ok in
    sealed_later c.args.self.now.opening.header c.args.seat.now.front c.loop-attempt.seat.front c.plan.new.seat.front c.attempt.new.seat.front c.args.seat.now.number c.loop-attempt.seat.number c.plan.new.seat.number
    (Asks (LandDraft c.args.caller.now c.args.name.now c.args.draft c.args.moment)) (Asks (LandDraft c.in-Ok.plan.caller c.in-Ok.plan.name c.in-Ok.plan.draft c.args.moment)) (stored_answer c.in-Some.answer) c.attempt.new.seat.sealed told.3 (ap (λ (p : Place). p.number) told.0) c.in-Ok.ensures.more
    (ap (λ (p : Place). p.number) c.plan.ensures.seat) (λ i. Asks (LandDraft (is.callers i) (is.names i) (is.drafts i) c.args.moment)) c.in-Some.ensures.sealed

pub returns-clause-sealed : goal.returns-clause-sealed
returns-clause-sealed g c =
    let told = c.loop-attempt.invariant in
    let seat = c.loop-attempt.seat in
    sealed_later c.args.self.now.opening.header c.args.seat.now.front seat.front seat.front c.land_in_one_turn.new.seat.front c.args.seat.now.number seat.number seat.number
    (Asks (LandDraft c.args.caller.now c.args.name.now c.args.draft c.args.moment)) (Asks (LandDraft c.args.caller.now c.args.name.now c.args.draft c.args.moment)) (stored_answer c.land_in_one_turn.result) c.land_in_one_turn.new.seat.sealed told.3 (ap (λ (p : Place). p.number) told.0) (sees_nothing seat.front seat.number)
    refl refl c.land_in_one_turn.ensures.sealed

pub returns-in-Some-clause-stands : goal.returns-in-Some-clause-stands
returns-in-Some-clause-stands g c =
    let told = c.loop-attempt.invariant in
    unless_later c.args.self.now.opening c.args.seat.now c.plan.new.seat c.attempt.new.seat (is_disk_fault c.in-Some.answer) c.in-Some.answer
    (ap (λ (s : Site). s.opening) c.requires.place) (later_then c.args.seat.now c.loop-attempt.seat c.plan.new.seat told.2 c.plan.ensures.later) c.in-Some.ensures.stands

pub returns-clause-stands : goal.returns-clause-stands
returns-clause-stands g c =
    let told = c.loop-attempt.invariant in
    unless_later c.args.self.now.opening c.args.seat.now c.loop-attempt.seat c.land_in_one_turn.new.seat (is_disk_fault c.land_in_one_turn.result) c.land_in_one_turn.result
    (ap (λ (s : Site). s.opening) c.requires.place) told.2 c.land_in_one_turn.ensures.stands

pub loop-attempt-preserved : goal.loop-attempt-preserved
loop-attempt-preserved g c =
    let told = c.loop-attempt.invariant in
    let first = c.args.seat.now in
    let mid = c.loop-attempt.seat in
    let planned = c.plan.new.seat in
    let now = c.attempt.new.seat in
    let at_plan = moved_twice first mid planned told.0 c.plan.ensures.seat in
    let others = c.in_default.ensures.sealed in
    let one = told.1 in
    let two = c.plan.ensures.seals in
    let three = c.attempt.ensures.seals in (
      moved_twice first planned now at_plan c.attempt.ensures.seat,
      omega arith,
      later_then first planned now (later_then first mid planned told.2 c.plan.ensures.later) c.in_default.ensures.later,
      sees_twice first.front planned.front now.front first.number
          (sees_twice first.front mid.front planned.front first.number told.3 (subst (λ (n : ℕ). SeesMore mid.front n planned.front) (ap (λ (p : Place). p.number) told.0) c.in-Ok.ensures.more))
          (subst (λ (n : ℕ). SeesMore planned.front n now.front) (ap (λ (p : Place). p.number) at_plan) others),
      made_before planned.front now.front planned.number c.args.caller.now c.args.name.now c.args.draft c.in-Ok.plan c.in-Ok.ensures.ok others,
    )
