use Rattle.std.proofs.Common.{sym, ap, subst, ◌∙◌}
use Rattle.bookmark_lock.specs.Place.{Place, Site}
use Rattle.reply_model.specs.Reply.{LandDraft}
use Rattle.reply_model.specs.After.{Asks, Call}
use Rattle.repo_calls.specs.Asking.{is_disk_fault, stored_answer}
use Rattle.shared_repo.specs.Sealed.{IsLastTurn}
use Rattle.repo_calls.specs.Sealing.{SealedAfter}
use Rattle.shared_repo.proofs.Fronts.{asked_for}
use Rattle.shared_repo.proofs.LastTurns.{turn_front, turn_later, turn_unless}
use Rattle.shared_repo.proofs.repo.Repo.attempt.Goals as goal

pub returns-clause-sealed : goal.returns-clause-sealed
returns-clause-sealed g c =
    let header = c.args.self.now.opening.header in
    let seat = c.args.seat.now in
    let plan = c.args.plan.now in
    let new = c.answer_sealed.new.seat in
    let answer = stored_answer c.answer_sealed.result in
    let inner = c.seat.inside.inner in
    let asked = Asks (LandDraft c.in-Ok.rebased.caller c.in-Ok.rebased.name c.in-Ok.rebased.draft c.in-Ok.rebased.asked) in
    let sealed = c.answer_sealed.ensures.sealed header inner asked (sym (ap (λ (p : Place). p.number) c.exchange.ensures.seat)) c.in_ok-entered.ensures.entered in
    subst (λ (call : Call). SealedAfter new.sealed header seat.front seat.number call answer new.front) (asked_for seat.front plan.caller plan.name plan.draft plan c.in-Ok.rebased c.args.moment c.requires.planned c.in-Ok.ensures)
    (subst (λ (p : Place). SealedAfter new.sealed header p.front p.number asked answer new.front) c.seat.view_is sealed)

pub returns-clause-front : goal.returns-clause-front
returns-clause-front g c = turn_front _ _ _ _ c.answer_sealed.ensures.stands

pub returns-clause-stands : goal.returns-clause-stands
returns-clause-stands g c =
    let opening = c.args.self.now.opening in
    let inner = c.seat.inside.inner in
    let mid = c.exchange.new.seat in
    let new = c.answer_sealed.new.seat in
    let failed = is_disk_fault c.answer_sealed.result in
    let opened = ap (λ (p : Place). p.lock.opening) c.seat.view_is ∙ ap (λ (s : Site). s.opening) c.requires.place in
    let turn = turn_later opening inner mid new failed opened c.exchange.ensures.later c.answer_sealed.ensures.stands in
    turn_unless opening c.args.seat.now new failed c.answer_sealed.result (subst (λ (p : Place). IsLastTurn opening p failed new) c.seat.view_is turn)
