use Rattle.std.proofs.Common.{ap, sym, subst, ◌∙◌}
use Rattle.bookmark_lock.specs.Place.{Place, Site}
use Rattle.reply_model.specs.Reply.{LandDraft}
use Rattle.reply_model.specs.After.{Asks}
use Rattle.repo_calls.specs.Asking.{is_disk_fault, stored_answer}
use Rattle.shared_repo.specs.Sealed.{IsLastTurn}
use Rattle.repo_calls.specs.Sealing.{SealedAfter}
use Rattle.shared_repo.proofs.LastTurns.{turn_front, turn_later, turn_unless}
use Rattle.shared_repo.proofs.repo.Repo.land_in_one_turn.Goals as goal

pub returns-clause-sealed : goal.returns-clause-sealed
returns-clause-sealed g c =
    let header = c.args.self.now.opening.header in
    let call = Asks (LandDraft c.args.caller.now c.args.name.now c.args.draft c.args.moment) in
    let here : SealedAfter c.answer_sealed.new.seat.sealed header c.seat.inside.inner.front c.seat.inside.inner.number call (stored_answer c.answer_sealed.result) c.answer_sealed.new.seat.front =
    c.answer_sealed.ensures.sealed header c.seat.inside.inner call (sym (ap (λ (s : Place). s.number) c.enter_landing-entered.ensures.seat)) c.enter_landing-entered.ensures.entered in
    subst (λ (s : Place). SealedAfter c.answer_sealed.new.seat.sealed header s.front s.number call (stored_answer c.answer_sealed.result) c.answer_sealed.new.seat.front) c.seat.view_is here

pub returns-clause-front : goal.returns-clause-front
returns-clause-front g c = turn_front _ _ _ _ c.answer_sealed.ensures.stands

pub returns-clause-stands : goal.returns-clause-stands
returns-clause-stands g c =
    let opening = c.args.self.now.opening in
    let inner = c.seat.inside.inner in
    let mid = c.enter_landing-entered.new.seat in
    let new = c.answer_sealed.new.seat in
    let failed = is_disk_fault c.answer_sealed.result in
    let opened = ap (λ (p : Place). p.lock.opening) c.seat.view_is ∙ ap (λ (s : Site). s.opening) c.requires.place in
    let turn = turn_later opening inner mid new failed opened c.enter_landing-entered.ensures.later c.answer_sealed.ensures.stands in
    turn_unless opening c.args.seat.now new failed c.answer_sealed.result (subst (λ (p : Place). IsLastTurn opening p failed new) c.seat.view_is turn)
