use Rattle.std.proofs.Common.{ℕ, [], ◌∷◌, List, refl, subst}
use Rattle.reply_model.specs.Reply.{LandDraft}
use Rattle.run_gen.specs.Answers.{Answered}
use Rattle.run_gen.specs.Outcomes.{heads_left}
use Rattle.run_gen.proofs.Joined.{same_answered}
use Rattle.run_gen.proofs.asking.land.Goals as goal

pub ask-answer-requires-clause-asks : goal.ask-answer-requires-clause-asks
ask-answer-requires-clause-asks g c = (LandDraft c.args.names.now.caller c.args.names.now.main c.args.draft 0, refl)

pub left_by-requires : goal.left_by-requires
left_by-requires g c = c.ask-answer.ensures.fits (LandDraft c.args.names.now.caller c.args.names.now.main c.args.draft 0) refl

pub returns-clause-answered : goal.returns-clause-answered
returns-clause-answered g c =
    let header = c.args.repo.now.opening.header in
    let seat = c.args.seat.now in
    let to = c.ask-answer.new.seat.front in
    let names = c.args.names.now in
    let said = c.ask-answer.ensures.answered (LandDraft names.caller names.main c.args.draft 0) refl in
    let told = subst (λ (t : List ℕ × List ℕ). Answered header seat.number seat.front (LandDraft t.0 t.1 c.args.draft 0 ∷ []) (heads_left c.ask-answer.result) c.ask-answer.result to) (λ i. (c.requires.names.1 i, c.requires.names.0 i)) said in
    same_answered _ _ _ _ _ _ _ c.ask-answer.result c.left_by.result c.left_by.ensures.same c.left_by.ensures.heads told
