use Rattle.std.proofs.Common.{◌∙◌, sym}
use Rattle.program_words.proofs.SessionWords.{escape_first, escape_second, escape_third, no_escape_there}
use Rattle.program_words.proofs.session_words.are_session_with_escape.Goals as goal

pub returns-then-eq : goal.returns-then-eq
returns-then-eq c = c.eq-then-eq.ensures ∙ escape_first c.args.first.now c.args.second.now c.args.third.now (sym c.eq.ensures ∙ c.if-eq.true)

pub returns-then-eq-2 : goal.returns-then-eq-2
returns-then-eq-2 c = c.eq-then-eq-2.ensures ∙ escape_second c.args.first.now c.args.second.now c.args.third.now (sym c.eq.ensures ∙ c.if-eq.false) (sym c.eq-else-eq.ensures ∙ c.if-eq-2.true)

pub returns-then-eq-3 : goal.returns-then-eq-3
returns-then-eq-3 c = c.are_session.ensures ∙ escape_third c.args.first.now c.args.second.now c.args.third.now (sym c.eq.ensures ∙ c.if-eq.false) (sym c.eq-else-eq.ensures ∙ c.if-eq-2.false) (sym c.eq-else-eq-2.ensures ∙ c.if-eq-3.true)

pub returns-else-eq-3 : goal.returns-else-eq-3
returns-else-eq-3 c = no_escape_there c.args.first.now c.args.second.now c.args.third.now (sym c.eq.ensures ∙ c.if-eq.false) (sym c.eq-else-eq.ensures ∙ c.if-eq-2.false) (sym c.eq-else-eq-2.ensures ∙ c.if-eq-3.false)
