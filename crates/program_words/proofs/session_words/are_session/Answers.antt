use Rattle.std.proofs.Common.{◌∙◌, ap, sym}
use Rattle.std.specs.Prelude.{◌&&◌}
use Rattle.program_words.specs.Words.{part_of}
use Rattle.program_words.specs.Sessions.{is_value}
use Rattle.program_words.proofs.SessionWords.{two_are}
use Rattle.program_words.proofs.session_words.are_session.Goals as goal

pub returns-then-eq : goal.returns-then-eq
returns-then-eq c =
    c.is_value.ensures ∙ ap (λ s. s && is_value (part_of c.args.file.now)) (sym (sym c.eq.ensures ∙ c.if-eq.true)) ∙ two_are c.args.name.now c.args.file.now

pub returns-else-eq : goal.returns-else-eq
returns-else-eq c =
    c.if-eq.false ∙ ap (λ s. s && is_value (part_of c.args.file.now)) (sym (sym c.eq.ensures ∙ c.if-eq.false)) ∙ two_are c.args.name.now c.args.file.now
