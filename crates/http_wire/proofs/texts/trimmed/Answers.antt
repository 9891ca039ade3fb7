use Rattle.std.proofs.Common.{reverse, ap, ◌∙◌}
use Rattle.httparse.specs.Grammar.{skip_ows, trim_ows}
use Rattle.http_wire.proofs.texts.trimmed.Goals as goal

pub returns : goal.returns
unfolding trim_ows
returns c = c.without_back_blanks.ensures ∙ ap (λ text. reverse (skip_ows (reverse text))) c.without_front_blanks.ensures
