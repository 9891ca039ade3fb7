use Rattle.std.proofs.Common.{sym, ◌∙◌}
use Rattle.page_reader.proofs.Ids.{hex_is_read}
use Rattle.page_reader.proofs.parts.id_of.Goals as goal

pub returns-in-Ok-clause-found : goal.returns-in-Ok-clause-found
returns-in-Ok-clause-found c = λ x is text.
    let same = sym c.in-Ok.is ∙ c.from_hex.ensures ∙ hex_is_read c.args.text.now x is text in
    let made = c.from_bytes-id.ensures in
    cc

pub returns-in-Err-clause-found : goal.returns-in-Err-clause-found
returns-in-Err-clause-found c = λ x is text.
    let same = sym c.in-Err.is ∙ c.from_hex.ensures ∙ hex_is_read c.args.text.now x is text in
    cc
