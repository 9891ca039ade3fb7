use Rattle.std.proofs.Common.{◌∙◌}
use Rattle.byte_fields.proofs.TextLemmas.{is_ok-is_utf8}
use Rattle.byte_fields.proofs.texts.is_text.Goals as goal

pub returns : goal.returns
returns c = c.is_ok.ensures.value ∙ is_ok-is_utf8 _ _ c.args.bytes.now c.from_utf8.result c.from_utf8.ensures.cases
