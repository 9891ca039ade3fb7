use Rattle.std.proofs.Common.{sym, ◌∙◌}
use Rattle.std.proofs.lemmas.Bool.{ne_eqb}
use Rattle.http_wire.proofs.HeadOutcomeLemmas.{no_line_no_head}
use Rattle.http_wire.proofs.cutting.ends_head_at.Goals as goal

pub returns-else-bytes-at-eq10 : goal.returns-else-bytes-at-eq10
returns-else-bytes-at-eq10 c = ne_eqb _ 10 c.if-bytes-at-eq10.false ∙ sym (no_line_no_head c.args.bytes.now c.args.at c.requires c.if-bytes-at-eq10.false)
