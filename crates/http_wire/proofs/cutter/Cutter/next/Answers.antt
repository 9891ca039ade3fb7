use Rattle.std.proofs.Common.{ap, ◌∙◌, sym}
use Rattle.http_model.specs.Stream.{skip_blank}
use Rattle.http_model.proofs.Blank.{skip_skip}
use Rattle.http_wire.proofs.cutter.Cutter.next.Goals as goal

pub take_next-requires : goal.take_next-requires
take_next-requires c = ap skip_blank c.skip_empty_lines.ensures ∙ skip_skip c.args.self.now ∙ sym c.skip_empty_lines.ensures
