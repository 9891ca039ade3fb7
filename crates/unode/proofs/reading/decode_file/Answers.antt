use Rattle.std.proofs.Common.{sym}
use Rattle.unode.proofs.FileMarks.{no_file}
use Rattle.unode.proofs.reading.decode_file.Goals as goal

pub returns-in_default : goal.returns-in_default
returns-in_default c = sym (no_file c.args.bytes.now c.in_default.field-0.left c.in_default.ensures)
