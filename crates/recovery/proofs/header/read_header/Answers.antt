use Rattle.std.proofs.Common.{◌≤◌, length, arith}
use Rattle.recovery.proofs.FirstBytes.{headed, on_ok}
use Rattle.recovery.proofs.header.read_header.Goals as goal

pub returns-clause-headed : goal.returns-clause-headed
returns-clause-headed g c = λ honest whole.
    (let m = g.D.Disk.meaning c.args.disk.now in
    let long : 17 ≤ length m.state.reads = omega arith in
    headed m.state.reads c.read_at.new.buf c.header_of.result long (on_ok c.read_at.result c.if-is_err.ensures.value c.read_at.ensures.bytes m.state.reads ((g.met.D.Disk.sound c.args.disk.now).reads honest)) c.header_of.ensures)
