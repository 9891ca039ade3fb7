use Rattle.std.proofs.Common.{◌∙◌, false, true, refl}
use Rattle.std.specs.Result.{is_err}
use Rattle.ports.proofs.Counting.{counts_none, counts_then}
use Rattle.command_line.proofs.Pieces.{any_answer, on_err, remains_all, remains_front, remains_next, remains_none}
use Rattle.command_line.proofs.report.write_pieces.Goals as goal

pub loop-piece-init : goal.loop-piece-init
loop-piece-init g c = (remains_all c.args.pieces.now (g.L.Link.written c.args.link.now), refl, counts_none (g.L.Link.faults c.args.link.now))

pub loop-piece-preserved : goal.loop-piece-preserved
loop-piece-preserved g c = (
  remains_next c.loop-piece.piece-index c.args.pieces.now _ (g.L.Link.written c.args.link.now) (g.L.Link.written c.loop-piece.link) (g.L.Link.written c.write.new.self) c.loop-piece.invariant.0 c.loop-piece-test.true c.in_ok-write.ensures.ok,
  c.in_ok-write.ensures.input ∙ c.loop-piece.invariant.1,
  counts_then (g.L.Link.faults c.args.link.now) (g.L.Link.faults c.loop-piece.link) (g.L.Link.faults c.write.new.self) false false c.loop-piece.invariant.2 c.in_ok-write.ensures.faults,
)

pub returns-in_err-write-clause-err : goal.returns-in_err-write-clause-err
returns-in_err-write-clause-err g c = on_err c.from_residual.result
    (remains_front c.loop-piece.piece-index c.args.pieces.now _ (g.L.Link.written c.args.link.now) (g.L.Link.written c.loop-piece.link) (g.L.Link.written c.write.new.self) c.loop-piece.invariant.0 c.loop-piece-test.true c.in_err-write.ensures.err)

pub returns-in_err-write-clause-faults : goal.returns-in_err-write-clause-faults
returns-in_err-write-clause-faults g c = any_answer (g.L.Link.faults c.args.link.now) (g.L.Link.faults c.write.new.self) (is_err c.from_residual.result)
    (counts_then (g.L.Link.faults c.args.link.now) (g.L.Link.faults c.loop-piece.link) (g.L.Link.faults c.write.new.self) false true c.loop-piece.invariant.2 c.in_err-write.ensures.faults)

pub returns-clause-ok : goal.returns-clause-ok
returns-clause-ok g c = remains_none c.loop-piece.piece-index c.args.pieces.now (g.L.Link.written c.args.link.now) (g.L.Link.written c.loop-piece.link) c.loop-piece.invariant.0 c.loop-piece-test.false

pub returns-clause-faults : goal.returns-clause-faults
returns-clause-faults g c = c.loop-piece.invariant.2
