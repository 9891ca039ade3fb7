use Rattle.std.specs.Prelude.{◌≡◌, false}
use Rattle.ports.specs.Faults.{Counts}
use Rattle.command_line.proofs.Pieces.{Remains}
use Rattle.command_line.proofs.report.write_pieces.Given as goal

abbrev pub invariant-loop-piece : goal.invariant-loop-piece
invariant-loop-piece g l =
    Remains l.piece-index l.pieces (g.L.Link.written l.fn.link) (g.L.Link.written l.link) × (g.L.Link.rest l.link ≡ g.L.Link.rest l.fn.link) × Counts (g.L.Link.faults l.fn.link) (g.L.Link.faults l.link) false
