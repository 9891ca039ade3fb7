use Rattle.std.proofs.Common.{◌≡◌, map, drop, ◌++◌}
use Rattle.recovery.specs.Joining.{piece_of}
use Rattle.recovery.proofs.pieces.pieces_of.Given as goal

-- the pieces so far, and those that are left
abbrev pub invariant-loop-part : goal.invariant-loop-part
invariant-loop-part l = l.pieces.items ++ map piece_of (drop l.part-index l.parts) ≡ map piece_of l.parts
