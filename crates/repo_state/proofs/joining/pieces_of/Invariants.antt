use Rattle.std.proofs.Common.{◌≡◌, ◌++◌, drop, map}
use Rattle.repo_state.specs.Filling.{piece_of}
use Rattle.repo_state.proofs.joining.pieces_of.Given as goal

-- the pieces so far, and those that are left
abbrev pub invariant-loop-part : goal.invariant-loop-part
invariant-loop-part l = l.pieces.items ++ map piece_of (drop l.part-index l.parts) ≡ map piece_of l.parts
