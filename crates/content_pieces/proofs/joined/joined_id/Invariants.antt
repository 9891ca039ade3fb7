use Rattle.std.proofs.Common.{ℕ, List, take}
use Rattle.repo_journal.proofs.Walks.{Walked}
use Rattle.object_id.specs.Hashing.{HasFed}
use Rattle.content_pieces.specs.Joining.{AreJoined}
use Rattle.content_pieces.proofs.joined.joined_id.Given as goal

abbrev pub invariant-loop-piece : goal.invariant-loop-piece
invariant-loop-piece g l = record {
  walked : Walked (g.D.Disk.meaning l.initial.disk) (g.D.Disk.meaning l.disk);
  joined : (joined : List ℕ) × AreJoined l.journal (g.D.Disk.meaning l.initial.disk) (take l.piece-index l.pieces) joined × HasFed l.joined joined;
}
