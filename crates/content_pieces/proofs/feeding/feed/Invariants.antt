use Rattle.std.proofs.Common.{◌≡◌, ◌≤◌, ◌+◌, ◌-◌}
use Rattle.repo_journal.proofs.Walks.{Walked}
use Rattle.content_pieces.proofs.Blocks.{HasRead}
use Rattle.content_pieces.proofs.feeding.feed.Given as goal

abbrev pub invariant-loop-left : goal.invariant-loop-left
invariant-loop-left g l = record {
  at_is : l.at ≡ l.piece.at + (l.piece.length - l.left);
  few : l.left ≤ l.piece.length;
  walked : Walked (g.D.Disk.meaning l.initial.disk) (g.D.Disk.meaning l.disk);
  read : HasRead l.journal (g.D.Disk.meaning l.initial.disk) l.piece l.left l.own l.initial.joined l.joined;
}

abbrev pub decreases-loop-left : goal.decreases-loop-left
decreases-loop-left g l = l.left
