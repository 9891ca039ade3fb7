use Rattle.std.proofs.Common.{◌≡◌, ◌+◌, drop, length, sum_by, take}
use Rattle.repo_journal.proofs.Walks.{Walked}
use Rattle.repo_state.specs.Filling.{AreFilled, part_len}
use Rattle.repo_state.proofs.fill.fill_parts.Given as goal

abbrev pub invariant-loop-part : goal.invariant-loop-part
invariant-loop-part g l = record {
  walked : Walked (g.D.Disk.meaning l.initial.disk) (g.D.Disk.meaning l.disk);
  left : l.done + sum_by part_len (drop l.part-index l.parts) ≡ length l.buffer;
  filled : AreFilled l.journal (g.D.Disk.meaning l.initial.disk) (take l.part-index l.parts) (take l.done l.buffer);
}
