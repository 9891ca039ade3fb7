use Rattle.std.proofs.Common.{◌≤◌, length}
use Rattle.shared_repo.proofs.contents.look_all.Given as goal

abbrev pub invariant-loop-part : goal.invariant-loop-part
invariant-loop-part g l = l.done ≤ length l.buffer
