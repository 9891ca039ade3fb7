use Rattle.std.proofs.Common.{◌≡◌, ◌≤◌, length}
use Rattle.bonsai.specs.View.{edits_view}
use Rattle.derive_step.specs.Slices.{past}
use Rattle.derive_step.proofs.slices.edits_past.Given as goal

-- what is left ends as all do
abbrev pub invariant-passing : goal.invariant-passing
invariant-passing l = record {
  left : past l.dir (edits_view l.left) ≡ past l.dir (edits_view l.edits);
  fewer : length l.left ≤ length l.edits;
}

abbrev pub decreases-passing : goal.decreases-passing
decreases-passing l = length l.left
