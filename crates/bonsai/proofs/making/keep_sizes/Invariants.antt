use Rattle.std.proofs.Common.{◌≡◌, drop}
use Rattle.bonsai.specs.Making.{keep_sizes}
use Rattle.bonsai.specs.View.{edits_view}
use Rattle.bonsai.proofs.making.keep_sizes.Given as goal

-- what is left tells the answer
abbrev pub invariant-loop-edit : goal.invariant-loop-edit
invariant-loop-edit l = keep_sizes (edits_view (drop l.edit-index l.edits)) ≡ keep_sizes (edits_view l.edits)
