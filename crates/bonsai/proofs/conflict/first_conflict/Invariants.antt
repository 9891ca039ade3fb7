use Rattle.std.proofs.Common.{◌≡◌, None, drop}
use Rattle.std.specs.Prelude.{option_map}
use Rattle.bonsai.specs.Conflict.{neighbours}
use Rattle.bonsai.specs.View.{edits_view}
use Rattle.bonsai.proofs.conflict.first_conflict.Given as goal

-- what is left tells the answer
abbrev pub invariant-loop-edit : goal.invariant-loop-edit
invariant-loop-edit l = neighbours (option_map (λ p. p.now) l.before) (edits_view (drop l.edit-index l.edits)) ≡ neighbours None (edits_view l.edits)
