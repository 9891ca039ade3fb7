use Rattle.std.proofs.Common.{◌≡◌, drop}
use Rattle.std.specs.Prelude.{option_map}
use Rattle.std.specs.FinMap.{is_sorted}
use Rattle.changeset_model.specs.Path.{path_cmp}
use Rattle.bonsai.specs.Making.{rises_from}
use Rattle.bonsai.specs.View.{edits_view}
use Rattle.bonsai.proofs.making.are_rising.Given as goal

-- what is left tells the answer
abbrev pub invariant-loop-edit : goal.invariant-loop-edit
invariant-loop-edit l = rises_from (option_map (λ p. p.now) l.before) (edits_view (drop l.edit-index l.edits)) ≡ is_sorted path_cmp (edits_view l.edits)
