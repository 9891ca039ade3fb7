use Rattle.std.proofs.Common.{◌≡◌, drop}
use Rattle.std.specs.List.{list_any}
use Rattle.manifest_laws.specs.Changes as changes
use Rattle.bonsai.specs.View.{edits_view}
use Rattle.merge_walk.proofs.decided.is_covered.Given as goal

-- what is left tells the answer
abbrev pub invariant-loop-edit : goal.invariant-loop-edit
invariant-loop-edit l = list_any (λ e. changes.covers e l.path) (edits_view (drop l.edit-index l.edits)) ≡ list_any (λ e. changes.covers e l.path) (edits_view l.edits)
