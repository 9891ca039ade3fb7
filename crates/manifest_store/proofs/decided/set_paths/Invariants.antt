use Rattle.std.proofs.Common.{◌≡◌, ◌++◌, drop}
use Rattle.bonsai.specs.View.{edits_view}
use Rattle.derive_step.specs.Covering.{paths_seen, paths_set}
use Rattle.manifest_store.proofs.decided.set_paths.Given as goal

-- the paths that are there, and those of the edits that are left, are all
abbrev pub invariant-loop-edit : goal.invariant-loop-edit
invariant-loop-edit l = paths_seen l.paths.items ++ paths_set (edits_view (drop l.edit-index l.edits)) ≡ paths_set (edits_view l.edits)
