use Rattle.std.proofs.Common.{◌≡◌, ◌++◌, drop}
use Rattle.std.specs.Prelude.{flat_map}
use Rattle.changeset_model.specs.Changeset.{edit_bytes}
use Rattle.bonsai.specs.Versions.{version_view}
use Rattle.bonsai.specs.View.{edits_view}
use Rattle.bonsai.proofs.encoding.put_edits.Given as goal

-- what was written, with the edits that are left, is what is to be written
abbrev pub invariant-loop-edit : goal.invariant-loop-edit
invariant-loop-edit l = l.out.items ++ flat_map (edit_bytes (version_view l.version)) (edits_view (drop l.edit-index l.edits)) ≡ l.fn.out.items ++ flat_map (edit_bytes (version_view l.version)) (edits_view l.edits)
