use Rattle.std.proofs.Common.{◌≡◌, drop}
use Rattle.bonsai.specs.View.{edits_view}
use Rattle.content_table.specs.Table.{lengths}
use Rattle.repo_machine.specs.Checking.{contents_refusal}
use Rattle.repo_machine.proofs.uploads.check_contents.Given as goal

-- what is wrong with the edits, is wrong with those that are left
abbrev pub invariant-edits : goal.invariant-edits
invariant-edits l = contents_refusal (lengths l.contents) (edits_view (drop l.edit-index l.edits)) ≡ contents_refusal (lengths l.contents) (edits_view l.edits)
