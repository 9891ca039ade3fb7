use Rattle.std.proofs.Common.{◌≡◌, take}
use Rattle.bonsai.specs.View.{edits_view}
use Rattle.repo_calls.specs.Asking.{copies_seen}
use Rattle.repo_machine.specs.Copies.{copies_among}
use Rattle.repo_machine.proofs.copies.copies_in.Given as goal

-- those so far
abbrev pub invariant-edits : goal.invariant-edits
invariant-edits l = copies_seen l.copies.items ≡ copies_among (edits_view (take l.edit-index l.edits))
