use Rattle.std.proofs.Common.{ap, ◌∙◌}
use Rattle.repo_calls.specs.Asking.{copies_seen}
use Rattle.repo_machine.proofs.Lists.{no_copy, a_copy}
use Rattle.repo_machine.proofs.copies.copies_in.Goals as goal
use Rattle.repo_machine.proofs.copies.copies_in.Goals.{in-Some+in_ok-push, in_default}

pub edits-preserved : goal.edits-preserved
edits-preserved c =
    elim c.match-branch-2.branch [
      | in-Some+in_ok-push w ↦ ap (λ v. copies_seen v.items) w.copies-is
          ∙ a_copy c.args.edits.now c.edits.edit-index c.edit-item.result c.edits-test.true c.edit-item.is c.edits.copies.items c.edits.invariant c.in_ok-copy.field-0 c.in_ok-copy.ensures w.in-Some.copy w.in-Some.is w.push.new.self.items w.in_ok-push.ensures.items
      | in_default w ↦ ap (λ v. copies_seen v.items) w.copies-is
          ∙ no_copy c.args.edits.now c.edits.edit-index c.edit-item.result c.edits-test.true c.edit-item.is c.edits.copies.items c.edits.invariant c.in_ok-copy.field-0 c.in_ok-copy.ensures w.in_default.is
    ]
