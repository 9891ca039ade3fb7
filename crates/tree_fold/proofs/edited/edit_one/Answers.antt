use Rattle.std.proofs.Common.{ap, sym}
use Rattle.std.specs.Prelude.{is_some}
use Rattle.tree_fold.specs.declared.file.File.{File}
use Rattle.tree_fold.proofs.Files.{edited-set, edited-absent, edited-deleted}
use Rattle.tree_fold.proofs.edited.edit_one.Goals as goal

pub returns-in-Some-clause-edited : goal.returns-in-Some-clause-edited
returns-in-Some-clause-edited c =
    let w : File = record { content = c.in-Set.content; kind = c.in-Set.kind; size = c.in-Set.size } in
    let here = ap is_some (sym c.in-Some.ensures.value) in
    edited-set c.args.files.now (c.get_mut.follows.lender w) c.args.edit.now _ _ _ _ c.in-Set.is here ((c.get_mut.follows.holds w).3 here)

pub returns-in_default-clause-edited : goal.returns-in_default-clause-edited
returns-in_default-clause-edited c = edited-absent c.args.files.now c.get_mut.follows.lender-at-none c.args.edit.now _ _ _ _ c.in-Set.is (sym c.in_default.ensures.value) c.get_mut.follows.holds-at-none

pub returns-in-Delete-clause-edited : goal.returns-in-Delete-clause-edited
returns-in-Delete-clause-edited c = edited-deleted c.args.files.now c.remove.new.self c.args.edit.now c.in-Delete.is c.remove.ensures.updates
