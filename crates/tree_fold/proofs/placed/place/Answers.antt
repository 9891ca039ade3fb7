use Rattle.std.proofs.Common.{Some, subst}
use Rattle.std.specs.BTreeMap.{Updates}
use Rattle.changeset_model.specs.Path.{Path, path_cmp}
use Rattle.tree_fold.proofs.Files.{get-updates}
use Rattle.tree_fold.proofs.placed.place.Goals as goal

pub returns-clause-ok : goal.returns-clause-ok
returns-clause-ok c =
    let P : Path → Type 0 = λ q. Updates path_cmp c.args.files.now c.insert.new.self q (Some c.args.file.now) in
    get-updates c.args.files.now c.insert.new.self c.args.path.now (Some c.args.file.now) (subst P c.in_ok-copy.ensures c.in_ok-insert.ensures.updates)
