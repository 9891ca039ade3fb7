use Rattle.std.proofs.Common.{arith}
use Rattle.changeset_store.proofs.Oldest.{same_before}
use Rattle.changeset_store.proofs.store.ChangesetStore.newest_merge.Goals as goal

pub returns-then-merge-ancestor-clause-same : goal.returns-then-merge-ancestor-clause-same
returns-then-merge-ancestor-clause-same c =
    let m = c.in_ok-merge.merge in
    let told = c.in_ok-merge.ensures in
    same_before c.args.self.now.known c.args.ancestor m c.args.last (told.between c.args.ancestor c.requires (omega arith)) (told.no_other m told.ancestor (omega arith))
