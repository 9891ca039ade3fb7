use Rattle.repo_machine.proofs.Lists.{ids_more}
use Rattle.repo_machine.proofs.rebased.ids_of.Goals as goal

pub commits-preserved : goal.commits-preserved
commits-preserved c =
    ids_more c.args.commits.now c.commits.commit-index c.commit-item.result c.commits-test.true c.commit-item.is c.commits.ids.items c.push.new.self.items c.id.result c.commits.invariant c.in_ok-push.ensures.items c.id.ensures
