use Rattle.deleted_step.proofs.Entries.{one_taken}
use Rattle.deleted_step.proofs.opened.by_names.Goals as goal

pub loop-child-preserved : goal.loop-child-preserved
loop-child-preserved c =
    one_taken c.args.children.items c.loop-child.left.items c.pop.new.self.items c.in-Some.child c.loop-child.entries c.insert.new.self c.loop-child.invariant c.in-Some.ensures.items c.in_ok-insert.ensures.updates.0
