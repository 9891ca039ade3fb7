use Rattle.std.proofs.Common.{◌∙◌, sym}
use Rattle.node_table.proofs.Steps.{noted_undone}
use Rattle.node_table.proofs.store.Store.undo.Goals as goal

pub loop-id-preserved : goal.loop-id-preserved
loop-id-preserved c =
    sym (noted_undone c.pop.new.self.items c.loop-id.noted.items c.in-Some.id c.remove.new.self c.loop-id.self c.in-Some.ensures.items (sym c.remove.ensures)) ∙ c.loop-id.invariant
