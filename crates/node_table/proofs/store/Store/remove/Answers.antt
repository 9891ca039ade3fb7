use Rattle.std.proofs.Common.{◌∙◌, ap, subst, sym}
use Rattle.std.specs.FinMap as map
use Rattle.node_table.specs.Table.{AreDigests}
use Rattle.node_table.specs.Parts.{nodes_of_entries}
use Rattle.node_table.proofs.Digests.{digests-remove}
use Rattle.node_table.proofs.Steps.{was_removed}
use Rattle.node_table.proofs.store.Store.remove.Goals as goal

pub invariant_of-self : goal.invariant_of-self
invariant_of-self c =
    let old = c.self.inside.nodes.entries in
    subst AreDigests (sym (was_removed old c.remove.new.self.entries c.args.id.now c.remove.ensures.updates.0)) (digests-remove (nodes_of_entries old) c.args.id.now c.self.invariant)

pub returns : goal.returns
returns c = was_removed c.self.inside.nodes.entries c.remove.new.self.entries c.args.id.now c.remove.ensures.updates.0 ∙ ap (λ m. map.remove m c.args.id.now) c.self.view_is
