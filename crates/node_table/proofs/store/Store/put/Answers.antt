use Rattle.std.proofs.Common.{◌∙◌, ap, subst, sym}
use Rattle.node_table.specs.Table.{AreDigests, with_node}
use Rattle.node_table.specs.Parts.{nodes_of_entries}
use Rattle.node_table.proofs.Digests.{digests-with_node}
use Rattle.node_table.proofs.Steps.{was_put}
use Rattle.node_table.proofs.store.Store.put.Goals as goal

pub invariant_of-self-2 : goal.invariant_of-self-2
invariant_of-self-2 c =
    let old = c.self.inside.nodes.entries in
    subst AreDigests (sym (was_put old c.insert.new.self.entries c.id-id.result c.whole.result c.args.node c.in_ok-insert.ensures.updates.0 c.id-id.ensures (c.whole.ensures ∙ c.into_bytes.ensures))) (digests-with_node (nodes_of_entries old) c.args.node c.self.invariant)

pub returns-clause-ok : goal.returns-clause-ok
returns-clause-ok c =
    was_put c.self.inside.nodes.entries c.insert.new.self.entries c.id-id.result c.whole.result c.args.node c.in_ok-insert.ensures.updates.0 c.id-id.ensures (c.whole.ensures ∙ c.into_bytes.ensures) ∙ ap (λ m. with_node m c.args.node) c.self.view_is
