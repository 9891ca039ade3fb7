use Rattle.std.proofs.Common.{◌≡◌, ◌↔◌, ◌∙◌, sym, ap, subst}
use Rattle.node_table.specs.Table.{Has, IsAmong, IsTable, with_nodes}
use Rattle.node_table.proofs.Apart.{has_just, none_apart}
use Rattle.node_table.proofs.Tables.{a_table, nodes_are, fault_of_two, not_failed}
use Rattle.node_table.proofs.table.NodeTable.settle.Goals as goal

pub returns-in-Err-clause-two : goal.returns-in-Err-clause-two
returns-in-Err-clause-two c = rw (← c.self.view_is) (fault_of_two c.self.inside.store c.args.nodes.items c.in-Err.fault c.self.invariant.digests c.in-Err.ensures.fault)

pub invariant_of-self-in_default : goal.invariant_of-self-in_default
invariant_of-self-in_default c =
    let inside = c.self.inside in
    subst (λ m. IsTable (a_table m inside.roots inside.settled.items)) (sym c.in_default.ensures.ok) (nodes_are inside.store inside.roots inside.settled.items c.args.nodes.items c.self.invariant)

pub returns-clause-nodes : goal.returns-clause-nodes
returns-clause-nodes c = λ new n.
    let m = c.self.inside.store in
    let ns = c.args.nodes.items in
    let after : c.cut_new.new.self.nodes ≡ with_nodes m ns = ap (λ t. t.nodes) (c.cut_new.ensures ∙ not_failed c.note.result c.is_err.result c.is_err.ensures.value c.if-is_err.false c.note.ensures.ok) ∙ c.in_default.ensures.ok in
    rw (← c.self.view_is) (subst (λ k. Has k n ↔ IsAmong m ns n) (sym after) (has_just m ns c.in_default.ensures.apart n))

pub returns-clause-apart : goal.returns-clause-apart
returns-clause-apart c = λ new. rw (← c.self.view_is) (none_apart c.self.inside.store c.args.nodes.items c.in_default.ensures.apart)
