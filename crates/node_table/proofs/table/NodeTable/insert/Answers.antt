use Rattle.std.proofs.Common.{[], ◌∷◌}
use Rattle.node_table.proofs.Tables.{inserted_is, inserted_has, inserted_two}
use Rattle.node_table.proofs.table.NodeTable.insert.Goals as goal

pub invariant_of-self : goal.invariant_of-self
invariant_of-self c =
    inserted_is c.self.inside.store c.insert.new.self c.self.inside.roots c.self.inside.settled.items c.args.bytes.items c.insert.result c.self.invariant c.insert.ensures.ok c.insert.ensures.err

pub returns-clause-nodes : goal.returns-clause-nodes
returns-clause-nodes c = rw (← c.self.view_is) (inserted_has c.self.inside.store c.insert.new.self c.args.bytes.items c.insert.result c.insert.ensures.ok c.insert.ensures.apart)

pub returns-clause-two : goal.returns-clause-two
returns-clause-two c = rw (← c.self.view_is) (inserted_two c.self.inside.store (c.args.bytes.items ∷ []) c.insert.result c.self.invariant.digests c.insert.ensures.fault)
