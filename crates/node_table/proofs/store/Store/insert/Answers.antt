use Rattle.std.proofs.Common.{◌∙◌, ap}
use Rattle.node_table.specs.Table.{with_node}
use Rattle.node_table.proofs.Steps.{same_node}
use Rattle.node_table.proofs.store.Store.insert.Goals as goal

pub returns-in-Same-clause-ok : goal.returns-in-Same-clause-ok
returns-in-Same-clause-ok c = same_node c.args.self.now c.of-node.result c.in-Same.ensures ∙ ap (with_node c.args.self.now) c.of-node.ensures
