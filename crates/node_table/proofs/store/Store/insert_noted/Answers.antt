use Rattle.node_table.proofs.Steps.{same_node, noted_undone, out_if_put, out_if_not}
use Rattle.node_table.proofs.store.Store.insert_noted.Goals as goal

pub returns-in_err-put-in-Nothing-clause-undo : goal.returns-in_err-put-in-Nothing-clause-undo
returns-in_err-put-in-Nothing-clause-undo c =
    noted_undone c.args.noted.now.items c.push.new.self.items c.id-id.result c.args.self.now c.put.new.self c.in_ok-push-in-Nothing.ensures.items
    (out_if_not c.args.self.now c.put.new.self c.args.node c.id-id.result c.id-id.ensures c.in-Nothing.ensures c.in_err-put-in-Nothing.ensures.err)

pub returns-in_ok-put-in-Nothing-clause-undo : goal.returns-in_ok-put-in-Nothing-clause-undo
returns-in_ok-put-in-Nothing-clause-undo c =
    noted_undone c.args.noted.now.items c.push.new.self.items c.id-id.result c.args.self.now c.put.new.self c.in_ok-push-in-Nothing.ensures.items
    (out_if_put c.args.self.now c.put.new.self c.args.node c.id-id.result c.id-id.ensures c.in-Nothing.ensures c.in_ok-put-in-Nothing.ensures.ok)

pub returns-in-Same-clause-ok : goal.returns-in-Same-clause-ok
returns-in-Same-clause-ok c = same_node c.args.self.now c.args.node c.in-Same.ensures
