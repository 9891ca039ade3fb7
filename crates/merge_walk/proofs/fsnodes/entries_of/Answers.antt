use Rattle.fsnode.specs.Parts.{fsnode_of_parts}
use Rattle.merge_walk.proofs.Tables.{all_kept}
use Rattle.merge_walk.proofs.fsnodes.entries_of.Goals as goal

pub returns-in-Ok : goal.returns-in-Ok
returns-in-Ok c = all_kept c.args.bytes.now (fsnode_of_parts c.in-Ok.node.summary c.in-Ok.node.entries) c.in-Ok.node.valid c.in-Ok.ensures.exact
