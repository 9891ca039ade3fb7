use Rattle.std.proofs.Common.{◌∙◌}
use Rattle.deleted_node.proofs.Named.{found_in}
use Rattle.deleted_node.proofs.lookup.entry_in.Goals as goal

pub returns-clause-found : goal.returns-clause-found
returns-clause-found c = λ n read. c.first_in.ensures ∙ found_in c.args.bytes.now c.args.name.now n read
