use Rattle.std.proofs.Common.{◌∙◌}
use Rattle.deleted_node.proofs.Named.{link_found}
use Rattle.deleted_node.proofs.lookup.link_in.Goals as goal

pub returns-clause-found : goal.returns-clause-found
returns-clause-found c = λ n read. c.first_link.ensures ∙ link_found c.args.bytes.now n read
