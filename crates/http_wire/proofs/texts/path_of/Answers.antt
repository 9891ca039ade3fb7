use Rattle.std.proofs.Common.{rules}
use Rattle.http_wire.proofs.TextLemmas.{path_at, path_whole}
use Rattle.http_wire.proofs.texts.path_of.Goals as goal

pub returns-in-Some : goal.returns-in-Some
returns-in-Some c = path_at c.args.target.now c.in-Some.mark (search rules) (search rules) (search rules)

pub returns-in-None : goal.returns-in-None
returns-in-None c = path_whole c.args.target.now (search rules)
