use Rattle.std.proofs.Common.{refl}
use Rattle.std.specs.Prelude.{None}
use Rattle.manifest_store.proofs.Coming.{begins}
use Rattle.manifest_store.proofs.brought.root_of.Goals as goal

pub returns-clause-ids : goal.returns-clause-ids
returns-clause-ids c = λ past other one two. begins c.args.first.now c.args.second.now past other one two (record { path = None; first = c.fsnode_of.result; second = c.args.second.now.fsnode }) refl refl c.fsnode_of.ensures
