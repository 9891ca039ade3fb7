use Rattle.std.proofs.Common.{◌≡◌, sym, subst}
use Rattle.std.specs.Prelude.{IfOk, option_map}
use Rattle.std.specs.Option.{option_and_then}
use Rattle.fsnode.specs.Views.{fsnode_seen}
use Rattle.manifest_store.specs.Nodes.{fsnode_under}
use Rattle.manifest_store.proofs.brought.first_fsnode.Goals as goal

pub returns-in-Some : goal.returns-in-Some
returns-in-Some c = subst (λ id. IfOk c.fsnode_under.result (λ node. option_map fsnode_seen node ≡ option_and_then (fsnode_under c.args.table.now.nodes) id)) (sym c.in-Some.is) c.fsnode_under.ensures
