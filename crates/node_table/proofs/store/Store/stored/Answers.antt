use Rattle.std.proofs.Common.{◌∙◌, sym, ap, subst}
use Rattle.std.specs.FinMap as map
use Rattle.node_table.specs.Table.{AreDigests}
use Rattle.node_table.proofs.Steps.{digest_of, got}
use Rattle.node_table.proofs.store.Store.stored.Goals as goal

pub returns-clause-found : goal.returns-clause-found
returns-clause-found c =
    c.get.ensures.value ∙ sym (got c.self.inside.nodes.entries c.args.id.now) ∙ ap (λ m. map.get m c.args.id.now) c.self.view_is

pub returns-clause-digest : goal.returns-clause-digest
returns-clause-digest c =
    digest_of c.self.inside.nodes.entries c.args.id.now c.get.result c.self.invariant c.get.ensures.value

pub returns-clause-digests : goal.returns-clause-digests
returns-clause-digests c = subst AreDigests c.self.view_is c.self.invariant
