use Rattle.std.proofs.Common.{◌∙◌, sym, subst}
use Rattle.node_table.specs.Table.{AreDigests}
use Rattle.node_table.proofs.store.Store.cut.Goals as goal

pub invariant_of-self : goal.invariant_of-self
invariant_of-self c = subst AreDigests (sym c.cut_under.ensures) c.self.invariant

pub returns : goal.returns
returns c = c.cut_under.ensures ∙ c.self.view_is
