use Rattle.std.proofs.Common.{ap, arith}
use Rattle.changeset_store.proofs.Stored.{are_known, members}
use Rattle.changeset_store.proofs.Parents.{parent_is}
use Rattle.changeset_store.specs.Shared.{values}
use Rattle.changeset_store.proofs.store.ChangesetStore.parent.Goals as goal

pub parent-requires : goal.parent-requires
parent-requires c =
    omega (arith, c.requires, members (values c.self.inside.commits.items) c.self.invariant _ (ap (λ s. s.known) c.self.view_is))

pub returns-clause-parent : goal.returns-clause-parent
returns-clause-parent c =
    parent_is c.args.self.now.known c.self.inside.chain.parents (are_known (values c.self.inside.commits.items) c.self.invariant _ (ap (λ s. s.known) c.self.view_is)) c.args.number c.parent.result c.requires c.parent.ensures.parent
