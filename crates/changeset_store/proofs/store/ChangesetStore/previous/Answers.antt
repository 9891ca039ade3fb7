use Rattle.std.proofs.Common.{ap, arith}
use Rattle.changeset_store.proofs.Stored.{are_known, members}
use Rattle.changeset_store.proofs.Forks.{is_member, none_follow, none_itself, ancestor_previous, newest_follows}
use Rattle.changeset_store.specs.Shared.{values}
use Rattle.changeset_store.proofs.store.ChangesetStore.previous.Goals as goal

pub previous-requires-clause-known : goal.previous-requires-clause-known
previous-requires-clause-known c =
    omega (arith, c.requires.known, members (values c.self.inside.commits.items) c.self.invariant _ (ap (λ s. s.known) c.self.view_is))

pub previous-requires-clause-ancestor : goal.previous-requires-clause-ancestor
previous-requires-clause-ancestor c =
    is_member c.args.self.now.known c.self.inside.chain.parents (are_known (values c.self.inside.commits.items) c.self.invariant _ (ap (λ s. s.known) c.self.view_is)) c.args.ancestor c.args.last c.requires

pub returns-clause-none : goal.returns-clause-none
returns-clause-none c =
    none_follow c.args.self.now.known c.self.inside.chain.parents (are_known (values c.self.inside.commits.items) c.self.invariant _ (ap (λ s. s.known) c.self.view_is)) c.args.ancestor c.args.last c.requires c.previous.result c.previous.ensures.none

pub returns-clause-itself : goal.returns-clause-itself
returns-clause-itself c =
    none_itself c.args.self.now.known c.self.inside.chain.parents (are_known (values c.self.inside.commits.items) c.self.invariant _ (ap (λ s. s.known) c.self.view_is)) c.args.ancestor c.args.last c.requires c.previous.result c.previous.ensures.none

pub returns-clause-ancestor : goal.returns-clause-ancestor
returns-clause-ancestor c =
    ancestor_previous c.args.self.now.known c.self.inside.chain.parents (are_known (values c.self.inside.commits.items) c.self.invariant _ (ap (λ s. s.known) c.self.view_is)) c.args.ancestor c.args.last c.requires c.previous.result c.previous.ensures.earlier c.previous.ensures.ancestor

pub returns-clause-newest : goal.returns-clause-newest
returns-clause-newest c =
    newest_follows c.args.self.now.known c.self.inside.chain.parents (are_known (values c.self.inside.commits.items) c.self.invariant _ (ap (λ s. s.known) c.self.view_is)) c.args.ancestor c.args.last c.requires c.previous.result c.previous.ensures.earlier c.previous.ensures.ancestor c.previous.ensures.newest
