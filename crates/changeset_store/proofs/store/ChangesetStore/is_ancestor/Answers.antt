use Rattle.std.proofs.Common.{sym, ap, ◌∙◌, arith}
use Rattle.changeset_store.proofs.Stored.{are_known, members}
use Rattle.changeset_store.proofs.Forks.{in_its_chain, ancestor_by, joined}
use Rattle.changeset_store.specs.Shared.{values}
use Rattle.changeset_store.proofs.store.ChangesetStore.is_ancestor.Goals as goal

pub is_ancestor_uncounted-requires-clause-a_known : goal.is_ancestor_uncounted-requires-clause-a_known
is_ancestor_uncounted-requires-clause-a_known c =
    omega (arith, c.requires.above_known, members (values c.self.inside.commits.items) c.self.invariant _ (ap (λ s. s.known) c.self.view_is))

pub is_ancestor_uncounted-requires-clause-x_known : goal.is_ancestor_uncounted-requires-clause-x_known
is_ancestor_uncounted-requires-clause-x_known c =
    omega (arith, c.requires.known, members (values c.self.inside.commits.items) c.self.invariant _ (ap (λ s. s.known) c.self.view_is))

pub returns-clause-in_chain : goal.returns-clause-in_chain
returns-clause-in_chain c =
    in_its_chain c.args.self.now.known c.self.inside.chain.parents (are_known (values c.self.inside.commits.items) c.self.invariant _ (ap (λ s. s.known) c.self.view_is)) c.args.above c.args.last c.is_ancestor_uncounted.result c.requires.above_known c.requires.known c.is_ancestor_uncounted.ensures.is_ancestor

pub returns-clause-joined : goal.returns-clause-joined
returns-clause-joined c = λ there root up.
    let known = (are_known (values c.self.inside.commits.items) c.self.invariant _ (ap (λ s. s.known) c.self.view_is)) in
    joined c.args.self.now.known c.self.inside.chain.parents known c.args.above c.args.last
    (ancestor_by c.args.self.now.known c.self.inside.chain.parents known c.args.above c.args.last c.requires.known (sym c.is_ancestor_uncounted.ensures.is_ancestor ∙ there))
    root c.is_ancestor_uncounted.ensures.earlier up
