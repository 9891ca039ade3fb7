use Rattle.std.proofs.Common.{◌^◌, ap, arith}
use Rattle.changeset_store.proofs.Stored.{are_known, members}
use Rattle.changeset_store.proofs.Jumps.{too_short, is_above, is_far, is_further}
use Rattle.changeset_store.specs.Shared.{values}
use Rattle.changeset_store.proofs.store.ChangesetStore.jump.Goals as goal

pub jump-requires-clause-known : goal.jump-requires-clause-known
jump-requires-clause-known c =
    omega (arith, c.requires.known, members (values c.self.inside.commits.items) c.self.invariant _ (ap (λ s. s.known) c.self.view_is))

pub returns-clause-none : goal.returns-clause-none
returns-clause-none c =
    too_short c.args.self.now.known c.self.inside.chain.parents (are_known (values c.self.inside.commits.items) c.self.invariant _ (ap (λ s. s.known) c.self.view_is)) c.args.last (2 ^ c.args.exponent) c.requires.known _ c.jump.result c.jump.ensures.above

pub returns-clause-ancestor : goal.returns-clause-ancestor
returns-clause-ancestor c =
    is_above c.args.self.now.known c.self.inside.chain.parents (are_known (values c.self.inside.commits.items) c.self.invariant _ (ap (λ s. s.known) c.self.view_is)) c.args.last (2 ^ c.args.exponent) c.requires.known c.jump.result c.jump.ensures.in_chain

pub returns-clause-distance : goal.returns-clause-distance
returns-clause-distance c =
    is_far c.args.self.now.known c.self.inside.chain.parents (are_known (values c.self.inside.commits.items) c.self.invariant _ (ap (λ s. s.known) c.self.view_is)) c.args.last (2 ^ c.args.exponent) c.requires.known c.jump.result c.jump.ensures.in_chain c.jump.ensures.distance

pub returns-clause-further : goal.returns-clause-further
returns-clause-further c =
    is_further c.args.self.now.known c.self.inside.chain.parents (are_known (values c.self.inside.commits.items) c.self.invariant _ (ap (λ s. s.known) c.self.view_is)) c.args.last (2 ^ c.args.exponent) c.requires.known c.jump.result c.jump.ensures.further
