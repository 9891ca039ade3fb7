use Rattle.std.proofs.Common.{ap, ◌∙◌, sym, arith}
use Rattle.changeset_store.specs.Shared.{values}
use Rattle.changeset_store.proofs.Stored.{are_known, members_merged, merge_kept}
use Rattle.changeset_store.proofs.Nearest.{nearest_is, merge_ancestor, merge_earlier, merge_is, none_past, is_between}
use Rattle.changeset_store.proofs.store.ChangesetStore.nearest_merge.Goals as goal

pub index-requires : goal.index-requires
index-requires c =
    omega (arith, c.requires, members_merged (values c.self.inside.commits.items) c.self.invariant _ (ap (λ s. s.known) c.self.view_is))

pub returns-clause-nearest : goal.returns-clause-nearest
returns-clause-nearest c =
    let known = are_known (values c.self.inside.commits.items) c.self.invariant _ (ap (λ s. s.known) c.self.view_is) in
    merge_kept (values c.self.inside.commits.items) c.self.invariant _ (ap (λ s. s.known) c.self.view_is) c.args.number c.requires c.index.result.now c.index.ensures
    ∙ sym (nearest_is c.args.self.now.known c.self.inside.chain.parents known c.args.number c.requires)

pub returns-clause-ancestor : goal.returns-clause-ancestor
returns-clause-ancestor c =
    merge_ancestor c.args.self.now.known c.self.inside.chain.parents (are_known (values c.self.inside.commits.items) c.self.invariant _ (ap (λ s. s.known) c.self.view_is)) c.args.number c.requires c.index.result.now (merge_kept (values c.self.inside.commits.items) c.self.invariant _ (ap (λ s. s.known) c.self.view_is) c.args.number c.requires c.index.result.now c.index.ensures)

pub returns-clause-earlier : goal.returns-clause-earlier
returns-clause-earlier c =
    merge_earlier c.args.self.now.known c.self.inside.chain.parents (are_known (values c.self.inside.commits.items) c.self.invariant _ (ap (λ s. s.known) c.self.view_is)) c.args.number c.requires c.index.result.now (merge_kept (values c.self.inside.commits.items) c.self.invariant _ (ap (λ s. s.known) c.self.view_is) c.args.number c.requires c.index.result.now c.index.ensures)

pub returns-clause-merge : goal.returns-clause-merge
returns-clause-merge c =
    merge_is c.args.self.now.known c.self.inside.chain.parents (are_known (values c.self.inside.commits.items) c.self.invariant _ (ap (λ s. s.known) c.self.view_is)) c.args.number c.requires c.index.result.now (merge_kept (values c.self.inside.commits.items) c.self.invariant _ (ap (λ s. s.known) c.self.view_is) c.args.number c.requires c.index.result.now c.index.ensures)

pub returns-clause-no_other : goal.returns-clause-no_other
returns-clause-no_other c =
    none_past c.args.self.now.known c.self.inside.chain.parents (are_known (values c.self.inside.commits.items) c.self.invariant _ (ap (λ s. s.known) c.self.view_is)) c.args.number c.requires c.index.result.now (merge_kept (values c.self.inside.commits.items) c.self.invariant _ (ap (λ s. s.known) c.self.view_is) c.args.number c.requires c.index.result.now c.index.ensures)

pub returns-clause-between : goal.returns-clause-between
returns-clause-between c =
    is_between c.args.self.now.known c.self.inside.chain.parents (are_known (values c.self.inside.commits.items) c.self.invariant _ (ap (λ s. s.known) c.self.view_is)) c.args.number c.requires c.index.result.now (merge_kept (values c.self.inside.commits.items) c.self.invariant _ (ap (λ s. s.known) c.self.view_is) c.args.number c.requires c.index.result.now c.index.ensures)
