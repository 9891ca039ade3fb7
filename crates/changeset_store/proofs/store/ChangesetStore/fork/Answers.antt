use Rattle.std.proofs.Common.{sym, ap, ◌∙◌, arith, option_map}
use Rattle.changeset_store.specs.Fork.{fork_between}
use Rattle.changeset_store.proofs.Stored.{are_known, members}
use Rattle.changeset_store.proofs.Forks.{value_below, fork_is, is_fork, has_its_id, is_its_number}
use Rattle.changeset_store.specs.Shared.{values}
use Rattle.changeset_store.proofs.store.ChangesetStore.fork.Goals as goal

pub nearest_uncounted-requires-clause-a_known : goal.nearest_uncounted-requires-clause-a_known
nearest_uncounted-requires-clause-a_known c =
    omega (arith, value_below c.number_of.result c.unwrap-head.result _ c.unwrap-head.ensures c.number_of.ensures.in_range, members (values c.self.inside.commits.items) c.self.invariant _ (ap (λ s. s.known) c.self.view_is))

pub nearest_uncounted-requires-clause-b_known : goal.nearest_uncounted-requires-clause-b_known
nearest_uncounted-requires-clause-b_known c =
    omega (arith, value_below c.number_of-2.result c.unwrap-draft.result _ c.unwrap-draft.ensures c.number_of-2.ensures.in_range, members (values c.self.inside.commits.items) c.self.invariant _ (ap (λ s. s.known) c.self.view_is))

pub returns-in_err-root-clause-fork : goal.returns-in_err-root-clause-fork
returns-in_err-root-clause-fork c =
    let ks = c.args.self.now.known in
    let a = c.unwrap-head.result in
    let b = c.unwrap-draft.result in
    ap (option_map (fork_between ks)) c.from_residual.ensures
    ∙ sym (fork_is ks c.self.inside.chain.parents (are_known (values c.self.inside.commits.items) c.self.invariant _ (ap (λ s. s.known) c.self.view_is)) c.args.head.now c.args.draft.now a b (sym c.number_of.ensures.number ∙ c.unwrap-head.ensures) (sym c.number_of-2.ensures.number ∙ c.unwrap-draft.ensures)
    ∙ ap (option_map (λ r. fork_between ks (record { root = r; head = a; draft = b }))) (sym c.nearest_uncounted.ensures.nearest ∙ c.in_err-root.was))

pub returns-clause-fork : goal.returns-clause-fork
returns-clause-fork c =
    let ks = c.args.self.now.known in
    let a = c.unwrap-head.result in
    let b = c.unwrap-draft.result in
    sym (fork_is ks c.self.inside.chain.parents (are_known (values c.self.inside.commits.items) c.self.invariant _ (ap (λ s. s.known) c.self.view_is)) c.args.head.now c.args.draft.now a b (sym c.number_of.ensures.number ∙ c.unwrap-head.ensures) (sym c.number_of-2.ensures.number ∙ c.unwrap-draft.ensures)
    ∙ ap (option_map (λ r. fork_between ks (record { root = r; head = a; draft = b }))) (sym c.nearest_uncounted.ensures.nearest ∙ c.in_ok-root.was))

pub returns-clause-is_fork : goal.returns-clause-is_fork
returns-clause-is_fork c =
    is_fork c.args.self.now.known c.self.inside.chain.parents (are_known (values c.self.inside.commits.items) c.self.invariant _ (ap (λ s. s.known) c.self.view_is)) c.unwrap-head.result c.unwrap-draft.result c.in_ok-root.root c.nearest_uncounted.result c.in_ok-root.was
    (value_below c.number_of.result c.unwrap-head.result _ c.unwrap-head.ensures c.number_of.ensures.in_range)
    (value_below c.number_of-2.result c.unwrap-draft.result _ c.unwrap-draft.ensures c.number_of-2.ensures.in_range)
    c.nearest_uncounted.ensures.of_a c.nearest_uncounted.ensures.of_b

pub returns-clause-of_head : goal.returns-clause-of_head
returns-clause-of_head c =
    has_its_id c.args.self.now.known c.self.inside.chain.parents (are_known (values c.self.inside.commits.items) c.self.invariant _ (ap (λ s. s.known) c.self.view_is)) c.number_of.result c.args.head.now c.unwrap-head.result c.number_of.ensures.number c.unwrap-head.ensures

pub returns-clause-of_draft : goal.returns-clause-of_draft
returns-clause-of_draft c =
    has_its_id c.args.self.now.known c.self.inside.chain.parents (are_known (values c.self.inside.commits.items) c.self.invariant _ (ap (λ s. s.known) c.self.view_is)) c.number_of-2.result c.args.draft.now c.unwrap-draft.result c.number_of-2.ensures.number c.unwrap-draft.ensures

pub returns-clause-of_root : goal.returns-clause-of_root
returns-clause-of_root c =
    is_its_number c.args.self.now.known c.self.inside.chain.parents (are_known (values c.self.inside.commits.items) c.self.invariant _ (ap (λ s. s.known) c.self.view_is)) c.in_ok-root.root (returns-clause-is_fork c).of_head.above_known
