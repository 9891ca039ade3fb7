use Rattle.std.proofs.Common.{ap, ◌∙◌}
use Rattle.std.specs.Option.{option_and_then}
use Rattle.history_model.specs.Past.{second_of}
use Rattle.changeset_store.specs.Store.{number_in}
use Rattle.changeset_store.specs.Shared.{values}
use Rattle.changeset_store.proofs.Stored.{are_known}
use Rattle.changeset_store.proofs.Pasts.{second_earlier, second_id, past_is}
use Rattle.changeset_store.proofs.store.ChangesetStore.second_parent.Goals as goal

pub returns-clause-earlier : goal.returns-clause-earlier
returns-clause-earlier c =
    let ks = c.args.self.now.known in
    second_earlier ks c.self.inside.chain.parents (are_known (values c.self.inside.commits.items) c.self.invariant _ (ap (λ s. s.known) c.self.view_is)) c.args.number c.requires c.second_parent_of.result
    (c.second_parent_of.ensures ∙ ap (λ d. option_and_then (number_in ks) (second_of d.parents)) c.at.ensures)

pub returns-clause-id : goal.returns-clause-id
returns-clause-id c =
    let ks = c.args.self.now.known in
    second_id ks c.self.inside.chain.parents (are_known (values c.self.inside.commits.items) c.self.invariant _ (ap (λ s. s.known) c.self.view_is)) c.args.number c.requires c.second_parent_of.result
    (c.second_parent_of.ensures ∙ ap (λ d. option_and_then (number_in ks) (second_of d.parents)) c.at.ensures)

pub returns-clause-past : goal.returns-clause-past
returns-clause-past c =
    let ks = c.args.self.now.known in
    past_is ks c.self.inside.chain.parents (are_known (values c.self.inside.commits.items) c.self.invariant _ (ap (λ s. s.known) c.self.view_is)) c.args.number c.requires c.second_parent_of.result
    (c.second_parent_of.ensures ∙ ap (λ d. option_and_then (number_in ks) (second_of d.parents)) c.at.ensures)
