use Rattle.std.proofs.Common.{◌<◌, length, ap, ◌∙◌, arith}
use Rattle.std.proofs.lemmas.List.{length-map}
use Rattle.std.proofs.lemmas.Result.{IfOk-weaker}
use Rattle.history_model.specs.History.{with_id}
use Rattle.changeset_store.specs.Store.{changeset_at}
use Rattle.changeset_store.proofs.Places.{read_at}
use Rattle.std.specs.Arc.{arc_value}
use Rattle.changeset_store.specs.Shared.{values}
use Rattle.changeset_store.proofs.Sharing.{value_at, length-values}
use Rattle.changeset_store.proofs.store.ChangesetStore.shared_at.Goals as goal

pub returns : goal.returns
returns c =
    let held = length-values c.self.inside.commits.items in
    let below : c.args.number < length c.self.inside.commits.items = omega (arith, length-map (values c.self.inside.commits.items) with_id, ap (λ s. length s.known) c.self.view_is) in
    IfOk-weaker c.try_clone.result _ _ (λ shared e. e ∙ ap arc_value c.index.ensures ∙ value_at c.self.inside.commits.items c.args.number _ below
    ∙ read_at (values c.self.inside.commits.items) c.args.number _ (omega (arith, below))
    ∙ ap (λ s. changeset_at s.known c.args.number) c.self.view_is) c.try_clone.ensures
