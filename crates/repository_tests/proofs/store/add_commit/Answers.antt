use Rattle.std.proofs.Common.{◌≡◌, true, ap, ◌∙◌, sym, subst}
use Rattle.std.specs.List.{AllByRecursion}
use Rattle.history_model.specs.History.{is_known, with_id}
use Rattle.repository_tests.proofs.store.add_commit.Goals as goal

pub add-requires-clause-new : goal.add-requires-clause-new
add-requires-clause-new c =
    sym (ap (is_known c.reserve.new.self.known) (c.id.ensures ∙ ap (λ x. (with_id x).id) c.deref-2.ensures)) ∙ sym c.is_known.ensures ∙ c.if-is_known.false

pub add-requires-clause-parents : goal.add-requires-clause-parents
add-requires-clause-parents c =
    subst (AllByRecursion (λ id. is_known c.reserve.new.self.known id ≡ true)) (c.parents-parents.ensures.parents ∙ ap (λ x. x.parents) (c.changeset.ensures ∙ c.deref.ensures)) (c.are_known.ensures c.if-not-are_known.false)
