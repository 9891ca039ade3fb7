use Rattle.std.proofs.Common.{Some, sym, ap, ◌∙◌, option_map}
use Rattle.changeset_store.specs.Store.{changeset_at}
use Rattle.changeset_store.proofs.Places.{changeset_of_is}
use Rattle.changeset_store.proofs.store.ChangesetStore.get_shared.Goals as goal

pub returns-in_ok-shared_at-in-Some : goal.returns-in_ok-shared_at-in-Some
returns-in_ok-shared_at-in-Some c =
    ap (λ x. Some x) c.in_ok-shared_at-in-Some.ensures ∙ ap (option_map (changeset_at c.args.self.now.known)) (sym c.in-Some.is ∙ c.number_of.ensures.number) ∙ sym (changeset_of_is c.args.self.now.known c.args.id.now)

pub returns-in-None : goal.returns-in-None
returns-in-None c = ap (option_map (changeset_at c.args.self.now.known)) (sym c.in-None.is ∙ c.number_of.ensures.number) ∙ sym (changeset_of_is c.args.self.now.known c.args.id.now)
