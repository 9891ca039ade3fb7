use Rattle.std.proofs.Common.{sym, ap, ◌∙◌}
use Rattle.std.specs.Prelude.{option_map}
use Rattle.changeset_store.proofs.Alone.{collides_known, alone_same, alone_unknown, collides_alone, of_found, same_as}
use Rattle.changeset_store.proofs.store.ChangesetStore.is_other.Goals as goal

pub returns-in-Some-clause-found : goal.returns-in-Some-clause-found
returns-in-Some-clause-found c =
    collides_known c.args.self.now.known c.args.commit.now c.in-Some.known.now c.id.result c.id.ensures c.get.ensures.once (of_found c.args.self.now.known c.id.result _ _ c.get.ensures.found c.in-Some.is)
    c.is_same.result (same_as c.is_same.ensures.same c.changeset.ensures c.changeset-in-Some.ensures) (λ e. sym c.changeset.ensures ∙ c.is_same.ensures.one e ∙ c.changeset-in-Some.ensures)

pub returns-in-Some-clause-alone : goal.returns-in-Some-clause-alone
returns-in-Some-clause-alone c =
    alone_same c.args.self.now.known c.args.commit.now c.in-Some.known.now c.id.result c.id.ensures c.get.ensures.once (of_found c.args.self.now.known c.id.result _ _ c.get.ensures.found c.in-Some.is)
    c.is_same.result (λ e. sym c.changeset.ensures ∙ c.is_same.ensures.one e ∙ c.changeset-in-Some.ensures)

pub returns-in-None-clause-found : goal.returns-in-None-clause-found
returns-in-None-clause-found c = sym (collides_alone c.args.self.now.known c.args.commit.now (alone_unknown c.args.self.now.known c.args.commit.now c.id.result c.id.ensures (sym c.get.ensures.found ∙ ap (option_map (λ c. c.now)) c.in-None.is)))

pub returns-in-None-clause-alone : goal.returns-in-None-clause-alone
returns-in-None-clause-alone c = λ _. alone_unknown c.args.self.now.known c.args.commit.now c.id.result c.id.ensures (sym c.get.ensures.found ∙ ap (option_map (λ c. c.now)) c.in-None.is)
