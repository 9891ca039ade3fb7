use Rattle.std.proofs.Common.{sym, ap, ◌∙◌}
use Rattle.std.specs.Arc.{arc_value}
use Rattle.changeset_model.specs.Changeset.{id_of}
use Rattle.changeset_store.proofs.Added.{number_known, number_new}
use Rattle.changeset_store.proofs.store.ChangesetStore.add_one.Goals as goal

pub returns-in-Some-clause-number : goal.returns-in-Some-clause-number
returns-in-Some-clause-number c =
    number_known c.args.self.now.known (arc_value c.args.commit) c.in-Some.number c.id.result (sym c.number_of.ensures.number ∙ c.in-Some.is) (c.id.ensures ∙ ap id_of c.deref.ensures) c.requires.can.alone

pub returns-in-None-clause-number : goal.returns-in-None-clause-number
returns-in-None-clause-number c = number_new c.args.self.now.known c.add.new.self.known (arc_value c.args.commit) c.add.result c.add.ensures.known c.add.ensures.number
