use Rattle.std.proofs.Common.{ap, ◌∙◌}
use Rattle.changeset_model.specs.Changeset.{id_of}
use Rattle.repo_machine.proofs.Logging.{ids_push}
use Rattle.repo_machine.proofs.log.ids_of.Goals as goal

pub numbers-preserved : goal.numbers-preserved
numbers-preserved c = ids_push c.args.changesets.now.known c.args.numbers.now c.numbers.number-index c.numbers.ids.items c.push.new.self.items c.id.result c.numbers-test.true c.numbers.invariant c.in_ok-push.ensures.items (c.id.ensures ∙ ap id_of c.at.ensures)
