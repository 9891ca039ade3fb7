use Rattle.run_gen.proofs.Texts.{clients_are_authors, messages_keep}
use Rattle.run_gen.proofs.names.keep_the_rules.Goals as goal

pub returns-clause-author : goal.returns-clause-author
returns-clause-author c = clients_are_authors c.args.client c.requires

pub returns-clause-message : goal.returns-clause-message
returns-clause-message c = messages_keep c.args.stack c.args.place c.ranges.stack.fits c.ranges.place.fits
