use Rattle.std.proofs.Common.{refl, ap, ◌∙◌}
use Rattle.command_line.specs.Migrating.{report_of}
use Rattle.command_line.proofs.migrate.migrate_opened.Goals as goal

pub returns-in_default-clause-copies : goal.returns-in_default-clause-copies
returns-in_default-clause-copies g c = record {
  source = c.migrate_to.new.from;
  source_is = refl;
  only_read = c.in_default.ensures.read;
  opened = c.in_default.ensures.opened c.args.opened.machine.header c.args.opened.machine.history c.requires.opened;
  of = (refl, c.in_default.ensures.faults.cause refl);
}

pub returns-clause-copies : goal.returns-clause-copies
returns-clause-copies g c = record {
  source = c.migrate_to.new.from;
  source_is = refl;
  only_read = c.in-Ok.ensures.read;
  opened = c.in-Ok.ensures.opened c.args.opened.machine.header c.args.opened.machine.history c.requires.opened;
  of = record {
    result = c.in-Ok.made.result;
    report_is = c.report_of.ensures ∙ ap (λ counts. report_of counts c.in-Ok.made.result) c.counts.ensures;
    copies = c.in-Ok.ensures.copies c.args.opened.machine.header c.args.opened.machine.history c.requires.opened c.requires.legal;
  };
}
