use Rattle.std.proofs.Common.{[], ap, subst, ◌∙◌}
use Rattle.recovery.specs.Answers.{TellsNothing}
use Rattle.bookmark_lock.specs.Opening.{Opening}
use Rattle.run_gen.specs.Begun.{load_header}
use Rattle.run_gen.proofs.Begins.{quiet_opening, sealed_new}
use Rattle.run_gen.proofs.begin.open_repository.Goals as goal

pub unreachable-requires-in-Err-Damaged : goal.unreachable-requires-in-Err-Damaged
unreachable-requires-in-Err-Damaged c =
    subst TellsNothing c.in-Err-Damaged.field-0-is (c.in-Err-Damaged.ensures.never_damaged c.requires.honest load_header [] c.requires.stands tt)

pub returns-in-Ok : goal.returns-in-Ok
returns-in-Ok c =
    let is = c.in-Ok.ensures.never_damaged c.requires.honest load_header [] c.requires.stands tt in
    let opening = c.new.ensures.opening in record {
      header = c.new.ensures.header ∙ is.0;
      opened = ap (λ (o : Opening). o.header) opening ∙ is.0;
      quiet = quiet_opening c.new.result.opening (ap (λ (o : Opening). o.quiet) opening ∙ c.open.ensures.kept.quiet ∙ c.requires.quiet) (ap (λ (o : Opening). o.header) opening ∙ is.0);
      none = c.new.ensures.history ∙ is.1;
      sealed = sealed_new c.new.result.history _ c.new.result.sealed c.new.ensures.history c.new.ensures.sealed;
    }
