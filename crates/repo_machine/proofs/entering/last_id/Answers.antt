use Rattle.std.proofs.Common.{sym, ap, ◌∙◌}
use Rattle.std.specs.Prelude.{option_map, Some}
use Rattle.std.specs.Option.{option_copied}
use Rattle.std.specs.Arc.{arc_value}
use Rattle.changeset_model.specs.Changeset.{id_of}
use Rattle.repo_machine.proofs.Lists.{last_shared}
use Rattle.repo_machine.proofs.entering.last_id.Goals as goal

pub returns : goal.returns
returns c =
    ap Some (c.id.ensures ∙ ap id_of c.deref.ensures)
    ∙ ap (option_map id_of) (ap (option_map arc_value) (ap option_copied (sym c.in_ok-commit.was) ∙ c.last.ensures.value) ∙ last_shared c.args.commits.now)
