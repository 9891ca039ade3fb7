use Rattle.std.proofs.Common.{Err, ap, ◌∙◌}
use Rattle.changeset_model.specs.Path.{elements}
use Rattle.run_gen.proofs.Texts.{never_bad, path_again, path_keeps}
use Rattle.run_gen.proofs.names.path.Goals as goal

pub returns-in-Ok-clause-path : goal.returns-in-Ok-clause-path
returns-in-Ok-clause-path c =
    c.in-Ok.ensures.path ∙ ap elements (c.as_str.ensures.value ∙ c.in_ok-text.ensures) ∙ path_again c.args.client c.args.part.now c.requires.client c.requires.directory c.requires.file

pub returns-in-Ok-clause-rules : goal.returns-in-Ok-clause-rules
returns-in-Ok-clause-rules c = path_keeps c.args.client c.args.part.now c.requires.client c.requires.directory c.requires.file

pub unreachable-requires : goal.unreachable-requires
unreachable-requires c =
    never_bad c.args.client c.args.part.now c.requires.client c.requires.directory c.requires.file c.as_str.result.now (c.as_str.ensures.value ∙ c.in_ok-text.ensures)
    (c.parse.ensures.unruly c.in-Err-BadPath.field-0-0 (c.in-Err-BadPath.is ∙ ap Err c.in-Err-BadPath.field-0-is))
