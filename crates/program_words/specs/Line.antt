-- The command line as the parser knows it: any number of values, `--help` and `--version`.
use Rattle.std.specs.Prelude.{true, Some, codes}
use Rattle.clap.specs.Words.{App, Rule, new_app, new_rule, with_rule}
use Rattle.clap.specs.declared.builder.action.ArgAction.TheVariants.{Append}

abbrev pub words_rule : Rule
words_rule = record (new_rule (codes "words")) { action = Some Append }

abbrev pub line : App
line = with_rule (record (new_app (codes "hg_cli")) {
  top = record (new_app (codes "hg_cli")).top { has_version = true };
}) words_rule
