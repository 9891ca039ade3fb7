use Rattle.std.proofs.Common.{sym, ◌∙◌}
use Rattle.content_table.specs.Table.{lengths}
use Rattle.repo_machine.proofs.Checks.{wrong_size, no_content}
use Rattle.repo_machine.proofs.uploads.check_edit.Goals as goal

pub returns-in_ok-copy-in-Some-2 : goal.returns-in_ok-copy-in-Some-2
returns-in_ok-copy-in-Some-2 c = wrong_size (lengths c.args.contents.now) _ c.args.edit.now.change c.in-Set.content c.in-Set.kind c.in-Set.size c.in-Set.copied c.in-Set.is c.in-Some.found _ c.in_ok-copy-in-Some-2.ensures (sym c.length.ensures ∙ c.in-Some.is) c.if-found-size.false

pub returns-in_ok-copy-in-None : goal.returns-in_ok-copy-in-None
returns-in_ok-copy-in-None c = no_content (lengths c.args.contents.now) _ c.args.edit.now.change c.in-Set.content c.in-Set.kind c.in-Set.size c.in-Set.copied c.in-Set.is _ c.in_ok-copy-in-None.ensures (sym c.length.ensures ∙ c.in-None.is)
