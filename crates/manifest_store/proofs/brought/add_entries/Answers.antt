use Rattle.std.proofs.Common.{sym, ap, ◌∙◌}
use Rattle.std.specs.Prelude.{option_map}
use Rattle.bonsai.specs.View.{edits_view}
use Rattle.fsnode.specs.Views.{fsnode_seen}
use Rattle.manifest_store.proofs.Coming.{are_entries, second_there, skipped}
use Rattle.manifest_store.proofs.brought.add_entries.Goals as goal

pub returns-then-is_alike-clause-files : goal.returns-then-is_alike-clause-files
returns-then-is_alike-clause-files c = λ past other both from p.
    skipped past other (edits_view c.args.decided.now.edits.now) c.args.table.now.nodes both c.args.dir.now c.args.come.now.items c.args.next.now.items from (c.is_alike.ensures c.if-is_alike.true) p

pub returns-in_default-clause-files : goal.returns-in_default-clause-files
returns-in_default-clause-files c = λ past other both from p.
    second_there c.args.table.now.nodes past other both c.args.dir.now from (ap (option_map fsnode_seen) (sym c.in_default.is) ∙ c.in_ok-second.ensures)

pub returns-clause-files : goal.returns-clause-files
returns-clause-files c = λ past other both from.
    c.add_children.ensures.files past other (are_entries c.args.table.now.nodes past other both c.args.dir.now from (option_map fsnode_seen c.in_ok-first.first) c.in_ok-first.ensures c.in_ok-second.field-0 c.in-Some.second c.deref.result.now c.in-Some.is c.in_ok-second.ensures c.deref.ensures.value)

pub returns-clause-directories : goal.returns-clause-directories
returns-clause-directories c = λ past other both from had.
    c.add_children.ensures.directories past other (are_entries c.args.table.now.nodes past other both c.args.dir.now from (option_map fsnode_seen c.in_ok-first.first) c.in_ok-first.ensures c.in_ok-second.field-0 c.in-Some.second c.deref.result.now c.in-Some.is c.in_ok-second.ensures c.deref.ensures.value) had
