use Rattle.std.proofs.Common.{sym, ◌∙◌}
use Rattle.manifest_store.proofs.Taken.{adds_none, adds_copy, itself_there, itself_absent}
use Rattle.manifest_store.proofs.moves.add_delete.Goals as goal

pub returns-in_ok-push : goal.returns-in_ok-push
returns-in_ok-push c = λ past s.
    adds_copy _ c.args.gone.now.items c.push.new.self.items c.args.path.now c.in_ok-copy.field-0 c.in_ok-push.ensures.items c.in_ok-copy.ensures
    (λ p. itself_there past s.right c.args.path.now p (sym (c.is_file_before.ensures past s) ∙ c.if-is_file_before.true))

pub returns-else-is_file_before : goal.returns-else-is_file_before
returns-else-is_file_before c = λ past s.
    adds_none _ c.args.gone.now.items (λ p. itself_absent past s.right c.args.path.now p (sym (c.is_file_before.ensures past s) ∙ c.if-is_file_before.false))
