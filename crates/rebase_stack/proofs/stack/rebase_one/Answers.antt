use Rattle.std.proofs.Common.{◌++◌, ap, ◌∙◌}
use Rattle.changeset_model.specs.Changeset.{spelling}
use Rattle.history_model.specs.Pushrebase.{on_parent}
use Rattle.rebase_stack.proofs.Rewriting.{behind_length}
use Rattle.rebase_stack.proofs.stack.rebase_one.Goals as goal

pub returns-clause-bytes : goal.returns-clause-bytes
returns-clause-bytes c =
    let out = c.args.out.now.items in
    let parent = c.args.parent in
    let moment = c.args.moment in
    behind_length c.encode_behind.result out c.extend_from_slice.new.self.items c.encode_behind.new.out.items (spelling c.in_ok-with_parent.field-0) (spelling (on_parent parent moment c.args.commit.now)) c.length_on_parent-length.result
    (c.in_ok-extend_from_slice.ensures.items ∙ ap (λ b. out ++ b) c.to_be_bytes.ensures)
    (c.length_on_parent-length.ensures.value parent moment c.as_bytes-bytes.ensures.rule)
    (ap spelling (c.in_ok-with_parent.ensures ∙ ap (on_parent parent moment) c.changeset.ensures))
    c.encode_behind.ensures.bytes
