use Rattle.std.proofs.Common.{sym, ◌∙◌}
use Rattle.bonsai.specs.View.{edits_view}
use Rattle.manifest_store.proofs.Coming.{file_brought, file_left, is_new, was_settled, was_there}
use Rattle.manifest_store.proofs.Taken.{adds_none, adds_one}
use Rattle.manifest_store.proofs.brought.add_file.Goals as goal

pub returns-then-is_file : goal.returns-then-is_file
returns-then-is_file c = λ past other right at told.
    let es = edits_view c.args.decided.now.edits.now in
    let q = c.args.path in
    adds_none _ c.args.come.now.items (λ p. file_left past other es right q p at (was_there past other es q (sym told ∙ sym c.is_file.ensures ∙ c.if-is_file.true)))

pub returns-then-settles : goal.returns-then-settles
returns-then-settles c = λ past other right at told.
    let es = edits_view c.args.decided.now.edits.now in
    let q = c.args.path in
    adds_none _ c.args.come.now.items (λ p. file_left past other es right q p at (was_settled past other es q (sym c.settles.ensures ∙ c.if-settles.true)))

pub returns : goal.returns
returns c = λ past other right at told.
    let es = edits_view c.args.decided.now.edits.now in
    let q = c.args.path in
    adds_one _ c.args.come.now.items c.push.new.self.items q c.in_ok-push.ensures.items
    (λ p. file_brought past other es right q p at (is_new past other es q (sym told ∙ sym c.is_file.ensures ∙ c.if-is_file.false) at (sym c.settles.ensures ∙ c.if-settles.false)))
