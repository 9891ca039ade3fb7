use Rattle.std.proofs.Common.{[], subst}
use Rattle.bonsai.specs.View.{edits_view}
use Rattle.manifest_store.specs.Moves.{Stands}
use Rattle.manifest_store.proofs.Coming.{none_brought, with_brought}
use Rattle.manifest_store.proofs.moves.moved_by.Goals as goal

pub returns-in_default-clause-come : goal.returns-in_default-clause-come
returns-in_default-clause-come c = λ past other s t.
    let m = c.args.table.now.nodes in
    none_brought past (edits_view c.args.edits.now) m other [] c.in_ok-moved.moved.come.items (subst (λ second. Stands m second other) c.in_default.is t) (c.in_ok-moved.ensures.come past s)

pub returns-clause-come : goal.returns-clause-come
returns-clause-come c = λ past other s t.
    let m = c.args.table.now.nodes in
    with_brought past (edits_view c.args.edits.now) other [] c.in_ok-moved.moved.come.items c.add_brought.new.come.items (c.in_ok-moved.ensures.come past s)
    (c.in_ok-add_brought.ensures past other s (subst (λ second. Stands m second other) c.in-Some.is t))
