use Rattle.std.proofs.Common.{◌&&◌, not, sym, subst}
use Rattle.std.specs.Prelude.{OnOk}
use Rattle.byte_fields.proofs.Booleans.{and_false}
use Rattle.bonsai.specs.View.{change_view}
use Rattle.manifest_store.specs.Moves.{has_file, takes, brings, Adds}
use Rattle.manifest_store.proofs.Taken.{adds_none, then_that}
use Rattle.manifest_store.proofs.moves.add_edit.Goals as goal

pub returns-in-Set-clause-gone : goal.returns-in-Set-clause-gone
returns-in-Set-clause-gone c = λ past s.
    subst (λ change. OnOk c.add_set.result (Adds (λ p. has_file past p && takes (c.args.edit.now.path, change_view change) p) c.args.moved.now.gone.items c.add_set.new.moved.gone.items)) (sym c.in-Set.is) (c.add_set.ensures.gone past s)

pub returns-in-Set-clause-come : goal.returns-in-Set-clause-come
returns-in-Set-clause-come c = λ past s.
    subst (λ change. OnOk c.add_set.result (Adds (λ p. not (has_file past p) && brings (c.args.edit.now.path, change_view change) p) c.args.moved.now.come.items c.add_set.new.moved.come.items)) (sym c.in-Set.is) (c.add_set.ensures.come past s)

pub returns-in-Delete-clause-gone : goal.returns-in-Delete-clause-gone
returns-in-Delete-clause-gone c = λ past s.
    subst (λ change. OnOk c.add_delete.result (Adds (λ p. has_file past p && takes (c.args.edit.now.path, change_view change) p) c.args.moved.now.gone.items c.add_delete.new.gone.items)) (sym c.in-Delete.is) (c.add_delete.ensures past s)

pub returns-in-Delete-clause-come : goal.returns-in-Delete-clause-come
returns-in-Delete-clause-come c = λ past s.
    then_that c.add_delete.result
    (subst (λ change. Adds (λ p. not (has_file past p) && brings (c.args.edit.now.path, change_view change) p) c.args.moved.now.come.items c.args.moved.now.come.items) (sym c.in-Delete.is)
    (adds_none _ c.args.moved.now.come.items (λ p. and_false (not (has_file past p)))))
