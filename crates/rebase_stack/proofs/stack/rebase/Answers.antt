use Rattle.std.proofs.Common.{◌∷◌, [], ◌++◌, ◌+◌, drop, map, sym, ap, subst, ◌∙◌}
use Rattle.std.specs.Arc.{arc_value}
use Rattle.changeset_model.specs.Changeset.{id_of}
use Rattle.bonsai.specs.Making.{KeepsOnParent}
use Rattle.history_model.specs.Pushrebase.{on_parent, rewrite}
use Rattle.rebase_stack.proofs.Rewriting.{rewrite_one_more, one_keeps}
use Rattle.rebase_stack.proofs.stack.rebase.Goals as goal

pub stack-preserved : goal.stack-preserved
stack-preserved c =
    let made = c.stack.commits.items in
    let parent = c.stack.parent in
    let moment = c.args.moment in
    let rest = map arc_value (drop (c.stack.commit-index + 1) c.args.stack.now) in
    let rebased = c.in_ok-rebased.rebased in
    ap (λ cs. cs ++ rewrite rest c.id-parent.result moment) c.in_ok-push.ensures.items
    ∙ ap (λ id. (made ++ rebased ∷ []) ++ rewrite rest id moment) c.id-parent.ensures
    ∙ ap (λ m. (made ++ m ∷ []) ++ rewrite rest (id_of m) moment) (c.in_ok-rebased.ensures ∙ c.in_ok-with_parent.ensures ∙ ap (on_parent parent moment) (c.changeset.ensures ∙ c.deref.ensures))
    ∙ rewrite_one_more made c.args.stack.now c.stack.commit-index c.commit-item.result parent moment c.stack-test.true c.commit-item.is
    ∙ c.stack.invariant

pub with_parent-requires : goal.with_parent-requires
with_parent-requires c = subst KeepsOnParent (sym (c.changeset.ensures ∙ c.deref.ensures)) (one_keeps c.args.stack.now c.stack.commit-index c.commit-item.result c.stack-test.true c.commit-item.is c.requires)
