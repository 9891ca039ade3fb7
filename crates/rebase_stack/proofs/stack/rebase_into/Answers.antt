use Rattle.std.proofs.Common.{◌∷◌, [], ◌++◌, ◌+◌, drop, map, sym, ap, subst, ◌∙◌}
use Rattle.std.specs.Arc.{arc_value}
use Rattle.std.specs.Int.{w32}
use Rattle.byte_fields.specs.Bytes.{sized}
use Rattle.bonsai.specs.Encodings.{encodings}
use Rattle.bonsai.specs.Making.{KeepsOnParent}
use Rattle.changeset_model.specs.Changeset.{id_of, spelling}
use Rattle.history_model.specs.Pushrebase.{on_parent, rewrite}
use Rattle.rebase_stack.proofs.Rewriting.{rewrite_one_more, encode_one_more, one_keeps}
use Rattle.rebase_stack.proofs.stack.rebase_into.Goals as goal

pub stack-preserved : goal.stack-preserved
stack-preserved c =
    let made = c.stack.commits.items in
    let out = c.stack.out.items in
    let parent = c.stack.parent in
    let moment = c.args.moment in
    let rest = map arc_value (drop (c.stack.commit-index + 1) c.args.stack.now) in
    let rebased = c.in_ok-rebased.rebased in
    let rebased_is = c.in_ok-rebased.ensures.commit ∙ ap (on_parent parent moment) c.deref.ensures in
    record {
      made =
          ap (λ cs. cs ++ rewrite rest c.id-parent.result moment) c.in_ok-push.ensures.items
          ∙ ap (λ id. (made ++ rebased ∷ []) ++ rewrite rest id moment) c.id-parent.ensures
          ∙ ap (λ m. (made ++ m ∷ []) ++ rewrite rest (id_of m) moment) rebased_is
          ∙ rewrite_one_more made c.args.stack.now c.stack.commit-index c.commit-item.result parent moment c.stack-test.true c.commit-item.is
          ∙ c.stack.invariant.made;
      written =
          ap (λ s. s ++ encodings (rewrite rest c.id-parent.result moment)) (c.in_ok-rebased.ensures.bytes ∙ ap (λ m. out ++ sized w32 (spelling (on_parent parent moment m))) c.deref.ensures)
          ∙ ap (λ id. (out ++ sized w32 (spelling (on_parent parent moment (arc_value c.commit-item.result)))) ++ encodings (rewrite rest id moment)) (c.id-parent.ensures ∙ ap id_of rebased_is)
          ∙ encode_one_more out c.args.stack.now c.stack.commit-index c.commit-item.result parent moment c.stack-test.true c.commit-item.is
          ∙ c.stack.invariant.written;
    }

pub rebase_one-requires : goal.rebase_one-requires
rebase_one-requires c = subst KeepsOnParent (sym c.deref.ensures) (one_keeps c.args.stack.now c.stack.commit-index c.commit-item.result c.stack-test.true c.commit-item.is c.requires)
