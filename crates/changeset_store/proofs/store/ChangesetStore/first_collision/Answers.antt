use Rattle.std.proofs.Common.{List, sym, ap, subst, ◌∙◌, take}
use Rattle.std.specs.Prelude.{Some}
use Rattle.std.specs.Arc.{arc_value}
use Rattle.changeset_model.specs.Changeset.{Changeset, id_of}
use Rattle.reply_model.specs.Reply.{collides}
use Rattle.changeset_store.specs.Shared.{values}
use Rattle.changeset_store.specs.Grown.{IsAlone, with_known}
use Rattle.changeset_store.proofs.Sharing.{values_below, value_is, values-take}
use Rattle.changeset_store.proofs.Alone.{collision_here, none_so_far, alone_so_far}
use Rattle.changeset_store.proofs.store.ChangesetStore.first_collision.Goals as goal

pub returns-then-is_other_with-clause-found : goal.returns-then-is_other_with-clause-found
returns-then-is_other_with-clause-found c =
    let ks = c.args.self.now.known in
    ap Some (c.id.ensures ∙ ap id_of c.deref-then-is_other_with.ensures)
    ∙ sym (collision_here ks (values c.args.new.now) c.new.i (arc_value c.index-new-i.result) (values_below c.args.new.now c.new.i c.new-test.true) (value_is c.args.new.now c.new.i c.index-new-i.result c.new-test.true c.index-new-i.is)
    (sym ((λ i. collides (with_known ks (values-take c.args.new.now c.new.i i)) (c.deref.ensures i))) ∙ sym c.is_other_with.ensures.found ∙ c.if-is_other_with.true))
    ∙ c.new.invariant.found

pub new-preserved : goal.new-preserved
new-preserved c =
    let ks = c.args.self.now.known in
    let new = values c.args.new.now in
    let below = values_below c.args.new.now c.new.i c.new-test.true in
    let is = value_is c.args.new.now c.new.i c.index-new-i.result c.new-test.true c.index-new-i.is in
    record {
      found = none_so_far ks new c.new.i (arc_value c.index-new-i.result) below is
          (sym ((λ i. collides (with_known ks (values-take c.args.new.now c.new.i i)) (c.deref.ensures i))) ∙ sym c.is_other_with.ensures.found ∙ c.if-is_other_with.false)
          ∙ c.new.invariant.found;
      alone = λ later. c.new.invariant.alone (alone_so_far ks new c.new.i (arc_value c.index-new-i.result) below is
          (subst (IsAlone (with_known ks (take c.new.i new))) c.deref.ensures (subst (λ (before : List Changeset). IsAlone (with_known ks before) c.deref.result.now) (values-take c.args.new.now c.new.i) (c.is_other_with.ensures.alone c.if-is_other_with.false))) later);
    }
