use Rattle.std.proofs.Common.{sym, ap, ◌∙◌}
use Rattle.std.specs.Arc.{arc_value}
use Rattle.changeset_model.specs.Changeset.{id_of}
use Rattle.changeset_store.specs.Shared.{values}
use Rattle.changeset_store.proofs.Sharing.{values_below, value_is}
use Rattle.changeset_store.proofs.Alone.{alone_apart, alone_one, none_here, alone_here, other_here, same_id_of, apart_ids, same_as}
use Rattle.changeset_store.proofs.collisions.is_other_among.Goals as goal

pub before-2-preserved-then-ne : goal.before-2-preserved-then-ne
before-2-preserved-then-ne c =
    let alone = alone_apart (arc_value c.earlier-item.result) c.args.commit.now (apart_ids (c.id.ensures ∙ ap id_of c.deref.ensures) c.id-in-before-2.ensures c.ne.ensures c.if-ne.true) in
    record {
      found = sym (none_here (values c.args.before.now) c.before-2.earlier-index (arc_value c.earlier-item.result) (values_below c.args.before.now c.before-2.earlier-index c.before-2-test.true) (value_is c.args.before.now c.before-2.earlier-index c.earlier-item.result c.before-2-test.true c.earlier-item.is) c.args.commit.now alone) ∙ c.before-2.invariant.found;
      alone = λ later. c.before-2.invariant.alone (alone_here (values c.args.before.now) c.before-2.earlier-index (arc_value c.earlier-item.result) (values_below c.args.before.now c.before-2.earlier-index c.before-2-test.true) (value_is c.args.before.now c.before-2.earlier-index c.earlier-item.result c.before-2-test.true c.earlier-item.is) c.args.commit.now alone later);
    }

pub returns-then-not-is_same-clause-found : goal.returns-then-not-is_same-clause-found
returns-then-not-is_same-clause-found c =
    sym (sym c.before-2.invariant.found ∙ other_here (values c.args.before.now) c.before-2.earlier-index (arc_value c.earlier-item.result) (values_below c.args.before.now c.before-2.earlier-index c.before-2-test.true) (value_is c.args.before.now c.before-2.earlier-index c.earlier-item.result c.before-2-test.true c.earlier-item.is) c.args.commit.now
    (same_id_of (c.id.ensures ∙ ap id_of c.deref.ensures) c.id-in-before-2.ensures c.ne.ensures c.if-ne.false)
    (sym c.if-not-is_same.true ∙ same_as c.is_same.ensures.same (c.changeset.ensures ∙ c.deref-in-before-2.ensures) c.changeset-in-before-2.ensures))

pub before-2-preserved : goal.before-2-preserved
before-2-preserved c =
    let alone = alone_one (arc_value c.earlier-item.result) c.args.commit.now (sym (c.changeset.ensures ∙ c.deref-in-before-2.ensures) ∙ c.is_same.ensures.one c.if-not-is_same.false ∙ c.changeset-in-before-2.ensures) in
    record {
      found = sym (none_here (values c.args.before.now) c.before-2.earlier-index (arc_value c.earlier-item.result) (values_below c.args.before.now c.before-2.earlier-index c.before-2-test.true) (value_is c.args.before.now c.before-2.earlier-index c.earlier-item.result c.before-2-test.true c.earlier-item.is) c.args.commit.now alone) ∙ c.before-2.invariant.found;
      alone = λ later. c.before-2.invariant.alone (alone_here (values c.args.before.now) c.before-2.earlier-index (arc_value c.earlier-item.result) (values_below c.args.before.now c.before-2.earlier-index c.before-2-test.true) (value_is c.args.before.now c.before-2.earlier-index c.earlier-item.result c.before-2-test.true c.earlier-item.is) c.args.commit.now alone later);
    }
