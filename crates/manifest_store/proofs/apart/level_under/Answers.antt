use Rattle.std.proofs.Common.{◌≤◌, [], inr, length, suc, arith, sym, subst}
use Rattle.changeset_model.specs.Path.{is_strict_prefix}
use Rattle.manifest_store.specs.Apart.{AreGrown, HaveDir, LieDeep}
use Rattle.manifest_store.proofs.Along.{none_behind, one_on}
use Rattle.manifest_store.proofs.Levels.{each_at}
use Rattle.manifest_store.proofs.Grown.{parents_on, same_parents, still_apart, still_have, still_reached}
use Rattle.manifest_store.proofs.apart.level_under.Goals as goal

pub loop-dir-init : goal.loop-dir-init
loop-dir-init c =
    let m = c.args.table.now.nodes in
    let p = c.args.first.now in
    let q = c.args.second.now in
    record {
      grown = subst (λ next. AreGrown m p q [] p q next) (sym c.new-next.ensures.items) (same_parents m p q [] c.requires.first c.requires.second);
      under = λ d path apart h. inr h;
      deeper = λ n all. subst (LieDeep (suc n)) (sym c.new-next.ensures.items) tt;
    }

pub add_children-requires : goal.add_children-requires
add_children-requires c =
    let m = c.args.table.now.nodes in
    let p = c.args.first.now in
    let q = c.args.second.now in
    let grown = c.loop-dir.invariant.grown in
    record {
      first = grown.first_grown.gathered;
      second = grown.second_grown.gathered;
      dir = still_have m p q [] c.loop-dir.first c.loop-dir.second c.loop-dir.next.items grown c.dir-item.result (each_at (HaveDir m p q) c.args.level.now c.loop-dir.dir-index c.dir-item.result c.loop-dir-test.true c.dir-item.is c.requires.level);
    }

pub loop-dir-preserved : goal.loop-dir-preserved
loop-dir-preserved c =
    let m = c.args.table.now.nodes in
    let p = c.args.first.now in
    let q = c.args.second.now in
    let p' = c.loop-dir.first in
    let q' = c.loop-dir.second in
    let next = c.loop-dir.next.items in
    let grown = c.loop-dir.invariant.grown in
    let more = c.in_ok-add_children.ensures.grown in
    let level = c.args.level.now in
    let i = c.loop-dir.dir-index in
    let x = c.dir-item.result in
    record {
      grown = parents_on m p q [] p' q' next grown c.add_children.new.first c.add_children.new.second c.add_children.new.next.items more;
      under = λ d path apart h.
          one_on (λ e. is_strict_prefix e d) level i x c.loop-dir-test.true c.dir-item.is
          (still_reached m p' q' next c.add_children.new.first c.add_children.new.second c.add_children.new.next.items more d)
          (λ under. c.in_ok-add_children.ensures.under d path (still_apart m p q [] p' q' next grown d apart) under)
          (c.loop-dir.invariant.under d path apart h);
      deeper = λ n all. c.in_ok-add_children.ensures.deeper n (each_at (λ d. n ≤ length d) level i x c.loop-dir-test.true c.dir-item.is all) (c.loop-dir.invariant.deeper n all);
    }

pub returns : goal.returns
returns c = record {
  grown = c.loop-dir.invariant.grown;
  under = λ d path apart h. none_behind (λ e. is_strict_prefix e d) c.args.level.now c.loop-dir.dir-index (omega (arith, c.loop-dir-test.false)) (c.loop-dir.invariant.under d path apart h);
  deeper = c.loop-dir.invariant.deeper;
}
