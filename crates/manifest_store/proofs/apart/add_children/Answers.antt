use Rattle.std.proofs.Common.{◌++◌, ◌∷◌, [], inr, arith, sym, ap, subst, ◌∙◌}
use Rattle.std.specs.List.{AllByRecursion}
use Rattle.changeset_model.specs.Path.{is_prefix}
use Rattle.manifest_laws.proofs.Flat.{strict_parts}
use Rattle.derive_step.specs.Renewal.{before_of}
use Rattle.derive_step.specs.Views.{before_seen}
use Rattle.manifest_store.specs.Apart.{IsChildIn, is_named}
use Rattle.manifest_store.specs.Reads.{dir_of}
use Rattle.manifest_store.proofs.Along.{none_behind, one_on}
use Rattle.manifest_store.proofs.Differing.{none_first, none_second}
use Rattle.manifest_store.proofs.Grown.{ids_still, parents_on, same_parents, still_apart, still_have, still_reached}
use Rattle.manifest_store.proofs.Levels.{each_at}
use Rattle.manifest_store.proofs.Named.{some_named}
use Rattle.manifest_store.proofs.apart.add_children.Goals as goal

pub returns-in_default : goal.returns-in_default
returns-in_default c =
    let m = c.args.table.now.nodes in
    let p = c.args.first.now in
    let q = c.args.second.now in
    let d0 = dir_of c.args.dir in
    record {
      grown = same_parents m p q c.args.next.now.items c.requires.first c.requires.second;
      under = λ d path apart under. none_first m (before_seen p.root) (before_seen q.root) d0 d (sym c.requires.dir.0 ∙ sym c.nodes_at.ensures ∙ ap before_of c.in_default.is) apart (strict_parts d0 d under).0;
      deeper = λ n less all. all;
    }

pub returns-in_default-nodes_at : goal.returns-in_default-nodes_at
returns-in_default-nodes_at c =
    let m = c.args.table.now.nodes in
    let p = c.args.first.now in
    let q = c.args.second.now in
    let d0 = dir_of c.args.dir in
    record {
      grown = same_parents m p q c.args.next.now.items c.requires.first c.requires.second;
      under = λ d path apart under. none_second m (before_seen p.root) (before_seen q.root) d0 d (sym c.requires.dir.1 ∙ sym c.nodes_at-2.ensures ∙ ap before_of c.in_default-nodes_at.is) apart (strict_parts d0 d under).0;
      deeper = λ n less all. all;
    }

pub loop-child-init : goal.loop-child-init
loop-child-init c = record {
  grown = same_parents c.args.table.now.nodes c.args.first.now c.args.second.now c.args.next.now.items c.requires.first c.requires.second;
  under = λ d path apart h. inr h;
  deeper = λ n less all. all;
}

pub add_child-requires : goal.add_child-requires
add_child-requires c =
    let m = c.args.table.now.nodes in
    let p = c.args.first.now in
    let q = c.args.second.now in
    let one = before_seen c.in-Some.one.now in
    let two = before_seen c.in-Some-nodes_at.two.now in
    let x = c.child-item.result in
    let cs = c.deref-child-items.result.now in
    let d0 = dir_of c.args.dir in
    let grown = c.loop-child.invariant.grown in
    let is = each_at (IsChildIn one two) cs c.loop-child.child-index x c.loop-child-test.true c.child-item.is (subst (AllByRecursion (IsChildIn one two)) (sym c.deref-child-items.ensures.value) c.in_ok-children.ensures.children) in
    record {
      first = grown.first_grown.gathered;
      second = grown.second_grown.gathered;
      dir = still_have m p q c.args.next.now.items c.loop-child.first c.loop-child.second c.loop-child.next.items grown d0 c.requires.dir;
      first_ids = ids_still m p c.loop-child.first grown.first_grown d0 x.name one x.first c.requires.dir.0 (sym c.nodes_at.ensures ∙ ap before_of c.in-Some.is) is.first;
      second_ids = ids_still m q c.loop-child.second grown.second_grown d0 x.name two x.second c.requires.dir.1 (sym c.nodes_at-2.ensures ∙ ap before_of c.in-Some-nodes_at.is) is.second;
    }

pub loop-child-preserved : goal.loop-child-preserved
loop-child-preserved c =
    let m = c.args.table.now.nodes in
    let p = c.args.first.now in
    let q = c.args.second.now in
    let was = c.args.next.now.items in
    let p' = c.loop-child.first in
    let q' = c.loop-child.second in
    let next = c.loop-child.next.items in
    let grown = c.loop-child.invariant.grown in
    let more = c.in_ok-add_child.ensures.grown in
    let d0 = dir_of c.args.dir in
    record {
      grown = parents_on m p q was p' q' next grown c.add_child.new.first c.add_child.new.second c.add_child.new.next.items more;
      under = λ d path apart h.
          one_on (λ e. is_prefix (d0 ++ e.name ∷ []) d) c.deref-child-items.result.now c.loop-child.child-index c.child-item.result c.loop-child-test.true c.child-item.is
          (still_reached m p' q' next c.add_child.new.first c.add_child.new.second c.add_child.new.next.items more d)
          (λ under. c.in_ok-add_child.ensures.under d path (still_apart m p q was p' q' next grown d apart) under)
          (c.loop-child.invariant.under d path apart h);
      deeper = λ n less all. c.in_ok-add_child.ensures.deeper n less (c.loop-child.invariant.deeper n less all);
    }

pub returns : goal.returns
returns c =
    let m = c.args.table.now.nodes in
    let a = before_seen c.args.first.now.root in
    let b = before_seen c.args.second.now.root in
    let one = before_seen c.in-Some.one.now in
    let two = before_seen c.in-Some-nodes_at.two.now in
    let cs = c.deref-child-items.result.now in
    let d0 = dir_of c.args.dir in
    record {
      grown = c.loop-child.invariant.grown;
      under = λ d path apart under.
          none_behind (λ e. is_prefix (d0 ++ e.name ∷ []) d) cs c.loop-child.child-index (omega (arith, c.loop-child-test.false))
          (c.loop-child.invariant.under d path apart
          (some_named m a b one two d0 d cs (sym c.requires.dir.0 ∙ sym c.nodes_at.ensures ∙ ap before_of c.in-Some.is) (sym c.requires.dir.1 ∙ sym c.nodes_at-2.ensures ∙ ap before_of c.in-Some-nodes_at.is) (λ n h. ap (is_named n) c.deref-child-items.ensures.value ∙ c.in_ok-children.ensures.whole n h) apart under));
      deeper = c.loop-child.invariant.deeper;
    }
