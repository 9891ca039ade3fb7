use Rattle.std.proofs.Common.{◌≡◌, ◌≤◌, ◌+◌, ℕ, suc, [], arith, refl, sym, ap, subst, ◌∙◌}
use Rattle.std.specs.Prelude.{◌==◌}
use Rattle.manifest_store.specs.Apart.{AreGrown, HaveDirs, LieDeep, is_under}
use Rattle.manifest_store.proofs.Along.{under_root}
use Rattle.manifest_store.proofs.Grown.{all_gathered, dirs_of, have_all, levels_on, more_of, next_reached, none_in, none_left, still_apart}
use Rattle.manifest_store.proofs.apart.add_apart.Goals as goal

pub add_children-requires : goal.add_children-requires
add_children-requires c = record { first = c.requires.first; second = c.requires.second; dir = (refl, refl) }

pub loop-init : goal.loop-init
loop-init c =
    let m = c.args.table.now.nodes in
    let none = c.new-level.ensures.items in
    let ensures = c.in_ok-add_children.ensures in
    record {
      grown = subst (λ ds. AreGrown m c.args.first.now c.args.second.now ds c.add_children.new.first c.add_children.new.second c.add_children.new.next.items) none ensures.grown;
      deep = ensures.deeper 0 (omega arith) (subst (LieDeep 1) (sym none) tt);
      reached = λ d path apart. ensures.under d path apart (under_root d path);
    }

pub level_under-requires : goal.level_under-requires
level_under-requires c =
    let m = c.args.table.now.nodes in
    let grown = c.loop.invariant.grown in
    record {
      first = grown.first_grown.gathered;
      second = grown.second_grown.gathered;
      level = subst (HaveDirs m c.loop.first c.loop.second) (sym c.deref.ensures.value) (grown.have tt);
    }

pub loop-preserved : goal.loop-preserved
loop-preserved c =
    let m = c.args.table.now.nodes in
    let p = c.args.first.now in
    let q = c.args.second.now in
    let p' = c.loop.first in
    let q' = c.loop.second in
    let grown = c.loop.invariant.grown in
    let ensures = c.in_ok-level.ensures in
    let same = c.deref.ensures.value in
    let next = c.in_ok-level.level.items in
    record {
      grown = levels_on m p q p' q' c.level_under.new.first c.level_under.new.second c.loop.level.items next grown ensures.grown;
      deep = subst (λ n. LieDeep n next) (one c.loop.counter) (ensures.deeper (suc c.loop.counter) (subst (LieDeep (suc c.loop.counter)) (sym same) c.loop.invariant.deep));
      reached = λ d path apart.
          next_reached m p' q' c.level_under.new.first c.level_under.new.second c.loop.level.items next ensures.grown d
          (λ under. ensures.under d path (still_apart m p q [] p' q' c.loop.level.items grown d apart) (ap (λ ds. is_under ds d) same ∙ under))
          (c.loop.invariant.reached d path apart);
    }
  where
    one : (i : ℕ) → suc (suc i) ≡ suc (i + 1)
    one i = omega arith

pub returns-then-is_empty : goal.returns-then-is_empty
returns-then-is_empty c =
    let m = c.args.table.now.nodes in
    let p = c.args.first.now in
    let q = c.args.second.now in
    let p' = c.loop.first in
    let q' = c.loop.second in
    let level = c.loop.level.items in
    let grown = c.loop.invariant.grown in
    let none = ap (λ n. n == 0) (sym c.loop.level.ok.0) ∙ sym c.is_empty.ensures ∙ c.if-is_empty.true in
    record {
      first_root = (grown.first_grown.roots, grown.first_grown.root);
      second_root = (grown.second_grown.roots, grown.second_grown.root);
      first_dirs = dirs_of m p p' grown.first_grown;
      second_dirs = dirs_of m q q' grown.second_grown;
      first_more = more_of m p p' grown.first_grown;
      second_more = more_of m q q' grown.second_grown;
      gathered = all_gathered m p q p' q' level grown (λ d path apart. have_all m p' q' level d (none_in level d none) (c.loop.invariant.reached d path apart));
    }

pub returns : goal.returns
returns c =
    let m = c.args.table.now.nodes in
    let p = c.args.first.now in
    let q = c.args.second.now in
    let p' = c.loop.first in
    let q' = c.loop.second in
    let level = c.loop.level.items in
    let grown = c.loop.invariant.grown in
    let i = c.loop.counter in
    let most : 4096 ≤ suc i = omega (arith, c.loop-test.false) in
    record {
      first_root = (grown.first_grown.roots, grown.first_grown.root);
      second_root = (grown.second_grown.roots, grown.second_grown.root);
      first_dirs = dirs_of m p p' grown.first_grown;
      second_dirs = dirs_of m q q' grown.second_grown;
      first_more = more_of m p p' grown.first_grown;
      second_more = more_of m q q' grown.second_grown;
      gathered = all_gathered m p q p' q' level grown (λ d path apart. have_all m p' q' level d (none_left level d (suc i) most c.loop.invariant.deep path) (c.loop.invariant.reached d path apart));
    }
