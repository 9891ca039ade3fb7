use Rattle.std.proofs.Common.{◌≡◌, ◌++◌, ◌∷◌, [], inr, sym, subst, ◌∙◌}
use Rattle.std.specs.Prelude.{Some}
use Rattle.std.specs.List.{AllByRecursion}
use Rattle.byte_fields.proofs.Lists.{all_push}
use Rattle.derive_step.specs.Views.{before_seen}
use Rattle.manifest_store.specs.Apart.{IsApartAt, IsChildIn}
use Rattle.manifest_store.proofs.Named.{child_named, passed_child, pushed_child}
use Rattle.manifest_store.proofs.apart.children_apart.Goals as goal
use Rattle.manifest_store.proofs.apart.children_apart.Goals.{in-Some+in_ok-push, in_default}

pub loop-child-init : goal.loop-child-init
loop-child-init c =
    let a = before_seen c.args.first.now in
    let b = before_seen c.args.second.now in
    record {
      children = subst (AllByRecursion (IsChildIn a b)) (sym c.new-apart.ensures.items) tt;
      whole = λ n h. inr (child_named c.args.first.now c.args.second.now c.deref-child-items.result.now n c.deref-child-items.ensures.value h);
    }

pub loop-child-preserved : goal.loop-child-preserved
loop-child-preserved c =
    let a = before_seen c.args.first.now in
    let b = before_seen c.args.second.now in
    let es = c.deref-child-items.result.now in
    let i = c.loop-child.child-index in
    let x = c.child-item.result in
    let old = c.loop-child.apart.items in
    let new = c.match-branch-2.apart.items in
    elim c.match-branch-2.branch [
      | in-Some+in_ok-push w ↦
          let at : IsApartAt a b x.name (Some w.in-Some.both) = subst (IsApartAt a b x.name) w.in-Some.is c.in_ok-both.ensures in
          let pushed : new ≡ old ++ w.in-Some.both ∷ [] = (λ i. (w.apart-is i).items) ∙ w.in_ok-push.ensures.items in
          record {
            children = subst (AllByRecursion (IsChildIn a b)) (sym pushed) (all_push (IsChildIn a b) old w.in-Some.both c.loop-child.invariant.children at.1);
            whole = pushed_child a b es i x c.loop-child-test.true c.child-item.is old new c.loop-child.invariant.whole w.in-Some.both at.0 pushed;
          }
      | in_default w ↦
          record {
            children = subst (AllByRecursion (IsChildIn a b)) (sym (λ i. (w.apart-is i).items)) c.loop-child.invariant.children;
            whole = passed_child a b es i x c.loop-child-test.true c.child-item.is old new c.loop-child.invariant.whole (subst (IsApartAt a b x.name) w.in_default.is c.in_ok-both.ensures) (λ i. (w.apart-is i).items);
          }
    ]
