use Rattle.std.proofs.Common.{◌≡◌, ◌++◌, ◌∷◌, map, sym, ap, subst, ◌∙◌, arith, length}
use Rattle.std.specs.Arc.{arc_value}
use Rattle.std.specs.Vec.Iter.{into_iter_items}
use Rattle.changeset_store.specs.Store.{changeset_at}
use Rattle.changeset_store.specs.Shared.{values}
use Rattle.changeset_store.specs.Grown.{adding, CanAdd}
use Rattle.changeset_store.proofs.Added.{numbers_noted, within_noted}
use Rattle.changeset_store.proofs.store.ChangesetStore.add_all.Goals as goal

pub loop-commit-preserved : goal.loop-commit-preserved
loop-commit-preserved c =
    let items = c.in-Some.ensures.items in
    let rest = values (into_iter_items c.next.new.self) in
    let one = arc_value c.in-Some.commit in
    let shared : values (into_iter_items c.loop-commit.rest) ≡ one ∷ rest = ap values items in
    let can = subst (CanAdd c.loop-commit.self.known) shared c.loop-commit.invariant.can in
    record {
      known = (λ i. adding (c.add_one-number.ensures.known i) rest) ∙ ap (adding c.loop-commit.self.known) (sym shared) ∙ c.loop-commit.invariant.known;
      can = subst (λ ks. CanAdd ks rest) (sym c.add_one-number.ensures.known) can.1;
      room = (let long = ap length items in omega arith);
      capacity = (let long = ap length items in omega arith);
      numbers = numbers_noted c.loop-commit.self.known c.add_one-number.new.self.known one c.add_one-number.ensures.known c.loop-commit.numbers.items c.loop-commit.invariant.within
          c.add_one-number.result c.push_reserved.new.self.items c.push_reserved.ensures.items rest (values c.args.new.items) c.add_one-number.ensures.number
          (ap (λ rest. map (changeset_at c.loop-commit.self.known) c.loop-commit.numbers.items ++ rest) (sym shared) ∙ c.loop-commit.invariant.numbers);
      within = within_noted c.loop-commit.self.known c.add_one-number.new.self.known one c.add_one-number.ensures.known c.loop-commit.numbers.items c.loop-commit.invariant.within
          c.add_one-number.result c.push_reserved.new.self.items c.push_reserved.ensures.items c.add_one-number.ensures.within;
    }
