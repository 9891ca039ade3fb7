use Rattle.std.proofs.Common.{refl, sym, ap, ◌∙◌, arith}
use Rattle.std.specs.Prelude.{cond, bytes_eq, None, Some}
use Rattle.std.specs.Arc.{arc_value}
use Rattle.content_table.specs.Table.{joined, places}
use Rattle.repo_machine.specs.Held.{repository}
use Rattle.repo_machine.specs.Made.{whole_made}
use Rattle.repo_machine.specs.Records.{history_of}
use Rattle.repo_machine.proofs.Within.{history_pushed_same, within_pushed_same}
use Rattle.repo_machine.proofs.Growing.{known-whole, head-push, content_len-whole}
use Rattle.repo_machine.proofs.Entered.{enterable_as, legal_grown, indexes_grown}
use Rattle.repo_machine.proofs.Kept.{kept_grown}
use Rattle.repo_machine.proofs.HeldPolicy.{held_stays}
use Rattle.repo_machine.proofs.Tables.{lengths_entered, places_entered, joined_entered, joined_new, places_kept}
use Rattle.repo_machine.proofs.machine.Machine.enter_whole.Goals as goal

pub returns-clause-legal : goal.returns-clause-legal
returns-clause-legal c =
    legal_grown c.self.invariant.1 c.args.who (whole_made c.args.whole) (enterable_as (repository c.args.self.now) (whole_made c.args.whole) (ap repository c.self.view_is) c.requires.can) refl _
    (history_pushed_same c.self.inside.changesets.known c.self.inside.entries.items c.self.invariant.0 _ _ refl _ c.push_reserved-2.ensures.items)

pub invariant_of-self : goal.invariant_of-self
invariant_of-self c =
    let h = history_of c.self.inside.changesets.known c.self.inside.entries.items in
    let k = c.self.invariant.1 in
    let w = c.args.whole in
    let parts = (arc_value w.kept.value.parts).items in
    let can = enterable_as (repository c.args.self.now) (whole_made w) (ap repository c.self.view_is) c.requires.can in
    let grows = history_pushed_same c.self.inside.changesets.known c.self.inside.entries.items c.self.invariant.0 _ _ refl _ c.push_reserved-2.ensures.items in (
      within_pushed_same c.self.inside.changesets.known c.self.inside.entries.items c.self.invariant.0 _ _ refl _ c.push_reserved-2.ensures.items tt,
      indexes_grown k c.args.who (whole_made w) can refl _ grows _ _ _ _
          (k.known_are ∙ sym (known-whole h c.args.who w.kept.value.id w.kept.value.length parts))
          (λ name. k.heads_are name ∙ sym (head-push h c.args.who (whole_made w) name))
          (λ y. lengths_entered c.self.inside.contents c.enter.new.self c.deref-joined.result.now.id _ c.enter.ensures.entered y ∙ (λ i. cond (bytes_eq (c.deref-joined.ensures i).id y) (Some (c.deref-joined.ensures i).length) (k.lengths_are y i)) ∙ sym (content_len-whole h c.args.who w.kept.value.id w.kept.value.length parts y can.new))
          (omega (arith, c.requires.length)),
      places_kept h c.args.who w.kept.value.id w.kept.value.length parts can.new _ _ c.self.invariant.2 (λ y. places_entered c.self.inside.contents c.enter.new.self c.deref-joined.result.now.id _ c.enter.ensures.entered y ∙ (λ i. cond (bytes_eq (c.deref-joined.ensures i).id y) None (places c.self.inside.contents y))) _ grows,
      kept_grown c.self.inside.entries.items _ c.self.invariant.3 _ _ c.push_reserved-2.ensures.items refl _ (omega (arith, c.len.ensures)) _ c.push_reserved.ensures.items,
      held_stays h c.args.who (whole_made w) refl c.self.inside.held c.self.invariant.4 _ grows,
      joined_new h c.args.who w.kept.value.id w.kept.value.length parts can.new _ _ c.self.invariant.5 (λ y. joined_entered c.self.inside.contents c.enter.new.self c.deref-joined.result.now.id _ c.enter.ensures.entered y ∙ (λ i. cond (bytes_eq (c.deref-joined.ensures i).id y) (Some (c.requires.shared i).items) (joined c.self.inside.contents y))) _ grows,
      c.self.invariant.6,
    )
