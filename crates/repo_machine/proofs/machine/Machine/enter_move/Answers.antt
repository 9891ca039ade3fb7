use Rattle.std.proofs.Common.{refl, sym, ap, ◌∙◌, arith}
use Rattle.std.specs.Prelude.{cond, bytes_eq}
use Rattle.byte_fields.proofs.Lists.{option_or-None}
use Rattle.history_model.specs.History.{Book, content_len}
use Rattle.history_model.specs.Bookmark.{head}
use Rattle.reply_model.specs.After.{entry_by}
use Rattle.repo_events.specs.Entries.{move_of}
use Rattle.repo_machine.specs.Held.{repository}
use Rattle.repo_machine.specs.Records.{history_of}
use Rattle.repo_machine.proofs.Within.{history_pushed_same, within_pushed_same}
use Rattle.repo_machine.proofs.Growing.{known-move, head-move, heads_set, content_len-push}
use Rattle.repo_machine.proofs.Entered.{enterable_as, legal_grown, indexes_grown, places_stay}
use Rattle.repo_machine.proofs.Kept.{kept_grown}
use Rattle.repo_machine.proofs.HeldPolicy.{held_stays}
use Rattle.repo_machine.proofs.Tables.{joined_stays}
use Rattle.repo_machine.proofs.machine.Machine.enter_move.Goals as goal

pub returns-clause-legal : goal.returns-clause-legal
returns-clause-legal c =
    legal_grown c.self.invariant.1 c.args.who (Book (move_of c.args.movement.value)) (enterable_as (repository c.args.self.now) (Book (move_of c.args.movement.value)) (ap repository c.self.view_is) c.requires.can) refl _ (history_pushed_same c.self.inside.changesets.known c.self.inside.entries.items c.self.invariant.0 _ _ refl _ c.push_reserved-2.ensures.items)

pub invariant_of-self : goal.invariant_of-self
invariant_of-self c =
    let h = history_of c.self.inside.changesets.known c.self.inside.entries.items in
    let k = c.self.invariant.1 in
    let can = enterable_as (repository c.args.self.now) (Book (move_of c.args.movement.value)) (ap repository c.self.view_is) c.requires.can in
    let grows = history_pushed_same c.self.inside.changesets.known c.self.inside.entries.items c.self.invariant.0 _ _ refl _ c.push_reserved-2.ensures.items in (
      within_pushed_same c.self.inside.changesets.known c.self.inside.entries.items c.self.invariant.0 _ _ refl _ c.push_reserved-2.ensures.items tt,
      indexes_grown k c.args.who (Book (move_of c.args.movement.value)) can refl _ grows _ _ _ _
          (k.known_are ∙ sym (known-move h c.args.who (move_of c.args.movement.value)))
          (λ name. heads_set _ _ h c.deref.result.now.name c.deref-2.result.now.to k.heads_are c.set_head.ensures.0 name ∙ (λ i. cond (bytes_eq name (c.deref.ensures i).name) (c.deref-2.ensures i).to (head h name)) ∙ sym (head-move h c.args.who (move_of c.args.movement.value) name))
          (λ y. k.lengths_are y ∙ sym (content_len-push h c.args.who (Book (move_of c.args.movement.value)) y ∙ option_or-None (content_len h y)))
          (omega (arith, c.requires.length)),
      places_stay h (entry_by c.args.who (Book (move_of c.args.movement.value))) _ c.self.invariant.2 _ grows,
      kept_grown c.self.inside.entries.items _ c.self.invariant.3 _ _ c.push_reserved-2.ensures.items refl _ (omega (arith, c.len.ensures)) _ c.push_reserved.ensures.items,
      held_stays h c.args.who (Book (move_of c.args.movement.value)) refl c.self.inside.held c.self.invariant.4 _ grows,
      joined_stays h (entry_by c.args.who (Book (move_of c.args.movement.value))) (λ x. refl) (λ x. refl) _ c.self.invariant.5 _ grows,
      c.self.invariant.6,
    )
