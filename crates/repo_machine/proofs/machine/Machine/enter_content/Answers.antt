use Rattle.std.proofs.Common.{◌+◌, refl, sym, ap, ◌∙◌, arith}
use Rattle.std.specs.Prelude.{cond, bytes_eq, Some}
use Rattle.history_model.specs.History.{Content}
use Rattle.repo_machine.specs.Held.{repository}
use Rattle.repo_machine.specs.Records.{history_of}
use Rattle.repo_machine.proofs.Within.{history_pushed_same, within_pushed_same}
use Rattle.repo_machine.proofs.Growing.{known-content, head-push, content_len-content}
use Rattle.repo_machine.proofs.Entered.{enterable_as, legal_grown, indexes_grown, places_put}
use Rattle.repo_machine.proofs.Kept.{kept_grown}
use Rattle.repo_machine.proofs.HeldPolicy.{held_stays}
use Rattle.repo_machine.proofs.Tables.{lengths_entered, places_entered, joined_entered, joined_kept}
use Rattle.repo_machine.proofs.machine.Machine.enter_content.Goals as goal

pub returns-clause-legal : goal.returns-clause-legal
returns-clause-legal c =
    legal_grown c.self.invariant.1 c.args.who (Content c.args.id c.args.length) (enterable_as (repository c.args.self.now) (Content c.args.id c.args.length) (ap repository c.self.view_is) c.requires.can) refl _
    (history_pushed_same c.self.inside.changesets.known c.self.inside.entries.items c.self.invariant.0 _ _ refl _ c.push_reserved-2.ensures.items)

pub invariant_of-self : goal.invariant_of-self
invariant_of-self c =
    let h = history_of c.self.inside.changesets.known c.self.inside.entries.items in
    let k = c.self.invariant.1 in
    let can = enterable_as (repository c.args.self.now) (Content c.args.id c.args.length) (ap repository c.self.view_is) c.requires.can in
    let grows = history_pushed_same c.self.inside.changesets.known c.self.inside.entries.items c.self.invariant.0 _ _ refl _ c.push_reserved-2.ensures.items in (
      within_pushed_same c.self.inside.changesets.known c.self.inside.entries.items c.self.invariant.0 _ _ refl _ c.push_reserved-2.ensures.items tt,
      indexes_grown k c.args.who (Content c.args.id c.args.length) can refl _ grows _ _ _ _
          (k.known_are ∙ sym (known-content h c.args.who c.args.id c.args.length))
          (λ name. k.heads_are name ∙ sym (head-push h c.args.who (Content c.args.id c.args.length) name))
          (λ y. lengths_entered c.self.inside.contents c.enter.new.self c.args.id _ c.enter.ensures.entered y ∙ ap (cond (bytes_eq c.args.id y) (Some c.args.length)) (k.lengths_are y) ∙ sym (content_len-content h c.args.who c.args.id c.args.length y can.new))
          (omega arith),
      places_put h c.args.who c.args.id _ _ _ c.self.invariant.2 (places_entered c.self.inside.contents c.enter.new.self c.args.id _ c.enter.ensures.entered) _ grows (ap (λ n. n + 5) k.size_is),
      kept_grown c.self.inside.entries.items _ c.self.invariant.3 _ _ c.push_reserved-2.ensures.items refl _ (omega (arith, c.len.ensures)) _ c.push_reserved.ensures.items,
      held_stays h c.args.who (Content c.args.id c.args.length) refl c.self.inside.held c.self.invariant.4 _ grows,
      joined_kept h c.args.who c.args.id c.args.length can.new _ _ c.self.invariant.5 (joined_entered c.self.inside.contents c.enter.new.self c.args.id _ c.enter.ensures.entered) _ grows,
      c.self.invariant.6,
    )
