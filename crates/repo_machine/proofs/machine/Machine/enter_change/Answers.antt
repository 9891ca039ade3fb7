use Rattle.std.proofs.Common.{refl, sym, ap, ◌∙◌, ◌++◌, ◌∷◌, [], arith}
use Rattle.std.specs.Arc.{arc_value}
use Rattle.byte_fields.proofs.Lists.{option_or-None}
use Rattle.history_model.specs.History.{Change, with_id, content_len}
use Rattle.reply_model.specs.After.{entry_by}
use Rattle.repo_machine.specs.Held.{repository}
use Rattle.repo_machine.specs.Records.{history_of}
use Rattle.repo_machine.proofs.Within.{history_uploaded, within_uploaded}
use Rattle.repo_machine.proofs.Growing.{known-change, head-push, content_len-push}
use Rattle.repo_machine.proofs.Entered.{enterable_as, legal_grown, indexes_grown, places_stay}
use Rattle.repo_machine.proofs.Kept.{kept_grown}
use Rattle.repo_machine.proofs.HeldPolicy.{held_stays}
use Rattle.repo_machine.proofs.Tables.{joined_stays}
use Rattle.repo_machine.proofs.Touching.{covers_more}
use Rattle.repo_machine.proofs.machine.Machine.enter_change.Goals as goal

pub returns-clause-history : goal.returns-clause-history
returns-clause-history c = history_uploaded c.self.inside.changesets.known c.self.inside.entries.items c.self.invariant.0 _ refl c.args.who _ (arc_value c.args.commit) c.add-number.ensures.number _ c.push_reserved-2.ensures.items _ c.add-number.ensures.known ∙ ap (λ v. v.history ++ entry_by c.args.who (Change (arc_value c.args.commit)) ∷ []) c.self.view_is

pub returns-clause-legal : goal.returns-clause-legal
returns-clause-legal c =
    legal_grown c.self.invariant.1 c.args.who (Change (arc_value c.args.commit)) (enterable_as (repository c.args.self.now) (Change (arc_value c.args.commit)) (ap repository c.self.view_is) c.requires.can) refl _ (history_uploaded c.self.inside.changesets.known c.self.inside.entries.items c.self.invariant.0 _ refl c.args.who _ (arc_value c.args.commit) c.add-number.ensures.number _ c.push_reserved-2.ensures.items _ c.add-number.ensures.known)

pub invariant_of-self : goal.invariant_of-self
invariant_of-self c =
    let h = history_of c.self.inside.changesets.known c.self.inside.entries.items in
    let k = c.self.invariant.1 in
    let can = enterable_as (repository c.args.self.now) (Change (arc_value c.args.commit)) (ap repository c.self.view_is) c.requires.can in
    let grows = history_uploaded c.self.inside.changesets.known c.self.inside.entries.items c.self.invariant.0 _ refl c.args.who _ (arc_value c.args.commit) c.add-number.ensures.number _ c.push_reserved-2.ensures.items _ c.add-number.ensures.known in (
      within_uploaded c.self.inside.changesets.known c.self.inside.entries.items c.self.invariant.0 _ refl c.args.who _ (arc_value c.args.commit) c.add-number.ensures.number _ c.push_reserved-2.ensures.items _ c.add-number.ensures.known,
      indexes_grown k c.args.who (Change (arc_value c.args.commit)) can refl _ grows _ _ _ _
          (c.add-number.ensures.known ∙ ap (λ ks. ks ++ with_id (arc_value c.args.commit) ∷ []) k.known_are ∙ sym (known-change h c.args.who (arc_value c.args.commit) can.new.0))
          (λ name. k.heads_are name ∙ sym (head-push h c.args.who (Change (arc_value c.args.commit)) name))
          (λ y. k.lengths_are y ∙ sym (content_len-push h c.args.who (Change (arc_value c.args.commit)) y ∙ option_or-None (content_len h y)))
          (omega (arith, c.requires.length)),
      places_stay h (entry_by c.args.who (Change (arc_value c.args.commit))) _ c.self.invariant.2 _ grows,
      kept_grown c.self.inside.entries.items _ c.self.invariant.3 _ _ c.push_reserved-2.ensures.items refl _ (omega (arith, c.len.ensures)) _ c.push_reserved.ensures.items,
      held_stays h c.args.who (Change (arc_value c.args.commit)) refl c.self.inside.held c.self.invariant.4 _ grows,
      joined_stays h (entry_by c.args.who (Change (arc_value c.args.commit))) (λ x. refl) (λ x. refl) _ c.self.invariant.5 _ grows,
      covers_more c.self.inside.touches c.self.inside.changesets.known c.self.invariant.6 (with_id (arc_value c.args.commit) ∷ []) _ c.add-number.ensures.known,
    )
