use Rattle.std.proofs.Common.{refl, sym, ap, ◌∙◌, arith}
use Rattle.byte_fields.proofs.Lists.{option_or-None}
use Rattle.history_model.specs.History.{Policy, content_len}
use Rattle.reply_model.specs.After.{entry_by}
use Rattle.repo_machine.specs.Held.{repository}
use Rattle.repo_machine.specs.Records.{history_of}
use Rattle.repo_machine.proofs.Within.{history_pushed_same, within_pushed_same}
use Rattle.repo_machine.proofs.Growing.{known-policy, head-push, content_len-push}
use Rattle.repo_machine.proofs.Entered.{enterable_as, legal_grown, indexes_grown, places_stay}
use Rattle.repo_machine.proofs.Kept.{kept_grown}
use Rattle.repo_machine.proofs.Logging.{count_is}
use Rattle.repo_machine.proofs.HeldPolicy.{last_set}
use Rattle.repo_machine.proofs.Tables.{joined_stays}
use Rattle.repo_machine.proofs.machine.Machine.enter_policy.Goals as goal

pub returns-clause-legal : goal.returns-clause-legal
returns-clause-legal c =
    legal_grown c.self.invariant.1 c.args.who (Policy c.args.policy.kept.value.caller c.args.policy.kept.value.text.items) (enterable_as (repository c.args.self.now) (Policy c.args.policy.kept.value.caller c.args.policy.kept.value.text.items) (ap repository c.self.view_is) c.requires.can) refl _ (history_pushed_same c.self.inside.changesets.known c.self.inside.entries.items c.self.invariant.0 _ _ refl _ c.push_reserved-2.ensures.items)

pub invariant_of-self : goal.invariant_of-self
invariant_of-self c =
    let h = history_of c.self.inside.changesets.known c.self.inside.entries.items in
    let k = c.self.invariant.1 in
    let body = Policy c.args.policy.kept.value.caller c.args.policy.kept.value.text.items in
    let can = enterable_as (repository c.args.self.now) body (ap repository c.self.view_is) c.requires.can in
    let grows = history_pushed_same c.self.inside.changesets.known c.self.inside.entries.items c.self.invariant.0 _ _ refl _ c.push_reserved-2.ensures.items in (
      within_pushed_same c.self.inside.changesets.known c.self.inside.entries.items c.self.invariant.0 _ _ refl _ c.push_reserved-2.ensures.items tt,
      indexes_grown k c.args.who body can refl _ grows _ _ _ _
          (k.known_are ∙ sym (known-policy h c.args.who c.args.policy.kept.value.caller c.args.policy.kept.value.text.items))
          (λ name. k.heads_are name ∙ sym (head-push h c.args.who body name))
          (λ y. k.lengths_are y ∙ sym (content_len-push h c.args.who body y ∙ option_or-None (content_len h y)))
          (omega (arith, c.requires.length)),
      places_stay h (entry_by c.args.who body) _ c.self.invariant.2 _ grows,
      kept_grown c.self.inside.entries.items _ c.self.invariant.3 _ _ c.push_reserved-2.ensures.items refl _ (omega (arith, c.len-2.ensures)) _ c.push_reserved.ensures.items,
      last_set h c.args.who c.args.policy.kept.value.caller c.args.policy.kept.value.text.items c.args.policy.rules _ c.requires.read (count_is c.self.inside.changesets.known c.self.inside.entries.items c.self.inside.kept.items c.self.invariant.3 _ (omega (arith, c.len.ensures))) _ grows,
      joined_stays h (entry_by c.args.who body) (λ x. refl) (λ x. refl) _ c.self.invariant.5 _ grows,
      c.self.invariant.6,
    )
