use Rattle.std.proofs.Common.{◌≡◌, false, refl, sym, subst}
use Rattle.std.specs.Prelude.{◌&&◌}
use Rattle.reply_model.specs.After.{entry_by}
use Rattle.history_model.specs.History.{Fault, is_down}
use Rattle.repo_machine.proofs.Within.{history_pushed_same, within_pushed_same}
use Rattle.repo_machine.proofs.Entered.{legal_faulted, indexes_faulted, places_stay}
use Rattle.repo_machine.proofs.Kept.{kept_stays}
use Rattle.repo_machine.proofs.HeldPolicy.{held_stays}
use Rattle.repo_machine.proofs.Tables.{joined_stays}
use Rattle.repo_machine.proofs.machine.Machine.fault.Goals as goal

pub returns-clause-legal : goal.returns-clause-legal
returns-clause-legal c =
    legal_faulted c.self.invariant.1 c.args.who c.args.breaking (subst (λ v. (c.args.breaking && is_down v.history) ≡ false) (sym c.self.view_is) c.requires.once) _ (history_pushed_same c.self.inside.changesets.known c.self.inside.entries.items c.self.invariant.0 _ _ refl _ c.push_reserved.ensures.items)

pub invariant_of-self : goal.invariant_of-self
invariant_of-self c =
    let grows = history_pushed_same c.self.inside.changesets.known c.self.inside.entries.items c.self.invariant.0 _ _ refl _ c.push_reserved.ensures.items in (
      within_pushed_same c.self.inside.changesets.known c.self.inside.entries.items c.self.invariant.0 _ _ refl _ c.push_reserved.ensures.items tt,
      indexes_faulted c.self.invariant.1 c.args.who c.args.breaking (subst (λ v. (c.args.breaking && is_down v.history) ≡ false) (sym c.self.view_is) c.requires.once) _ grows _ refl,
      places_stay _ (entry_by c.args.who (Fault c.args.breaking)) _ c.self.invariant.2 _ grows,
      kept_stays c.self.inside.entries.items _ c.self.invariant.3 _ _ c.push_reserved.ensures.items refl,
      held_stays _ c.args.who (Fault c.args.breaking) refl c.self.inside.held c.self.invariant.4 _ grows,
      joined_stays _ (entry_by c.args.who (Fault c.args.breaking)) (λ x. refl) (λ x. refl) _ c.self.invariant.5 _ grows,
      c.self.invariant.6,
    )
