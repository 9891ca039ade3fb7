use Rattle.std.proofs.Common.{ap, ◌∙◌}
use Rattle.repo_machine.specs.Seats.{cleared}
use Rattle.repo_machine.proofs.ClearedEntries.{history_unseated, within_unseated, kept_unseated, indexes_unseated, places_unseated, joined_unseated}
use Rattle.repo_machine.proofs.HeldPolicy.{held_cleared}
use Rattle.repo_machine.proofs.machine.Machine.clear_seats.Goals as goal

pub invariant_of-self : goal.invariant_of-self
invariant_of-self c =
    let k = c.self.invariant in
    let clears = c.unseat.ensures.items in (
      within_unseated c.self.inside.changesets.known _ _ clears _ k.0,
      indexes_unseated c.self.inside.changesets.known _ _ clears _ _ _ _ _ k.1,
      places_unseated c.self.inside.changesets.known _ _ clears _ k.2,
      kept_unseated c.self.inside.changesets.known _ _ clears _ k.3,
      held_cleared _ c.self.inside.held k.4 _ (history_unseated c.self.inside.changesets.known _ _ clears),
      joined_unseated c.self.inside.changesets.known _ _ clears _ k.5,
      k.6,
    )

pub returns-clause-history : goal.returns-clause-history
returns-clause-history c = history_unseated c.self.inside.changesets.known _ _ c.unseat.ensures.items ∙ ap (λ m. cleared m.history) c.self.view_is

pub returns-clause-legal : goal.returns-clause-legal
returns-clause-legal c = (indexes_unseated c.self.inside.changesets.known _ _ c.unseat.ensures.items _ _ _ _ _ c.self.invariant.1).legal
