use Rattle.std.proofs.Common.{ap, ◌∙◌}
use Rattle.history_model.specs.History.{known}
use Rattle.repo_machine.proofs.Cleared.{known-cleared}
use Rattle.repo_state.proofs.Known.{manifests_same}
use Rattle.repo_state.proofs.Looking.{holds_cleared}
use Rattle.repo_state.proofs.Sounds.{room_cleared}
use Rattle.repo_state.proofs.state.RepoState.clear_seats.Goals as goal

pub invariant_of-self : goal.invariant_of-self
invariant_of-self g c =
    let e = c.clear_seats.ensures in
    let h = c.self.inside.machine.history in (
      (
        holds_cleared c.self.inside.machine.header c.clear_seats.new.self.header h c.clear_seats.new.self.history c.self.inside.sealed c.self.inside.group_end c.self.inside.journal _ _ e.header e.history e.legal c.self.invariant.0.0,
        room_cleared h c.clear_seats.new.self.history c.self.inside.sealed c.self.inside.machine.room c.clear_seats.new.self.room e.history e.room c.self.invariant.0.1,
      ),
      manifests_same _ _ _ _ _ e.header (ap known e.history ∙ known-cleared h) c.self.invariant.1,
    )

pub returns-clause-sound : goal.returns-clause-sound
returns-clause-sound g c = (invariant_of-self g c).0.0.0

pub returns-clause-leaves_now : goal.returns-clause-leaves_now
returns-clause-leaves_now g c = (invariant_of-self g c).0.0.1.left
