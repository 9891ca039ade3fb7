use Rattle.std.proofs.Common.{ap}
use Rattle.history_model.specs.History.{known}
use Rattle.repo_state.proofs.Known.{manifests_same}
use Rattle.repo_state.proofs.Sounds.{holds_at, holds_reserved, room_kept}
use Rattle.repo_state.proofs.state.RepoState.reserve.Goals as goal

pub invariant_of-self-2 : goal.invariant_of-self-2
invariant_of-self-2 g c =
    let s = c.self.inside in
    let e = c.reserve.ensures in (
      (
        holds_at _ _ s.machine.header c.reserve.new.self.header s.machine.history c.reserve.new.self.history s.sealed s.group_end c.reserve-2.new.self e.header e.history
            (holds_reserved (g.D.Disk.meaning s.first.value) (g.D.Disk.meaning s.disk) s.machine.header s.machine.history s.sealed s.group_end s.journal c.reserve-2.new.self c.reserve-2.ensures.same c.reserve-2.ensures.bytes c.self.invariant.0.0),
        room_kept s.machine.history c.reserve.new.self.history s.sealed s.machine.room c.reserve.new.self.room e.history e.keeps c.self.invariant.0.1,
      ),
      manifests_same _ _ _ _ _ e.header (ap known e.history) c.self.invariant.1,
    )
