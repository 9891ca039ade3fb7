use Rattle.std.proofs.Common.{ap}
use Rattle.std.specs.Prelude.{Option}
use Rattle.repo_journal.specs.declared.left.Left.{Left}
use Rattle.repo_state.specs.Groups.{left_of}
use Rattle.repo_state.proofs.Known.{manifests_begin}
use Rattle.repo_state.proofs.Opening.{sound_opened, agrees_opened, all_are_sealed}
use Rattle.repo_state.proofs.Settling.{opened_table}
use Rattle.repo_state.proofs.Stepping.{opened_as, opened_left}
use Rattle.repo_state.proofs.state.RepoState.new.Goals as goal

pub invariant_of-result : goal.invariant_of-result
invariant_of-result g c =
    let count = c.stored_length-sealed.ensures in
    let limits = c.changesets-changesets.ensures.limits in
    rw c.of-first.ensures (
      (
        (sound_opened _ _ _ c.args.journal _ count c.requires.opened c.requires.legal c.requires.unseated, agrees_opened _ _ _ c.args.journal _ count (g.met.D.Disk.sound c.args.disk) limits c.requires.legal c.requires.opened c.requires.unseated),
        λ up some. absurd (all_are_sealed c.args.machine.history c.stored_length-sealed.result count some),
      ),
      manifests_begin _ _ _ limits c.requires.legal c.new.ensures.manifests,
    )

pub returns-clause-sound : goal.returns-clause-sound
returns-clause-sound g c = rw c.of-first.ensures (sound_opened _ _ _ c.args.journal _ c.stored_length-sealed.ensures c.requires.opened c.requires.legal c.requires.unseated)

pub returns-clause-leaves_now : goal.returns-clause-leaves_now
returns-clause-leaves_now g c =
    (agrees_opened _ _ _ c.args.journal _ c.stored_length-sealed.ensures (g.met.D.Disk.sound c.args.disk) c.changesets-changesets.ensures.limits c.requires.legal c.requires.opened c.requires.unseated).left

pub returns-clause-core_left : goal.returns-clause-core_left
returns-clause-core_left g c = opened_left c.args.machine.history (left_of c.stored_length-sealed.result c.args.journal.left) (ap (λ (o : Option Left). left_of c.stored_length-sealed.result o) c.requires.opened.whole)

pub returns-clause-core : goal.returns-clause-core
returns-clause-core g c = opened_as c.args.machine.history c.stored_length-sealed.result c.stored_length-sealed.ensures c.requires.unseated

pub returns-clause-core_table : goal.returns-clause-core_table
returns-clause-core_table g c = opened_table c.args.machine.history c.new.result c.new.ensures.empty
