use Rattle.std.proofs.Common.{refl, sym, ap, subst, ◌∙◌, arith}
use Rattle.history_model.specs.History.{known}
use Rattle.repo_journal.specs.Groups.{with_group}
use Rattle.repo_state.specs.Joining.{AreStanding}
use Rattle.repo_state.specs.State.{State, opening_of}
use Rattle.repo_state.proofs.Joins.{all_pieces_within, is_misread_by, join_of, not_joined, standing, unread_by}
use Rattle.repo_state.proofs.Known.{manifests_grow_after, manifests_same}
use Rattle.repo_state.proofs.Looking.{holds_read, holds_read_failed, ok_told, read_as}
use Rattle.repo_state.proofs.Sounds.{room_kept}
use Rattle.repo_state.proofs.state.RepoState.join.Goals as goal

pub read_whole-requires-clause-within : goal.read_whole-requires-clause-within
read_whole-requires-clause-within g c =
    all_pieces_within c.self.invariant.0.0.1 c.self.invariant.1.header_fits c.args.parts.now (subst (λ (s : State). AreStanding s.history c.args.parts.now) (sym c.self.view_is) c.requires.parts)

-- ---- they were read

pub invariant_of-self-in-Ok : goal.invariant_of-self-in-Ok
invariant_of-self-in-Ok g c =
    let s = c.self.inside in
    let e = c.in-Ok.ensures in
    let r = c.room.ensures in (
      (
        holds_read s.machine.header c.room.new.self.header s.machine.history c.room.new.self.history s.sealed s.group_end s.journal _ _ _ r.header r.history (read_as _ _ _ _ refl e.kept e.faults e.quiet e.looked e.leaves) c.self.invariant.0.0,
        room_kept s.machine.history c.room.new.self.history s.sealed s.machine.room c.room.new.self.room r.history r.keeps c.self.invariant.0.1,
      ),
      manifests_same _ _ _ _ _ r.header (ap known r.history) c.self.invariant.1,
    )

pub returns-in-Ok-clause-ok : goal.returns-in-Ok-clause-ok
returns-in-Ok-clause-ok g c =
    let s = c.self.inside in
    let agrees = c.self.invariant.0.0.1 in
    join_of agrees c.self.invariant.0.0.0.legal (g.met.D.Disk.sound s.disk) c.self.view_is refl refl (λ i. with_group (sym agrees.size_is i) s.journal.pending.bytes (g.D.Disk.meaning s.disk).state.reads) c.args.parts.now c.in-Ok.whole c.requires.parts c.in-Ok.ensures.ok

pub returns-in-Ok-clause-sound : goal.returns-in-Ok-clause-sound
returns-in-Ok-clause-sound g c = (invariant_of-self-in-Ok g c).0.0.0

pub returns-in-Ok-clause-leaves_now : goal.returns-in-Ok-clause-leaves_now
returns-in-Ok-clause-leaves_now g c = (invariant_of-self-in-Ok g c).0.0.1.left

-- ---- bytes aren't a part's, or memory ran out

pub invariant_of-self-then-not-is_of_disk : goal.invariant_of-self-then-not-is_of_disk
invariant_of-self-then-not-is_of_disk g c =
    let s = c.self.inside in
    let e = c.in-Err.ensures in
    let r = c.room.ensures in
    let read = unread_by c.in-Err.fault ∙ sym c.is_of_disk.ensures ∙ c.if-not-is_of_disk.true in (
      (
        holds_read s.machine.header c.room.new.self.header s.machine.history c.room.new.self.history s.sealed s.group_end s.journal _ _ _ r.header r.history (read_as _ _ _ _ read e.kept e.faults e.quiet e.looked e.leaves) c.self.invariant.0.0,
        room_kept s.machine.history c.room.new.self.history s.sealed s.machine.room c.room.new.self.room r.history r.keeps c.self.invariant.0.1,
      ),
      manifests_same _ _ _ _ _ r.header (ap known r.history) c.self.invariant.1,
    )

pub returns-then-not-is_of_disk-clause-err : goal.returns-then-not-is_of_disk-clause-err
returns-then-not-is_of_disk-clause-err g c =
    not_joined c.self.inside.journal (g.D.Disk.meaning c.self.inside.disk) c.args.self.now.history c.room.new.self.history c.args.who c.args.parts.now c.in-Err.fault (c.room.ensures.history ∙ ap (λ (s : State). s.history) c.self.view_is)
    (sym c.is_of_disk.ensures ∙ c.if-not-is_of_disk.true) c.in-Err.ensures.err

pub returns-then-not-is_of_disk-clause-sound : goal.returns-then-not-is_of_disk-clause-sound
returns-then-not-is_of_disk-clause-sound g c = (invariant_of-self-then-not-is_of_disk g c).0.0.0

pub returns-then-not-is_of_disk-clause-leaves_now : goal.returns-then-not-is_of_disk-clause-leaves_now
returns-then-not-is_of_disk-clause-leaves_now g c = (invariant_of-self-then-not-is_of_disk g c).0.0.1.left

pub returns-then-not-is_of_disk-clause-honest : goal.returns-then-not-is_of_disk-clause-honest
returns-then-not-is_of_disk-clause-honest g c =
    let s = c.self.inside in
    let places = subst (λ (s : State). AreStanding s.history c.args.parts.now) (sym c.self.view_is) c.requires.parts in
    rw (← c.self.view_is)
    (λ honest. is_misread_by (opening_of s.machine.header s.journal.opening (g.D.Disk.meaning s.first.value)) s.machine.history s.sealed s.journal (g.D.Disk.meaning s.disk) c.self.invariant.0.0.0 c.self.invariant.0.0.1 (g.met.D.Disk.sound s.disk) honest
    c.args.parts.now (standing s.machine.history c.args.parts.now places) c.in-Err.fault c.in-Err.ensures.err)

-- ---- or the disk failed

pub invariant_of-self-in-Err : goal.invariant_of-self-in-Err
invariant_of-self-in-Err g c =
    let s = c.self.inside in
    let e = c.in-Err.ensures in
    let r = c.room.ensures in
    let f = c.fault.ensures in
    let failed = unread_by c.in-Err.fault ∙ sym c.is_of_disk.ensures ∙ c.if-not-is_of_disk.false in (
      (
        holds_read_failed s.machine.header c.room.new.self.header c.fault.new.self.header s.machine.history c.room.new.self.history c.fault.new.self.history s.sealed c.args.who s.group_end s.journal _ _ _ r.header f.header r.history f.history
            (read_as _ _ _ _ failed e.kept e.faults e.quiet e.looked e.leaves) c.self.invariant.0.0,
        (λ up some. (let keeps = f.keeps in let room = ok_told c.room.result (sym c.is_err.ensures.value ∙ c.if-is_err.false) r.room in omega arith)),
      ),
      manifests_grow_after _ _ _ _ _ _ _ _ r.header f.header r.history f.history f.legal c.self.invariant.1,
    )

pub returns-else-not-is_of_disk-clause-sound : goal.returns-else-not-is_of_disk-clause-sound
returns-else-not-is_of_disk-clause-sound g c = (invariant_of-self-in-Err g c).0.0.0

pub returns-else-not-is_of_disk-clause-leaves_now : goal.returns-else-not-is_of_disk-clause-leaves_now
returns-else-not-is_of_disk-clause-leaves_now g c = (invariant_of-self-in-Err g c).0.0.1.left
