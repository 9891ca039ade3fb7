use Rattle.std.proofs.Common.{length, sym, ap, ◌∙◌, inl, arith}
use Rattle.std.specs.Prelude.{is_some, Option}
use mathlib.Core.Bool.{true≢false}
use Rattle.history_model.specs.History.{bodies}
use Rattle.repo_journal.specs.View.{JournalView}
use Rattle.repo_journal.specs.declared.cut.Cut.TheVariants.{Write}
use Rattle.repo_journal.specs.declared.left.Left.{Left}
use Rattle.repo_state.specs.Groups.{left_of, reach_of}
use Rattle.repo_state.specs.State.{State}
use Rattle.repo_state.proofs.Known.{manifests_grow}
use Rattle.repo_state.proofs.LeftOver.{none_inside}
use Rattle.repo_state.proofs.Opening.{stored_count}
use Rattle.repo_state.proofs.Sealed.{begun_leaves, breaks_at, breaks_so, closed_file, cut_is, down_now, fits, holds_begun, holds_unbegun, is_group, unbegun_leaves}
use Rattle.repo_state.proofs.Turns.{begun_moved, begun_turn, leaves_before, none_left, some_inside, unbegun_turn, up_inside}
use Rattle.repo_state.proofs.state.RepoState.begin_group.Goals as goal

pub begin-requires-clause-whole : goal.begin-requires-clause-whole
begin-requires-clause-whole g c = ap is_some (none_inside c.self.inside.group_end c.self.inside.journal.left (none_left c.self.view_is c.requires.none))

pub begin-requires-clause-group : goal.begin-requires-clause-group
begin-requires-clause-group g c =
    let sealed = ap (λ (s : State). s.sealed) c.self.view_is in
    let count = ap (λ (s : State). length (bodies s.history)) c.self.view_is in
    let less = c.requires.some in
    is_group c.self.inside.machine.history c.self.inside.sealed c.self.inside.journal.pending.bytes (omega arith) c.self.invariant.0.0.1.waits

pub begin-requires-clause-fits : goal.begin-requires-clause-fits
begin-requires-clause-fits g c = fits c.self.inside.machine.header c.self.inside.machine.history c.self.inside.sealed c.self.inside.group_end c.self.inside.journal (g.D.Disk.meaning c.self.inside.disk) c.self.invariant.0.0.1

-- ---- it is written

pub invariant_of-self : goal.invariant_of-self
invariant_of-self g c =
    let none = none_inside c.self.inside.group_end c.self.inside.journal.left (none_left c.self.view_is c.requires.none) in
    let some = some_inside c.self.view_is c.requires.some in
    let up = up_inside c.self.view_is c.requires.up in
    let closed = closed_file none some (g.met.D.Disk.sound c.self.inside.disk) c.self.invariant.0.0 in
    let all = c.stored_length-end.ensures ∙ stored_count c.self.inside.machine.history in
    let e = c.in-Ok.ensures in (
      (
        holds_begun none some (g.met.D.Disk.sound c.self.inside.disk) c.self.invariant.0.0 (g.D.Disk.meaning c.begin.new.disk) e.kept e.time e.faults (e.under closed) up c.stored_length-end.result c.begin.new.self all e.ok,
        c.self.invariant.0.1,
      ),
      c.self.invariant.1,
    )

pub returns-in-Ok-clause-sound : goal.returns-in-Ok-clause-sound
returns-in-Ok-clause-sound g c = (invariant_of-self g c).0.0.0

pub returns-in-Ok-clause-leaves_now : goal.returns-in-Ok-clause-leaves_now
returns-in-Ok-clause-leaves_now g c = (invariant_of-self g c).0.0.1.left

pub returns-in-Ok-clause-leaves : goal.returns-in-Ok-clause-leaves
returns-in-Ok-clause-leaves g c =
    let none = none_inside c.self.inside.group_end c.self.inside.journal.left (none_left c.self.view_is c.requires.none) in
    let some = some_inside c.self.view_is c.requires.some in
    let up = up_inside c.self.view_is c.requires.up in
    let closed = closed_file none some (g.met.D.Disk.sound c.self.inside.disk) c.self.invariant.0.0 in
    let e = c.in-Ok.ensures in
    rw (← c.self.view_is)
    (λ honest. leaves_before _ c.self.inside.machine.history c.self.inside.machine.history c.self.inside.sealed c.self.inside.sealed _ _ _
    (begun_leaves none some (g.met.D.Disk.sound c.self.inside.disk) c.self.invariant.0.0 (g.D.Disk.meaning c.begin.new.disk) e.kept e.time e.faults (e.under closed) up honest))

pub returns-in-Ok-clause-moves : goal.returns-in-Ok-clause-moves
returns-in-Ok-clause-moves g c =
    let none = none_inside c.self.inside.group_end c.self.inside.journal.left (none_left c.self.view_is c.requires.none) in
    let all = c.stored_length-end.ensures ∙ stored_count c.self.inside.machine.history in
    rw (← c.self.view_is)
    (begun_moved c.self.inside.machine.history c.self.inside.sealed c.self.inside.group_end c.stored_length-end.result c.self.inside.journal.left c.begin.new.self.left none all (length c.self.inside.journal.pending.bytes) (ap (λ (j : JournalView). j.left) c.in-Ok.ensures.ok))

pub returns-in-Ok-clause-core : goal.returns-in-Ok-clause-core
returns-in-Ok-clause-core g c =
    let none = none_inside c.self.inside.group_end c.self.inside.journal.left (none_left c.self.view_is c.requires.none) in
    let some = some_inside c.self.view_is c.requires.some in
    let up = up_inside c.self.view_is c.requires.up in
    let all = c.stored_length-end.ensures ∙ stored_count c.self.inside.machine.history in
    rw (← c.self.view_is)
    (begun_turn c.self.inside.machine.header c.self.inside.machine.history c.self.inside.sealed c.args.who c.self.inside.group_end c.stored_length-end.result c.self.inside.journal.left c.begin.new.self.left up some none all (length c.self.inside.journal.pending.bytes) (ap (λ (j : JournalView). j.left) c.in-Ok.ensures.ok))

-- ---- or that fails

pub invariant_of-self-in-Err : goal.invariant_of-self-in-Err
invariant_of-self-in-Err g c =
    let none = none_inside c.self.inside.group_end c.self.inside.journal.left (none_left c.self.view_is c.requires.none) in
    let some = some_inside c.self.view_is c.requires.some in
    let up = up_inside c.self.view_is c.requires.up in
    let closed = closed_file none some (g.met.D.Disk.sound c.self.inside.disk) c.self.invariant.0.0 in
    let all = c.stored_length-end.ensures ∙ stored_count c.self.inside.machine.history in
    let e = c.in-Err.ensures in
    let cut = cut_is _ _ _ _ _ Write e.broken e.first in
    let history = c.fault.ensures.history in (
      (
        holds_unbegun none some (g.met.D.Disk.sound c.self.inside.disk) c.self.invariant.0.0 (g.D.Disk.meaning c.begin.new.disk) e.kept e.time e.faults c.args.who up (breaks_so _ _ _ _ _ e.broken cut closed) (λ n q short. true≢false (sym (e.quiet n q short)))
            c.fault.new.self.header c.fault.new.self.history c.stored_length-end.result c.begin.new.self c.fault.ensures.header history all (breaks_at _ _ _ _ _ e.broken cut),
        λ still more. absurd (down_now c.self.inside.machine.history c.fault.new.self.history c.args.who history still),
      ),
      manifests_grow _ _ _ _ _ _ c.fault.ensures.header history c.fault.ensures.legal c.self.invariant.1,
    )

pub returns-in-Err-clause-sound : goal.returns-in-Err-clause-sound
returns-in-Err-clause-sound g c = (invariant_of-self-in-Err g c).0.0.0

pub returns-in-Err-clause-leaves_now : goal.returns-in-Err-clause-leaves_now
returns-in-Err-clause-leaves_now g c = (invariant_of-self-in-Err g c).0.0.1.left

pub returns-in-Err-clause-leaves : goal.returns-in-Err-clause-leaves
returns-in-Err-clause-leaves g c =
    let none = none_inside c.self.inside.group_end c.self.inside.journal.left (none_left c.self.view_is c.requires.none) in
    let some = some_inside c.self.view_is c.requires.some in
    let up = up_inside c.self.view_is c.requires.up in
    let closed = closed_file none some (g.met.D.Disk.sound c.self.inside.disk) c.self.invariant.0.0 in
    let e = c.in-Err.ensures in
    let cut = cut_is _ _ _ _ _ Write e.broken e.first in
    rw (← c.self.view_is)
    (λ honest. leaves_before _ c.self.inside.machine.history c.fault.new.self.history c.self.inside.sealed c.self.inside.sealed _ _ _
    (unbegun_leaves none some (g.met.D.Disk.sound c.self.inside.disk) c.self.invariant.0.0 (g.D.Disk.meaning c.begin.new.disk) e.kept e.time e.faults c.args.who up (breaks_so _ _ _ _ _ e.broken cut closed) (λ n q short. true≢false (sym (e.quiet n q short))) honest))

pub returns-in-Err-clause-core : goal.returns-in-Err-clause-core
returns-in-Err-clause-core g c =
    let none = none_inside c.self.inside.group_end c.self.inside.journal.left (none_left c.self.view_is c.requires.none) in
    let some = some_inside c.self.view_is c.requires.some in
    let up = up_inside c.self.view_is c.requires.up in
    let all = c.stored_length-end.ensures ∙ stored_count c.self.inside.machine.history in
    let e = c.in-Err.ensures in
    let cut = cut_is _ _ _ _ _ Write e.broken e.first in
    rw (← c.self.view_is)
    (unbegun_turn c.self.inside.machine.header c.self.inside.machine.history c.fault.new.self.history c.self.inside.sealed c.args.who c.self.inside.group_end c.stored_length-end.result c.self.inside.journal.left c.begin.new.self.left up some c.fault.ensures.history none all (length c.self.inside.journal.pending.bytes) (ap (λ (j : JournalView). j.left) (breaks_at _ _ _ _ _ e.broken cut)))

-- ---- nothing more may be left

pub returns-in-Ok-clause-reaches : goal.returns-in-Ok-clause-reaches
returns-in-Ok-clause-reaches g c =
    let none = none_inside c.self.inside.group_end c.self.inside.journal.left (none_left c.self.view_is c.requires.none) in
    rw (← c.self.view_is) (inl (ap (λ (o : Option Left). reach_of c.self.inside.sealed (left_of c.self.inside.group_end o)) none))

pub returns-in-Err-clause-reaches : goal.returns-in-Err-clause-reaches
returns-in-Err-clause-reaches g c =
    let none = none_inside c.self.inside.group_end c.self.inside.journal.left (none_left c.self.view_is c.requires.none) in
    rw (← c.self.view_is) (inl (ap (λ (o : Option Left). reach_of c.self.inside.sealed (left_of c.self.inside.group_end o)) none))
