use Rattle.std.proofs.Common.{refl, sym, ap, ◌∙◌, inl, inr}
use Rattle.std.specs.Prelude.{Option}
use mathlib.Core.Bool.{true≢false}
use Rattle.repo_journal.specs.Left.{left_at}
use Rattle.repo_journal.specs.View.{JournalView}
use Rattle.repo_journal.specs.declared.cut.Cut.{Cut}
use Rattle.repo_journal.specs.declared.left.At.TheVariants as stages
use Rattle.repo_journal.specs.declared.left.Left as lefts
use Rattle.repo_state.specs.Groups.{left_of, opens_at, reach_of}
use Rattle.repo_state.specs.Images.{LeavesSeal}
use Rattle.repo_state.specs.State.{State}
use Rattle.repo_state.proofs.Known.{manifests_grow}
use Rattle.repo_state.proofs.Sealed.{down_now, open_failed, opened_leaves, opened_turn, sync_leaves}
use Rattle.repo_state.proofs.Turns.{at_inside, leaves_before, leaves_further, opened_moved, opened_step, reach_now, same_broke, unopened_step}
use Rattle.repo_state.proofs.state.RepoState.open_group.Goals as goal

pub open-requires-clause-laid : goal.open-requires-clause-laid
open-requires-clause-laid g c = at_inside c.self.inside.group_end stages.Laid c.self.inside.journal.left (c.requires.laid.0, ap (λ (s : State). s.left) c.self.view_is ∙ c.requires.laid.1)

-- ---- the gate is opened

pub invariant_of-self : goal.invariant_of-self
invariant_of-self g c =
    let there = at_inside c.self.inside.group_end stages.Laid c.self.inside.journal.left (c.requires.laid.0, ap (λ (s : State). s.left) c.self.view_is ∙ c.requires.laid.1) in
    let e = c.in-Ok.ensures in (
      (
        opened_turn there.1 (g.met.D.Disk.sound c.self.inside.disk) c.self.invariant.0.0 (g.D.Disk.meaning c.open.new.disk) e.kept e.crash e.faults e.under c.open.new.self e.ok,
        c.self.invariant.0.1,
      ),
      c.self.invariant.1,
    )

pub returns-in-Ok-clause-sound : goal.returns-in-Ok-clause-sound
returns-in-Ok-clause-sound g c = (invariant_of-self g c).0.0.0

pub returns-in-Ok-clause-leaves_now : goal.returns-in-Ok-clause-leaves_now
returns-in-Ok-clause-leaves_now g c = (invariant_of-self g c).0.0.1.left

pub returns-in-Ok-clause-leaves : goal.returns-in-Ok-clause-leaves
returns-in-Ok-clause-leaves g c =
    let there = at_inside c.self.inside.group_end stages.Laid c.self.inside.journal.left (c.requires.laid.0, ap (λ (s : State). s.left) c.self.view_is ∙ c.requires.laid.1) in
    let e = c.in-Ok.ensures in
    let h = c.self.inside.machine.history in
    let n = c.self.inside.sealed in
    let upto = c.self.inside.group_end in
    let gate = ap (λ (j : JournalView). j.left) e.ok ∙ ap (λ (o : Option lefts.Left). left_at stages.Opened o) there.1 in
    rw (← c.self.view_is)
    (λ honest. leaves_further _ h h n n upto _ _ _ refl (inr (reach_now n upto there.0 stages.Opened c.open.new.self.left gate refl))
    (opened_leaves there.1 (g.met.D.Disk.sound c.self.inside.disk) c.self.invariant.0.0 (g.D.Disk.meaning c.open.new.disk) e.kept e.crash honest))

pub returns-in-Ok-clause-moves : goal.returns-in-Ok-clause-moves
returns-in-Ok-clause-moves g c =
    let there = at_inside c.self.inside.group_end stages.Laid c.self.inside.journal.left (c.requires.laid.0, ap (λ (s : State). s.left) c.self.view_is ∙ c.requires.laid.1) in
    let gate = ap (λ (j : JournalView). j.left) c.in-Ok.ensures.ok ∙ ap (λ (o : Option lefts.Left). left_at stages.Opened o) there.1 in
    rw (← c.self.view_is) (opened_moved c.self.inside.machine.history c.self.inside.sealed c.self.inside.group_end there.0 c.self.inside.journal.left c.open.new.self.left there.1 gate)

pub returns-in-Ok-clause-core : goal.returns-in-Ok-clause-core
returns-in-Ok-clause-core g c =
    let there = at_inside c.self.inside.group_end stages.Laid c.self.inside.journal.left (c.requires.laid.0, ap (λ (s : State). s.left) c.self.view_is ∙ c.requires.laid.1) in
    let gate = ap (λ (j : JournalView). j.left) c.in-Ok.ensures.ok ∙ ap (λ (o : Option lefts.Left). left_at stages.Opened o) there.1 in
    rw (← c.self.view_is) (opened_step c.self.inside.machine.header c.self.inside.machine.history c.self.inside.sealed c.args.who c.self.inside.group_end there.0 c.self.inside.journal.left c.open.new.self.left there.1 gate)

-- ---- or a call failed

pub invariant_of-self-in-Err : goal.invariant_of-self-in-Err
invariant_of-self-in-Err g c =
    let there = at_inside c.self.inside.group_end stages.Laid c.self.inside.journal.left (c.requires.laid.0, ap (λ (s : State). s.left) c.self.view_is ∙ c.requires.laid.1) in
    let e = c.in-Err.ensures in
    let history = c.fault.ensures.history in (
      (
        open_failed there.1 (g.met.D.Disk.sound c.self.inside.disk) c.self.invariant.0.0 (g.D.Disk.meaning c.open.new.disk) e.kept e.crash c.open.new.self e.stops e.faults c.args.who (λ n q short. true≢false (sym (e.quiet n q short)))
            c.fault.new.self.header c.fault.new.self.history c.fault.ensures.header history,
        λ still more. absurd (down_now c.self.inside.machine.history c.fault.new.self.history c.args.who history still),
      ),
      manifests_grow _ _ _ _ _ _ c.fault.ensures.header history c.fault.ensures.legal c.self.invariant.1,
    )

pub returns-in-Err-clause-sound : goal.returns-in-Err-clause-sound
returns-in-Err-clause-sound g c = (invariant_of-self-in-Err g c).0.0.0

pub returns-in-Err-clause-leaves_now : goal.returns-in-Err-clause-leaves_now
returns-in-Err-clause-leaves_now g c = (invariant_of-self-in-Err g c).0.0.1.left

pub returns-in-Err-clause-leaves : goal.returns-in-Err-clause-leaves
returns-in-Err-clause-leaves g c =
    let there = at_inside c.self.inside.group_end stages.Laid c.self.inside.journal.left (c.requires.laid.0, ap (λ (s : State). s.left) c.self.view_is ∙ c.requires.laid.1) in
    let e = c.in-Err.ensures in
    let h = c.self.inside.machine.history in
    let new = c.fault.new.self.history in
    let n = c.self.inside.sealed in
    let upto = c.self.inside.group_end in
    let r = reach_of n (left_of upto c.open.new.self.left) in
    let cut = ap (λ (j : JournalView). j.left) e.stops.is ∙ ap (λ (o : Option lefts.Left). left_at (stages.Cut e.stops.cut) o) there.1 in
    rw (← c.self.view_is)
    (λ honest. elim e.stops.next as (λ _. LeavesSeal c.self.inside.machine.header h n new n r (g.D.Disk.meaning c.self.inside.disk) (g.D.Disk.meaning c.open.new.disk)) [
      | inl sync ↦ leaves_before c.self.inside.machine.header h new n n r (g.D.Disk.meaning c.self.inside.disk) (g.D.Disk.meaning c.open.new.disk) (sync_leaves there.1 (g.met.D.Disk.sound c.self.inside.disk) c.self.invariant.0.0 (g.D.Disk.meaning c.open.new.disk) e.kept e.crash c.open.new.self e.stops e.faults c.args.who (λ n q short. true≢false (sym (e.quiet n q short))) sync honest)
      | inr second ↦ leaves_further c.self.inside.machine.header h new n n upto r (g.D.Disk.meaning c.self.inside.disk) (g.D.Disk.meaning c.open.new.disk) (same_broke h new c.args.who c.fault.ensures.history) (inr (reach_now n upto there.0 (stages.Cut e.stops.cut) c.open.new.self.left cut (ap (λ (x : Cut). opens_at (stages.Cut x)) second)))
          (opened_leaves there.1 (g.met.D.Disk.sound c.self.inside.disk) c.self.invariant.0.0 (g.D.Disk.meaning c.open.new.disk) e.kept e.crash honest)
    ])

pub returns-in-Err-clause-core : goal.returns-in-Err-clause-core
returns-in-Err-clause-core g c =
    let there = at_inside c.self.inside.group_end stages.Laid c.self.inside.journal.left (c.requires.laid.0, ap (λ (s : State). s.left) c.self.view_is ∙ c.requires.laid.1) in
    let e = c.in-Err.ensures in
    let cut = ap (λ (j : JournalView). j.left) e.stops.is ∙ ap (λ (o : Option lefts.Left). left_at (stages.Cut e.stops.cut) o) there.1 in
    rw (← c.self.view_is)
    (unopened_step c.self.inside.machine.header c.self.inside.machine.history c.fault.new.self.history c.self.inside.sealed c.args.who c.self.inside.group_end there.0 e.stops.cut c.self.inside.journal.left c.open.new.self.left e.stops.next c.fault.ensures.history there.1 cut)

-- ---- what may be left at most

pub returns-in-Ok-clause-reaches : goal.returns-in-Ok-clause-reaches
returns-in-Ok-clause-reaches g c =
    let there = at_inside c.self.inside.group_end stages.Laid c.self.inside.journal.left (c.requires.laid.0, ap (λ (s : State). s.left) c.self.view_is ∙ c.requires.laid.1) in
    rw (← c.self.view_is) (inl (ap (λ (o : Option lefts.Left). reach_of c.self.inside.sealed (left_of c.self.inside.group_end o)) there.1))

pub returns-in-Err-clause-reaches : goal.returns-in-Err-clause-reaches
returns-in-Err-clause-reaches g c =
    let there = at_inside c.self.inside.group_end stages.Laid c.self.inside.journal.left (c.requires.laid.0, ap (λ (s : State). s.left) c.self.view_is ∙ c.requires.laid.1) in
    rw (← c.self.view_is) (inl (ap (λ (o : Option lefts.Left). reach_of c.self.inside.sealed (left_of c.self.inside.group_end o)) there.1))
