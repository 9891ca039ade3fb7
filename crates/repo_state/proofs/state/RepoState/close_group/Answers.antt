use Rattle.std.proofs.Common.{refl, sym, ap, ◌∙◌, inl, inr, arith}
use Rattle.std.specs.Prelude.{Option}
use mathlib.Core.Bool.{true≢false}
use Rattle.repo_journal.specs.Left.{left_at}
use Rattle.repo_journal.specs.View.{JournalView}
use Rattle.repo_journal.specs.declared.cut.Cut.{Cut}
use Rattle.repo_journal.specs.declared.left.At.TheVariants as stages
use Rattle.repo_journal.specs.declared.left.Left as lefts
use Rattle.repo_state.specs.Groups.{left_of, opens_at, reach_of}
use Rattle.repo_state.specs.State.{State}
use Rattle.repo_state.proofs.Known.{manifests_grow}
use Rattle.repo_state.proofs.Sealed.{close_failed, closed_leaves, closed_turn, down_now}
use Rattle.repo_state.proofs.Turns.{at_inside, closed_moved, closed_step, leaves_further, left_now, reach_now, same_broke, unclosed_step}
use Rattle.repo_state.proofs.state.RepoState.close_group.Goals as goal

pub close-requires : goal.close-requires
close-requires g c = record { opened = at_inside c.self.inside.group_end stages.Opened c.self.inside.journal.left (c.requires.opened.0, ap (λ (s : State). s.left) c.self.view_is ∙ c.requires.opened.1) }

-- ---- it is sealed

pub invariant_of-self : goal.invariant_of-self
invariant_of-self g c =
    let there = at_inside c.self.inside.group_end stages.Opened c.self.inside.journal.left (c.requires.opened.0, ap (λ (s : State). s.left) c.self.view_is ∙ c.requires.opened.1) in
    let e = c.in-Ok.ensures in
    let room = c.self.invariant.0.1 in
    let within = (c.self.invariant.0.0.1.left.ends _ (left_now c.self.inside.group_end there.0 stages.Opened c.self.inside.journal.left there.1)) in
    let less = within.0 in (
      (
        closed_turn there.1 (g.met.D.Disk.sound c.self.inside.disk) c.self.invariant.0.0 (g.D.Disk.meaning c.close.new.disk) e.kept e.crash e.faults e.sealed e.settled (g.met.D.Disk.sound c.close.new.disk) c.close.new.self e.ok e.behind,
        λ up more. room up (omega arith),
      ),
      c.self.invariant.1,
    )

pub returns-in-Ok-clause-sound : goal.returns-in-Ok-clause-sound
returns-in-Ok-clause-sound g c = (invariant_of-self g c).0.0.0

pub returns-in-Ok-clause-leaves_now : goal.returns-in-Ok-clause-leaves_now
returns-in-Ok-clause-leaves_now g c = (invariant_of-self g c).0.0.1.left

pub returns-in-Ok-clause-leaves : goal.returns-in-Ok-clause-leaves
returns-in-Ok-clause-leaves g c =
    let there = at_inside c.self.inside.group_end stages.Opened c.self.inside.journal.left (c.requires.opened.0, ap (λ (s : State). s.left) c.self.view_is ∙ c.requires.opened.1) in
    let e = c.in-Ok.ensures in
    let h = c.self.inside.machine.history in
    let upto = c.self.inside.group_end in
    rw (← c.self.view_is)
    (λ honest. leaves_further _ h h c.self.inside.sealed upto upto _ _ _ refl (inl refl)
    (closed_leaves there.1 (g.met.D.Disk.sound c.self.inside.disk) c.self.invariant.0.0 (g.D.Disk.meaning c.close.new.disk) e.kept e.crash honest))

pub returns-in-Ok-clause-moves : goal.returns-in-Ok-clause-moves
returns-in-Ok-clause-moves g c =
    let there = at_inside c.self.inside.group_end stages.Opened c.self.inside.journal.left (c.requires.opened.0, ap (λ (s : State). s.left) c.self.view_is ∙ c.requires.opened.1) in
    rw (← c.self.view_is) (closed_moved c.self.inside.machine.history c.self.inside.sealed c.self.inside.group_end there.0 c.self.inside.journal.left c.close.new.self.left there.1 (ap (λ (j : JournalView). j.left) c.in-Ok.ensures.ok))

pub returns-in-Ok-clause-core : goal.returns-in-Ok-clause-core
returns-in-Ok-clause-core g c =
    let there = at_inside c.self.inside.group_end stages.Opened c.self.inside.journal.left (c.requires.opened.0, ap (λ (s : State). s.left) c.self.view_is ∙ c.requires.opened.1) in
    rw (← c.self.view_is) (closed_step c.self.inside.machine.header c.self.inside.machine.history c.self.inside.sealed c.args.who c.self.inside.group_end there.0 c.self.inside.journal.left c.close.new.self.left there.1 (ap (λ (j : JournalView). j.left) c.in-Ok.ensures.ok))

-- ---- or a call failed

pub invariant_of-self-in-Err : goal.invariant_of-self-in-Err
invariant_of-self-in-Err g c =
    let there = at_inside c.self.inside.group_end stages.Opened c.self.inside.journal.left (c.requires.opened.0, ap (λ (s : State). s.left) c.self.view_is ∙ c.requires.opened.1) in
    let e = c.in-Err.ensures in
    let history = c.fault.ensures.history in (
      (
        close_failed there.1 (g.met.D.Disk.sound c.self.inside.disk) c.self.invariant.0.0 (g.D.Disk.meaning c.close.new.disk) e.kept e.crash c.close.new.self e.stops e.faults c.args.who (λ quiet. true≢false (sym (e.quiet quiet)))
            c.fault.new.self.header c.fault.new.self.history c.fault.ensures.header history,
        λ still more. absurd (down_now c.self.inside.machine.history c.fault.new.self.history c.args.who history still),
      ),
      manifests_grow _ _ _ _ _ _ c.fault.ensures.header history c.fault.ensures.legal c.self.invariant.1,
    )

pub returns-in-Err-clause-sound : goal.returns-in-Err-clause-sound
returns-in-Err-clause-sound g c = (invariant_of-self-in-Err g c).0.0.0

pub returns-in-Err-clause-leaves_now : goal.returns-in-Err-clause-leaves_now
returns-in-Err-clause-leaves_now g c = (invariant_of-self-in-Err g c).0.0.1.left

pub returns-in-Err-clause-leaves : goal.returns-in-Err-clause-leaves
returns-in-Err-clause-leaves g c =
    let there = at_inside c.self.inside.group_end stages.Opened c.self.inside.journal.left (c.requires.opened.0, ap (λ (s : State). s.left) c.self.view_is ∙ c.requires.opened.1) in
    let e = c.in-Err.ensures in
    let h = c.self.inside.machine.history in
    let new = c.fault.new.self.history in
    let n = c.self.inside.sealed in
    let upto = c.self.inside.group_end in
    let cut = ap (λ (j : JournalView). j.left) e.stops.is ∙ ap (λ (o : Option lefts.Left). left_at (stages.Cut e.stops.cut) o) there.1 in
    rw (← c.self.view_is)
    (λ honest. leaves_further _ h new n n upto _ _ _ (same_broke h new c.args.who c.fault.ensures.history) (inr (reach_now n upto there.0 (stages.Cut e.stops.cut) c.close.new.self.left cut (ap (λ (x : Cut). opens_at (stages.Cut x)) e.stops.next)))
    (closed_leaves there.1 (g.met.D.Disk.sound c.self.inside.disk) c.self.invariant.0.0 (g.D.Disk.meaning c.close.new.disk) e.kept e.crash honest))

pub returns-in-Err-clause-core : goal.returns-in-Err-clause-core
returns-in-Err-clause-core g c =
    let there = at_inside c.self.inside.group_end stages.Opened c.self.inside.journal.left (c.requires.opened.0, ap (λ (s : State). s.left) c.self.view_is ∙ c.requires.opened.1) in
    let e = c.in-Err.ensures in
    let cut = ap (λ (j : JournalView). j.left) e.stops.is ∙ ap (λ (o : Option lefts.Left). left_at (stages.Cut e.stops.cut) o) there.1 in
    rw (← c.self.view_is)
    (unclosed_step c.self.inside.machine.header c.self.inside.machine.history c.fault.new.self.history c.self.inside.sealed c.args.who c.self.inside.group_end there.0 e.stops.cut c.self.inside.journal.left c.close.new.self.left e.stops.next c.fault.ensures.history there.1 cut)

-- ---- what may be left at most

pub returns-in-Ok-clause-reaches : goal.returns-in-Ok-clause-reaches
returns-in-Ok-clause-reaches g c =
    let there = at_inside c.self.inside.group_end stages.Opened c.self.inside.journal.left (c.requires.opened.0, ap (λ (s : State). s.left) c.self.view_is ∙ c.requires.opened.1) in
    rw (← c.self.view_is) (inl (ap (λ (o : Option lefts.Left). reach_of c.self.inside.sealed (left_of c.self.inside.group_end o)) there.1))

pub returns-in-Err-clause-reaches : goal.returns-in-Err-clause-reaches
returns-in-Err-clause-reaches g c =
    let there = at_inside c.self.inside.group_end stages.Opened c.self.inside.journal.left (c.requires.opened.0, ap (λ (s : State). s.left) c.self.view_is ∙ c.requires.opened.1) in
    let e = c.in-Err.ensures in
    let cut = ap (λ (j : JournalView). j.left) e.stops.is ∙ ap (λ (o : Option lefts.Left). left_at (stages.Cut e.stops.cut) o) there.1 in
    rw (← c.self.view_is) (inr (reach_now c.self.inside.sealed c.self.inside.group_end there.0 (stages.Cut e.stops.cut) c.close.new.self.left cut (ap (λ (x : Cut). opens_at (stages.Cut x)) e.stops.next) ∙ sym (ap (λ (o : Option lefts.Left). reach_of c.self.inside.sealed (left_of c.self.inside.group_end o)) there.1)))
