use Rattle.std.proofs.Common.{◌≡◌, sym, ap, subst, ◌∙◌, refl}
use Rattle.reply_model.specs.Reply.{Ask}
use Rattle.reply_model.specs.After.{Asks, Memory}
use Rattle.repo_journal.specs.Groups.{grown}
use Rattle.repo_journal.specs.View.{JournalView}
use Rattle.repo_machine.specs.Entering.{Judges}
use Rattle.repo_state.specs.State.{State}
use Rattle.repo_state.proofs.Answered.{unmade}
use Rattle.history_model.specs.History.{known}
use Rattle.repo_state.proofs.Known.{manifests_grow, manifests_same}
use Rattle.repo_state.proofs.Sounds.{holds_at, holds_reserved, room_kept}
use Rattle.repo_state.proofs.Storing.{making, frame_by, holds_entered, holds_made, none_made, room_entered, granted_replies, still}
use Rattle.repo_state.proofs.state.RepoState.enter.Goals as goal

-- ---- memory runs out

pub returns-then-is_err-clause-reply : goal.returns-then-is_err-clause-reply
returns-then-is_err-clause-reply g c = rw (← c.self.view_is) (λ ask judges. unmade c.self.inside.machine.header c.self.inside.machine.history c.args.judged.who (Asks ask) Memory refl)

pub invariant_of-self-then-is_err : goal.invariant_of-self-then-is_err
invariant_of-self-then-is_err g c =
    ((holds_reserved (g.D.Disk.meaning c.self.inside.first.value) (g.D.Disk.meaning c.self.inside.disk) c.self.inside.machine.header c.self.inside.machine.history c.self.inside.sealed c.self.inside.group_end c.self.inside.journal c.reserve_behind.new.self c.reserve_behind.ensures.same c.reserve_behind.ensures.bytes c.self.invariant.0.0, c.self.invariant.0.1), c.self.invariant.1)

-- ---- it makes no entry

pub invariant_of-self : goal.invariant_of-self
invariant_of-self g c =
    let none = none_made c.args.judged.frame c.args.judged.made c.in_default.ensures.frame in
    let same = still c.self.inside.machine.history c.admit.new.self.history c.args.judged.who c.args.judged.made none c.admit.ensures.history in (
      (
        holds_at _ _ c.self.inside.machine.header c.admit.new.self.header c.self.inside.machine.history c.admit.new.self.history c.self.inside.sealed c.self.inside.group_end c.self.inside.journal c.admit.ensures.header same c.self.invariant.0.0,
        room_kept c.self.inside.machine.history c.admit.new.self.history c.self.inside.sealed c.self.inside.machine.room c.admit.new.self.room same (c.admit.ensures.keeps none) c.self.invariant.0.1,
      ),
      manifests_same _ _ _ _ _ c.admit.ensures.header (ap known same) c.self.invariant.1,
    )

pub returns-in_default-clause-sound : goal.returns-in_default-clause-sound
returns-in_default-clause-sound g c = (invariant_of-self g c).0.0.0

pub returns-in_default-clause-leaves_now : goal.returns-in_default-clause-leaves_now
returns-in_default-clause-leaves_now g c = (invariant_of-self g c).0.0.1.left

pub returns-in_default-clause-reply : goal.returns-in_default-clause-reply
returns-in_default-clause-reply g c =
    rw (← c.self.view_is, c.admit.ensures.granted)
    (λ ask judges. granted_replies c.self.inside.machine.header c.self.inside.machine.history c.self.inside.machine.history c.admit.new.self.history c.args.judged.who ask c.args.judged refl c.admit.ensures.history judges.by judges.is_judged)

-- ---- its entry waits

pub invariant_of-self-2 : goal.invariant_of-self-2
invariant_of-self-2 g c =
    let judged = subst (λ (s : State). (ask : Ask) × Judges s.header s.history s.room c.args.judged.who ask c.args.judged) (sym c.self.view_is) c.requires.judged in
    let made = making _ _ judged.0 c.args.judged c.in-Some.frame.now judged.1.is_judged c.in-Some.ensures.frame in
    let admitted = c.admit_framed-granted.ensures in
    let frame_out : c.admit_framed-granted.result.1.items ≡ c.in-Some.frame.now = c.admit_framed-granted.ensures.frame ∙ sym (frame_by c.in-Some.frame.now c.args.judged.frame c.args.judged.made c.in-Some.ensures.frame) in
    let same = c.take.ensures.same ∙ ap (λ (j : JournalView). record j { pending = c.take.new.self.pending }) c.reserve_behind.ensures.same in
    let bytes = c.take.ensures.bytes ∙ (λ i. grown (c.reserve_behind.ensures.bytes i) (frame_out i)) in (
      (
        holds_entered c.self.inside.machine.header c.self.inside.machine.header c.admit_framed-granted.new.self.header c.self.inside.machine.history c.self.inside.machine.history c.admit_framed-granted.new.self.history
            c.self.inside.sealed judged.0 c.args.judged c.in-Some.frame.now c.self.inside.group_end c.self.inside.journal c.take.new.self (g.D.Disk.meaning c.self.inside.first.value) (g.D.Disk.meaning c.self.inside.disk)
            refl admitted.header refl admitted.history made (g.met.D.Disk.sound c.self.inside.disk) same bytes
            (holds_made c.self.view_is c.self.inside.journal c.args.judged.made made.body made.made_is c.self.invariant.0.0.1.size_is refl c.requires.holds) c.self.invariant.0.0,
        room_entered c.self.inside.machine.header c.self.inside.machine.history c.admit_framed-granted.new.self.history c.self.inside.sealed judged.0 c.args.judged c.in-Some.frame.now c.admit_framed-granted.new.self.room made admitted.room,
      ),
      manifests_grow _ _ _ _ _ _ admitted.header admitted.history admitted.legal c.self.invariant.1,
    )

pub returns-clause-sound : goal.returns-clause-sound
returns-clause-sound g c = (invariant_of-self-2 g c).0.0.0

pub returns-clause-leaves_now : goal.returns-clause-leaves_now
returns-clause-leaves_now g c = (invariant_of-self-2 g c).0.0.1.left

pub returns-clause-reply : goal.returns-clause-reply
returns-clause-reply g c =
    rw (← c.self.view_is, c.admit_framed-granted.ensures.granted)
    (λ ask judges. granted_replies c.self.inside.machine.header c.self.inside.machine.history c.self.inside.machine.history c.admit_framed-granted.new.self.history c.args.judged.who ask c.args.judged refl c.admit_framed-granted.ensures.history judges.by judges.is_judged)
