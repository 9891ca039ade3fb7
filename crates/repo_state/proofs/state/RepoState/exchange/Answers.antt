use Rattle.std.proofs.Common.{List, ℕ, inr, sym, ap, subst, length, arith, refl, ◌∙◌}
use Rattle.std.specs.Prelude.{None, Some}
use Rattle.history_model.specs.History.{Land}
use Rattle.reply_model.specs.Reply.{LandDraft}
use Rattle.reply_model.specs.After.{Asks, Grants, Replies}
use Rattle.repo_calls.specs.declared.refusal.Refusal.TheVariants.{Down}
use Rattle.repo_machine.specs.Held.{HasRoom}
use Rattle.repo_machine.specs.Plans.{landing_in}
use Rattle.repo_state.specs.State.{State}
use Rattle.repo_state.specs.declared.exchanged.Exchanged.TheVariants.{Landed, HeadMoved, Refused}
use Rattle.repo_state.proofs.Heads.{is_there, is_moved}
use Rattle.repo_state.proofs.Known.{manifests_grow}
use Rattle.repo_state.proofs.Landed.{lands_as}
use Rattle.repo_state.proofs.Stepping.{exchanges, down_exchanges}
use Rattle.repo_state.proofs.Storing.{making, frame_by, holds_entered, room_entered, granted_replies, refused_replies}
use Rattle.history_model.specs.History.{bodies}
use Rattle.repo_journal.specs.Groups.{with_group}
use Rattle.repo_state.proofs.Wholes.{asks_nothing}
use Rattle.repo_state.proofs.state.RepoState.exchange.Goals as goal

pub judge_rebased-requires-clause-room : goal.judge_rebased-requires-clause-room
judge_rebased-requires-clause-room g c = subst (λ (s : State). HasRoom s.room (Some (Land (landing_in c.args.rebased None)))) (sym c.self.view_is) (c.requires.room None)

pub hold-requires : goal.hold-requires
hold-requires g c =
    let same = ap (λ (b : List ℕ). length b) (frame_by c.in-Some.frame.now c.in-Ok.judged.frame c.in-Ok.judged.made c.in-Some.ensures.frame) in
    let long = c.in-Ok.ensures.made.1 in
    let room = c.requires.record_room in
    let view = ap (λ (s : State). s.pending.room) c.self.view_is in
    omega arith

pub invariant_of-self : goal.invariant_of-self
invariant_of-self g c =
    let judged = c.in-Ok.judged in
    let made = making _ _ _ judged c.in-Some.frame.now c.in-Ok.ensures.ok.is_judged c.in-Some.ensures.frame in
    let admitted = c.admit.ensures in (
      (
        holds_entered c.self.inside.machine.header c.self.inside.machine.header c.admit.new.self.header c.self.inside.machine.history c.self.inside.machine.history c.admit.new.self.history
            c.self.inside.sealed (LandDraft c.args.rebased.caller c.args.rebased.name c.args.rebased.draft c.args.rebased.asked) judged c.in-Some.frame.now c.self.inside.group_end c.self.inside.journal c.hold.new.self (g.D.Disk.meaning c.self.inside.first.value) (g.D.Disk.meaning c.self.inside.disk)
            refl admitted.header refl admitted.history made (g.met.D.Disk.sound c.self.inside.disk) c.hold.ensures.same c.hold.ensures.bytes
            (λ honest. asks_nothing c.self.inside.machine.header c.self.inside.machine.history (LandDraft c.args.rebased.caller c.args.rebased.name c.args.rebased.draft c.args.rebased.asked) judged.granted made.body tt made.granted
            (with_group c.self.inside.journal.size c.self.inside.journal.pending.bytes (g.D.Disk.meaning c.self.inside.disk).state.reads) (bodies c.self.inside.machine.history)) c.self.invariant.0.0,
        room_entered c.self.inside.machine.header c.self.inside.machine.history c.admit.new.self.history c.self.inside.sealed (LandDraft c.args.rebased.caller c.args.rebased.name c.args.rebased.draft c.args.rebased.asked) judged c.in-Some.frame.now c.admit.new.self.room made admitted.room,
      ),
      manifests_grow _ _ _ _ _ _ admitted.header admitted.history admitted.legal c.self.invariant.1,
    )

pub returns-in-Err-clause-exchanged : goal.returns-in-Err-clause-exchanged
returns-in-Err-clause-exchanged g c =
    let there = is_there c.self.inside.machine.history c.name.result.now c.args.rebased.name c.head-found.result c.old.result c.args.rebased.old c.ne.result c.name.ensures c.head-found.ensures c.old.ensures c.ne.ensures c.if-ne.false in
    let why = c.in-Err.ensures.err in
    rw (← c.self.view_is)
    (inr there, why.passes, refused_replies c.self.inside.machine.header c.self.inside.machine.history c.self.inside.machine.history c.args.who (LandDraft c.args.rebased.caller c.args.rebased.name c.args.rebased.draft c.args.rebased.asked) c.in-Err.refusal refl (inr (why.refusal, why.is_refused, why.same)))

pub returns-clause-exchanged : goal.returns-clause-exchanged
returns-clause-exchanged g c =
    let there = is_there c.self.inside.machine.history c.name.result.now c.args.rebased.name c.head-found.result c.old.result c.args.rebased.old c.ne.result c.name.ensures c.head-found.ensures c.old.ensures c.ne.ensures c.if-ne.false in
    let replied = granted_replies c.self.inside.machine.header c.self.inside.machine.history c.self.inside.machine.history c.admit.new.self.history c.args.who (LandDraft c.args.rebased.caller c.args.rebased.name c.args.rebased.draft c.args.rebased.asked) c.in-Ok.judged refl c.admit.ensures.history c.in-Ok.ensures.ok.by c.in-Ok.ensures.ok.is_judged in
    rw (← c.self.view_is)
    (there, subst (λ granted. Replies c.self.inside.machine.header c.self.inside.machine.history c.args.who (Asks (LandDraft c.args.rebased.caller c.args.rebased.name c.args.rebased.draft c.args.rebased.asked)) (Grants granted) c.admit.new.self.history) (sym c.in-Landing.ensures.granted) replied)

pub returns-clause-sound : goal.returns-clause-sound
returns-clause-sound g c = (invariant_of-self g c).0.0.0

pub returns-clause-leaves_now : goal.returns-clause-leaves_now
returns-clause-leaves_now g c = (invariant_of-self g c).0.0.1.left

-- ---- the trees after it, and its steps

pub returns-clause-lands : goal.returns-clause-lands
returns-clause-lands g c =
    lands_as _ _ _ _ (Asks (LandDraft c.args.rebased.caller c.args.rebased.name c.args.rebased.draft c.args.rebased.asked)) _ _ (c.admit.ensures.header ∙ ap (λ (s : State). s.header) c.self.view_is) c.admit.ensures.legal (returns-clause-exchanged g c).1

pub returns-clause-core : goal.returns-clause-core
returns-clause-core g c = exchanges _ _ _ _ c.args.rebased (Landed c.in-Landing.landed) _ (returns-clause-exchanged g c)

pub returns-in-Err-clause-core : goal.returns-in-Err-clause-core
returns-in-Err-clause-core g c = exchanges _ _ _ _ c.args.rebased (Refused c.in-Err.refusal) _ (returns-in-Err-clause-exchanged g c)

pub returns-then-down-clause-core : goal.returns-then-down-clause-core
returns-then-down-clause-core g c =
    let h = c.self.inside.machine.history in
    rw (← c.self.view_is)
    (exchanges c.self.inside.machine.header h c.self.inside.sealed c.args.who c.args.rebased (Refused Down) h (down_exchanges c.self.inside.machine.header h c.args.who c.args.rebased (sym c.down.ensures ∙ c.if-down.true)))

pub returns-then-ne-clause-core : goal.returns-then-ne-clause-core
returns-then-ne-clause-core g c =
    let h = c.self.inside.machine.history in
    let moved = is_moved h c.name.result.now c.args.rebased.name c.head-found.result c.old.result c.args.rebased.old c.ne.result c.name.ensures c.head-found.ensures c.old.ensures c.ne.ensures c.if-ne.true in
    rw (← c.self.view_is)
    (exchanges c.self.inside.machine.header h c.self.inside.sealed c.args.who c.args.rebased (HeadMoved c.head-found.result) h (sym c.down.ensures ∙ c.if-down.false, moved.0, moved.1, refl))
