use Rattle.std.proofs.Common.{◌++◌, ◌^◌, [], sym, ap, subst, ◌∙◌, arith}
use Rattle.std.proofs.lemmas.Grind.{common_steps}
use Rattle.std.proofs.lemmas.Slice.Eq.{bytes_eq-Decides}
use Rattle.merge_walk.specs.Left.{Judged}
use Rattle.merge_walk.specs.Meeting.{met}
use Rattle.merge_walk.specs.View.{meeting_seen, pending}
use Rattle.merge_walk.proofs.Merging.{popped_first, nothing_left}
use Rattle.merge_walk.proofs.Walking.{begins, goes_on, falls, same_roots, none_pending, first_is}
use Rattle.merge_walk.proofs.Costs.{due_first, due_own, reads_is, reads_two}
use Rattle.merge_walk.proofs.walk.least_unresolved.Goals as goal

pub returns-then-eq-clause-exact : goal.returns-then-eq-clause-exact
returns-then-eq-clause-exact g c = λ l r lt rt. same_roots (g.D.Directories.listed c.args.dirs.now) c.args.change.now c.args.left c.args.right l r ((bytes_eq-Decides c.args.left c.args.right).0 (sym c.if-eq.ensures)) lt rt

pub loop-meeting-init : goal.loop-meeting-init
loop-meeting-init g c =
    let listed = g.D.Directories.listed c.args.dirs.now in
    let laid = c.in_ok-open.ensures.laid ∙ ap (λ ms. met [] (listed c.args.left) (listed c.args.right) ++ pending ms) c.new-pending.ensures.items in
    let all = reads_is listed c.args.change.now c.args.left c.args.right (pending c.open.new.pending.items) (sym c.if-eq.ensures) laid in
    record {
      meetings = begins listed c.args.change.now c.args.left c.args.right (pending c.open.new.pending.items) (g.met.D.Directories.rising c.args.dirs.now) laid;
      counted = omega arith;
      cost = omega arith;
    }

pub returns-then-branch-clause-exact : goal.returns-then-branch-clause-exact
returns-then-branch-clause-exact g c = λ l r lt rt.
    let listed = g.D.Directories.listed c.args.dirs.now in
    let m = meeting_seen c.in-Some.meeting in
    first_is listed c.args.change.now c.args.left c.args.right l r m (pending c.loop-meeting.pending.items) (pending c.pop.new.self.items)
    (popped_first meeting_seen c.loop-meeting.pending.items c.pop.new.self.items c.in-Some.meeting c.in-Some.ensures.items)
    c.loop-meeting.invariant.meetings (subst (Judged listed c.args.change.now m.0 m.1.0 m.1.1) c.if-branch.true c.in_ok-is_unresolved.ensures.judged) lt rt

pub loop-meeting-smaller : goal.loop-meeting-smaller
loop-meeting-smaller g c =
    let listed = g.D.Directories.listed c.args.dirs.now in
    falls listed c.args.change.now (2 ^ 64) (meeting_seen c.in-Some.meeting) (pending c.loop-meeting.pending.items) (pending c.pop.new.self.items) (pending c.open_met.new.pending.items)
    (popped_first meeting_seen c.loop-meeting.pending.items c.pop.new.self.items c.in-Some.meeting c.in-Some.ensures.items)
    c.in_ok-open_met.ensures.laid c.in_ok-open_met.ensures.few

pub loop-meeting-preserved : goal.loop-meeting-preserved
loop-meeting-preserved g c =
    let listed = g.D.Directories.listed c.args.dirs.now in
    let m = meeting_seen c.in-Some.meeting in
    let popped = popped_first meeting_seen c.loop-meeting.pending.items c.pop.new.self.items c.in-Some.meeting c.in-Some.ensures.items in
    let all = due_first listed c.args.change.now m (pending c.loop-meeting.pending.items) (pending c.pop.new.self.items) (pending c.open_met.new.pending.items) popped c.in_ok-open_met.ensures.laid in
    record {
      meetings = goes_on listed c.args.change.now _ _ m (pending c.loop-meeting.pending.items) (pending c.pop.new.self.items) (pending c.open_met.new.pending.items) (g.met.D.Directories.rising c.args.dirs.now) popped
          (subst (Judged listed c.args.change.now m.0 m.1.0 m.1.1) c.if-branch.false c.in_ok-is_unresolved.ensures.judged)
          c.in_ok-open_met.ensures.laid c.loop-meeting.invariant.meetings;
      counted = omega arith;
      cost = omega arith;
    }

pub returns-clause-exact : goal.returns-clause-exact
returns-clause-exact g c = λ l r lt rt. none_pending (g.D.Directories.listed c.args.dirs.now) c.args.change.now c.args.left c.args.right l r (pending c.loop-meeting.pending.items) (nothing_left meeting_seen c.loop-meeting.pending.items (grind (arith, common_steps))) c.loop-meeting.invariant.meetings lt rt

pub returns-in_err-open-clause-cost : goal.returns-in_err-open-clause-cost
returns-in_err-open-clause-cost g c =
    let two = reads_two (g.D.Directories.listed c.args.dirs.now) c.args.change.now c.args.left c.args.right (sym c.if-eq.ensures) in
    omega arith

pub returns-in_err-is_unresolved-clause-cost : goal.returns-in_err-is_unresolved-clause-cost
returns-in_err-is_unresolved-clause-cost g c =
    let popped = popped_first meeting_seen c.loop-meeting.pending.items c.pop.new.self.items c.in-Some.meeting c.in-Some.ensures.items in
    let own = due_own (g.D.Directories.listed c.args.dirs.now) c.args.change.now (meeting_seen c.in-Some.meeting) (pending c.loop-meeting.pending.items) (pending c.pop.new.self.items) popped in
    omega arith

pub returns-then-branch-clause-cost : goal.returns-then-branch-clause-cost
returns-then-branch-clause-cost g c =
    let popped = popped_first meeting_seen c.loop-meeting.pending.items c.pop.new.self.items c.in-Some.meeting c.in-Some.ensures.items in
    let own = due_own (g.D.Directories.listed c.args.dirs.now) c.args.change.now (meeting_seen c.in-Some.meeting) (pending c.loop-meeting.pending.items) (pending c.pop.new.self.items) popped in
    omega arith

pub returns-in_err-open_met-clause-cost : goal.returns-in_err-open_met-clause-cost
returns-in_err-open_met-clause-cost g c =
    let popped = popped_first meeting_seen c.loop-meeting.pending.items c.pop.new.self.items c.in-Some.meeting c.in-Some.ensures.items in
    let own = due_own (g.D.Directories.listed c.args.dirs.now) c.args.change.now (meeting_seen c.in-Some.meeting) (pending c.loop-meeting.pending.items) (pending c.pop.new.self.items) popped in
    omega arith
