use Rattle.std.proofs.Common.{sym}
use Rattle.fsnode.specs.Parts.{child_seen}
use Rattle.merge_tree.proofs.Steps.{left_of}
use Rattle.merge_walk.specs.View.{dir_of, meetings_seen}
use Rattle.merge_walk.proofs.Merging.{meets_less, meets_greater, meets_equal, met_left, met_right}
use Rattle.std.proofs.lemmas.List.{drop_all}
use Rattle.merge_walk.proofs.meeting.met.Goals as goal
use Rattle.merge_walk.proofs.meeting.met.Goals.{then-walk-test+else-j-right, else-walk-test}

pub walk-preserved-in-Less : goal.walk-preserved-in-Less
walk-preserved-in-Less c =
    meets_less child_seen (dir_of c.args.dir) (meetings_seen c.walk.meetings.items) _ _ _ _ _ c.index-left-i.result c.index-right-j.result
    (left_of c.args.left.now c.walk.i c.index-left-i.result c.walk-test.true c.index-left-i.is)
    (left_of c.args.right.now c.walk.j c.index-right-j.result c.if-j-right.true c.index-right-j.is)
    (sym c.in-Less.ensures) c.walk.invariant

pub walk-preserved-in-Greater : goal.walk-preserved-in-Greater
walk-preserved-in-Greater c =
    meets_greater child_seen (dir_of c.args.dir) (meetings_seen c.walk.meetings.items) _ _ _ _ _ c.index-left-i.result c.index-right-j.result
    (left_of c.args.left.now c.walk.i c.index-left-i.result c.walk-test.true c.index-left-i.is)
    (left_of c.args.right.now c.walk.j c.index-right-j.result c.if-j-right.true c.index-right-j.is)
    (sym c.in-Greater.ensures) c.walk.invariant

pub walk-preserved : goal.walk-preserved
walk-preserved c =
    meets_equal child_seen (dir_of c.args.dir) (meetings_seen c.walk.meetings.items) _ _ _ _ _ c.index-left-i.result c.index-right-j.result (meetings_seen c.push_met.new.meetings.items)
    (left_of c.args.left.now c.walk.i c.index-left-i.result c.walk-test.true c.index-left-i.is)
    (left_of c.args.right.now c.walk.j c.index-right-j.result c.if-j-right.true c.index-right-j.is)
    (sym c.in-Equal.ensures) c.in_ok-push_met-in-Equal.ensures c.walk.invariant

pub returns : goal.returns
returns c =
    elim c.walk-test.branch [
      | then-walk-test+else-j-right w ↦ met_right child_seen (dir_of c.args.dir) (meetings_seen c.walk.meetings.items) _ _ _ (drop_all c.walk.j c.args.right.now w.if-j-right.false) c.walk.invariant
      | else-walk-test w ↦ met_left child_seen (dir_of c.args.dir) (meetings_seen c.walk.meetings.items) _ _ _ (drop_all c.walk.i c.args.left.now w.walk-test.false) c.walk.invariant
    ]
