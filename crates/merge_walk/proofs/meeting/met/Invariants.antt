use Rattle.std.proofs.Common.{◌-◌, ◌+◌, drop, length}
use Rattle.fsnode.specs.Parts.{children_seen}
use Rattle.merge_walk.specs.Meeting.{met}
use Rattle.merge_walk.specs.View.{dir_of, meetings_seen}
use Rattle.merge_walk.proofs.Merging.{Meets}
use Rattle.merge_walk.proofs.meeting.met.Given as goal

abbrev pub invariant-walk : goal.invariant-walk
invariant-walk l = Meets (dir_of l.dir) (meetings_seen l.meetings.items) (children_seen (drop l.i l.left)) (children_seen (drop l.j l.right)) (met (dir_of l.dir) (children_seen l.left) (children_seen l.right))

abbrev pub decreases-walk : goal.decreases-walk
decreases-walk l = (length l.left - l.i) + (length l.right - l.j)
