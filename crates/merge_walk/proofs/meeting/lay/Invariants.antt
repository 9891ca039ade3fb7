use Rattle.std.proofs.Common.{◌≡◌, ◌++◌, vec_len}
use Rattle.merge_walk.specs.View.{meetings_seen, pending}
use Rattle.merge_walk.proofs.meeting.lay.Given as goal

abbrev pub invariant-loop-meeting : goal.invariant-loop-meeting
invariant-loop-meeting l = meetings_seen l.meetings.items ++ pending l.onto.items ≡ meetings_seen l.fn.meetings.items ++ pending l.fn.onto.items

abbrev pub decreases-loop-meeting : goal.decreases-loop-meeting
decreases-loop-meeting l = vec_len l.meetings
