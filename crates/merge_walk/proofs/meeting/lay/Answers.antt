use Rattle.std.proofs.Common.{◌∙◌}
use Rattle.merge_walk.specs.View.{meeting_seen}
use Rattle.merge_walk.proofs.Merging.{laid}
use Rattle.merge_walk.proofs.meeting.lay.Goals as goal

pub loop-meeting-preserved : goal.loop-meeting-preserved
loop-meeting-preserved c = laid meeting_seen c.loop-meeting.meetings.items c.pop.new.self.items c.loop-meeting.onto.items c.push.new.self.items c.in-Some.meeting c.in-Some.ensures.items c.in_ok-push.ensures.items ∙ c.loop-meeting.invariant
