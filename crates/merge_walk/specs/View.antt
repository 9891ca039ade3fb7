-- How contracts see directories and meetings.
--     dir_of d      the path of a directory, which is the root where none is given
--     meeting_seen m, pending ms      a path with both entries;  meetings, the last one first
--     dir_seen d, dirs_seen ds      directories with their paths
use Rattle.std.specs.Prelude.{List, [], map, reverse, Option, None, Some}
use Rattle.std.specs.Borrow.{Bor}
use Rattle.byte_fields.specs.Bytes.{Id}
use Rattle.changeset_model.specs.Path.{Path}
use Rattle.fsnode.specs.Parts.{entry_seen}
use Rattle.merge_walk.specs.Meeting.{Meeting}
use Rattle.merge_walk.specs.declared.meeting.Meeting.{Meeting as RustMeeting}
use Rattle.merge_walk.specs.declared.left.Directory.{Directory}

abbrev pub dir_of : Option (Bor Path) → Path
dir_of None = []
dir_of (Some d) = d.now

abbrev pub meeting_seen : RustMeeting → Meeting
meeting_seen m = (m.path, (entry_seen m.left, entry_seen m.right))

abbrev pub meetings_seen : List RustMeeting → List Meeting
meetings_seen ms = map meeting_seen ms

abbrev pub pending : List RustMeeting → List Meeting
pending ms = reverse (meetings_seen ms)

abbrev pub dir_seen : Directory → Path × Id
dir_seen d = (d.path, d.id)

abbrev pub dirs_seen : List Directory → List (Path × Id)
dirs_seen ds = map dir_seen ds
