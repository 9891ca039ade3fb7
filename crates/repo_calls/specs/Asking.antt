-- Changes, reads and their answers, as questions and answers of the definitions.
--     question_seen question      a read;  place_of dir      a path, or the root where there is none
--     stored_answer result      the answer to a change
--     fault_answer fault, bytes_answer result      the answer of a read that sees nothing, and of one that sees bytes
--     copy_seen copy, copies_seen copies      a path that is set as a copy, with what it was copied from
--     IsAnswer result answer      the answer that a read gives. A page of the log tells less than the definitions' page
--     reads_file question      the read asks the disk
--     is_disk_fault result, is_unread result, is_misread result      which answer to a change it is
--     is_read_fault result, is_bad_bytes result, is_early result      which answer of a read it is
use Rattle.std.specs.Prelude.{◌≡◌, ℕ, Bool, true, false, List, [], map, Option, None, Some, Vec, Result, Ok, Err}
use Rattle.std.specs.Borrow.{Bor}
use Rattle.changeset_model.specs.Path.{Path}
use Rattle.changeset_model.specs.Changeset.{CopySource}
use Rattle.history_model.specs.History.{Entry}
use Rattle.reply_model.specs.After as answers
use Rattle.reply_model.specs.After.{Answer}
use Rattle.reply_model.specs.Log.{lines_of}
use Rattle.reply_model.specs.Reply as reply
use Rattle.repo_calls.specs.declared.ask.Granted.{Granted}
use Rattle.repo_calls.specs.Calls.{granted_seen, refused, lines_seen}
use Rattle.repo_calls.specs.declared.copies.CopiedPath.{CopiedPath}
use Rattle.repo_calls.specs.declared.calls.Question.{Question}
use Rattle.repo_calls.specs.declared.calls.Question.TheVariants as questions
use Rattle.repo_calls.specs.declared.calls.Seen.{Seen}
use Rattle.repo_calls.specs.declared.calls.Seen.TheVariants as seen
use Rattle.repo_calls.specs.declared.calls.ChangeFault.{ChangeFault}
use Rattle.repo_calls.specs.declared.calls.ChangeFault.TheVariants as changes
use Rattle.repo_calls.specs.declared.calls.AskFault.{AskFault}
use Rattle.repo_calls.specs.declared.calls.AskFault.TheVariants.{NoContent, NoChangeset, NoPath, NotADir, NotAFile, NoPolicy, Collision, ReadFault, BadBytes, Memory}

abbrev pub place_of : Option (Bor Path) → Path
place_of None = []
place_of (Some path) = path.now

abbrev pub question_seen : Question → reply.Question
question_seen (questions.Head name) = reply.HeadOf name.now
question_seen (questions.Content id) = reply.ContentOf id
question_seen (questions.Changeset id) = reply.ChangesetOf id
question_seen (questions.Log from) = reply.LogFrom from
question_seen (questions.Fsnode id dir) = reply.FsnodeOf id (place_of dir)
question_seen (questions.Unode id path) = reply.UnodeOf id (place_of path)
question_seen (questions.History id path) = reply.HistoryOf id path.now
question_seen (questions.Copies id) = reply.CopiesOf id
question_seen (questions.PathLog id path) = reply.PathLogOf id path.now
question_seen (questions.Deleted id dir) = reply.DeletedOf id (place_of dir)
question_seen (questions.Policy number) = reply.PolicyOf number

abbrev pub stored_answer : Result Granted ChangeFault → Answer
stored_answer (Ok granted) = answers.Grants (granted_seen granted)
stored_answer (Err (changes.Refused refusal)) = refused refusal
stored_answer (Err changes.DiskFault) = answers.DiskFault
stored_answer (Err changes.ReadFault) = answers.ReadFault
stored_answer (Err (changes.BadBytes wanted found)) = answers.BadBytes wanted found

abbrev pub is_disk_fault : {T : Type 0} → Result T ChangeFault → Bool
is_disk_fault (Ok x) = false
is_disk_fault (Err (changes.Refused refusal)) = false
is_disk_fault (Err changes.DiskFault) = true
is_disk_fault (Err changes.ReadFault) = false
is_disk_fault (Err (changes.BadBytes wanted found)) = false

abbrev pub is_unread : {T : Type 0} → Result T ChangeFault → Bool
is_unread (Ok x) = false
is_unread (Err (changes.Refused refusal)) = false
is_unread (Err changes.DiskFault) = false
is_unread (Err changes.ReadFault) = true
is_unread (Err (changes.BadBytes wanted found)) = false

abbrev pub is_misread : {T : Type 0} → Result T ChangeFault → Bool
is_misread (Ok x) = false
is_misread (Err (changes.Refused refusal)) = false
is_misread (Err changes.DiskFault) = false
is_misread (Err changes.ReadFault) = false
is_misread (Err (changes.BadBytes wanted found)) = true

abbrev pub fault_answer : AskFault → Answer
fault_answer (NoContent id) = answers.Lacks (reply.AbsentContent id)
fault_answer (NoChangeset id) = answers.Lacks (reply.AbsentChangeset id)
fault_answer NoPath = answers.Lacks reply.NoPath
fault_answer NotADir = answers.Lacks reply.NotADir
fault_answer NotAFile = answers.Lacks reply.NotAFile
fault_answer NoPolicy = answers.Lacks reply.NoPolicy
fault_answer (Collision id) = answers.NodeCollision id
fault_answer ReadFault = answers.ReadFault
fault_answer (BadBytes wanted found) = answers.BadBytes wanted found
fault_answer Memory = answers.Memory

abbrev pub bytes_answer : {A : Type 0} → Result (Vec ℕ A) AskFault → Answer
bytes_answer (Ok bytes) = answers.Shows (reply.SeenBytes bytes.items)
bytes_answer (Err fault) = fault_answer fault

abbrev pub copy_seen : CopiedPath → Path × CopySource
copy_seen copy = (copy.to, record { parent = copy.parent; path = copy.from })

abbrev pub copies_seen : List CopiedPath → List (Path × CopySource)
copies_seen copies = map copy_seen copies

abbrev pub IsAnswer : Result Seen AskFault → Answer → Type 0
IsAnswer (Ok (seen.Head head)) answer = answer ≡ answers.Shows (reply.SeenHead head)
IsAnswer (Ok (seen.Bytes bytes)) answer = answer ≡ answers.Shows (reply.SeenBytes bytes.items)
IsAnswer (Ok (seen.Log page)) answer = (entries : List Entry) × (answer ≡ answers.Shows (reply.SeenLog entries page.total)) × (lines_seen page.entries.items ≡ lines_of entries)
IsAnswer (Ok (seen.Ids ids)) answer = answer ≡ answers.Shows (reply.SeenIds ids.items)
IsAnswer (Ok (seen.Copies copies)) answer = answer ≡ answers.Shows (reply.SeenCopies (copies_seen copies.items))
IsAnswer (Err fault) answer = answer ≡ fault_answer fault

abbrev pub reads_file : Question → Bool
reads_file (questions.Head name) = false
reads_file (questions.Content id) = true
reads_file (questions.Changeset id) = false
reads_file (questions.Log from) = false
reads_file (questions.Fsnode id dir) = false
reads_file (questions.Unode id path) = false
reads_file (questions.History id path) = false
reads_file (questions.Copies id) = false
reads_file (questions.PathLog id path) = false
reads_file (questions.Deleted id dir) = false
reads_file (questions.Policy number) = false

abbrev pub is_read_fault : {T : Type 0} → Result T AskFault → Bool
is_read_fault (Ok x) = false
is_read_fault (Err (NoContent id)) = false
is_read_fault (Err (NoChangeset id)) = false
is_read_fault (Err NoPath) = false
is_read_fault (Err NotADir) = false
is_read_fault (Err NotAFile) = false
is_read_fault (Err NoPolicy) = false
is_read_fault (Err (Collision id)) = false
is_read_fault (Err ReadFault) = true
is_read_fault (Err (BadBytes wanted found)) = false
is_read_fault (Err Memory) = false

abbrev pub is_bad_bytes : {T : Type 0} → Result T AskFault → Bool
is_bad_bytes (Ok x) = false
is_bad_bytes (Err (NoContent id)) = false
is_bad_bytes (Err (NoChangeset id)) = false
is_bad_bytes (Err NoPath) = false
is_bad_bytes (Err NotADir) = false
is_bad_bytes (Err NotAFile) = false
is_bad_bytes (Err NoPolicy) = false
is_bad_bytes (Err (Collision id)) = false
is_bad_bytes (Err ReadFault) = false
is_bad_bytes (Err (BadBytes wanted found)) = true
is_bad_bytes (Err Memory) = false

-- it is answered before the disk is asked
abbrev pub is_early : {T : Type 0} → Result T AskFault → Bool
is_early (Ok x) = false
is_early (Err (NoContent id)) = true
is_early (Err (NoChangeset id)) = true
is_early (Err NoPath) = true
is_early (Err NotADir) = true
is_early (Err NotAFile) = true
is_early (Err NoPolicy) = true
is_early (Err (Collision id)) = true
is_early (Err ReadFault) = false
is_early (Err (BadBytes wanted found)) = false
is_early (Err Memory) = true
