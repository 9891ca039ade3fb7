-- Reads that see something.
--     Suits question seen      what is seen is what was asked for, and a page of the log has no more entries than there are from its first on
--     seen_response question seen      the response to it
use Rattle.std.specs.Prelude.{ℕ, ◌-◌, ◌≤◌, length}
use Rattle.reply_model.specs.Reply as reply
use Rattle.repo_calls.specs.Calls.{lines_seen}
use Rattle.repo_calls.specs.Asking.{question_seen, copies_seen}
use Rattle.repo_calls.specs.Replying.{SeenKind, HeadKind, BytesKind, PageKind, IdsKind, CopiesKind, kind_of}
use Rattle.repo_calls.specs.declared.calls.Question.{Question}
use Rattle.repo_calls.specs.declared.calls.Seen.{Seen}
use Rattle.repo_calls.specs.declared.calls.Seen.TheVariants as seen
use Rattle.session_model.specs.declared.status.Status.TheVariants.{Fine}
use Rattle.session_model.specs.Responses.{Response}
use Rattle.session_model.specs.Bodies.{json, octets, log_body, copies_body}
use Rattle.session_model.specs.Asking as asking

abbrev pub IsHead : Seen → Type 0
IsHead (seen.Head head) = Unit {0}
IsHead (seen.Bytes bytes) = ⊥
IsHead (seen.Log page) = ⊥
IsHead (seen.Ids ids) = ⊥
IsHead (seen.Copies copies) = ⊥

abbrev pub AreBytes : Seen → Type 0
AreBytes (seen.Head head) = ⊥
AreBytes (seen.Bytes bytes) = Unit {0}
AreBytes (seen.Log page) = ⊥
AreBytes (seen.Ids ids) = ⊥
AreBytes (seen.Copies copies) = ⊥

abbrev pub IsPageFrom : ℕ → Seen → Type 0
IsPageFrom n (seen.Head head) = ⊥
IsPageFrom n (seen.Bytes bytes) = ⊥
IsPageFrom n (seen.Log page) = length page.entries.items ≤ page.total - n
IsPageFrom n (seen.Ids ids) = ⊥
IsPageFrom n (seen.Copies copies) = ⊥

abbrev pub AreIds : Seen → Type 0
AreIds (seen.Head head) = ⊥
AreIds (seen.Bytes bytes) = ⊥
AreIds (seen.Log page) = ⊥
AreIds (seen.Ids ids) = Unit {0}
AreIds (seen.Copies copies) = ⊥

abbrev pub AreCopies : Seen → Type 0
AreCopies (seen.Head head) = ⊥
AreCopies (seen.Bytes bytes) = ⊥
AreCopies (seen.Log page) = ⊥
AreCopies (seen.Ids ids) = ⊥
AreCopies (seen.Copies copies) = Unit {0}

abbrev pub SuitsKind : SeenKind → Seen → Type 0
SuitsKind HeadKind s = IsHead s
SuitsKind BytesKind s = AreBytes s
SuitsKind (PageKind n) s = IsPageFrom n s
SuitsKind IdsKind s = AreIds s
SuitsKind CopiesKind s = AreCopies s

abbrev pub Suits : Question → Seen → Type 0
Suits question s = SuitsKind (kind_of (question_seen question)) s

-- the first entry of a page of the log
abbrev pub first_number : SeenKind → ℕ
first_number HeadKind = 0
first_number BytesKind = 0
first_number (PageKind n) = n
first_number IdsKind = 0
first_number CopiesKind = 0

abbrev pub seen_response : Question → Seen → Response
seen_response question (seen.Head head) = asking.seen (question_seen question) (reply.SeenHead head)
seen_response question (seen.Bytes bytes) = octets bytes.items
seen_response question (seen.Ids ids) = asking.seen (question_seen question) (reply.SeenIds ids.items)
seen_response question (seen.Copies copies) = json Fine (copies_body (copies_seen copies.items))
seen_response question (seen.Log page) = json Fine (log_body (first_number (kind_of (question_seen question))) (lines_seen page.entries.items) page.total)
