-- What is heard of a page, and of what its entries need.
--     IsPageReply from bytes lines total rest      the bytes are a reply whose body is this page, and then the rest;  IsNoPageReply from bytes      no such reply begins them
--     TellsPage from text result      the page that a text tells;  heard_instead fault      what is heard where it tells none
--     HearsPage from bytes held rest result      what these bytes to come gave after a question for a page, and what is to come then
--     bytes_fetched fetched      what was replied for an entry;  HearsFetched wanted bytes held rest result      so after the question for it, if there was one
use Rattle.std.specs.Prelude.{ℕ, List, [], Option, None, Some, Result, Ok, Err}
use Rattle.reply_model.specs.Log.{LogLine}
use Rattle.repo_calls.specs.Calls.{lines_seen}
use Rattle.repo_calls.specs.declared.log.LogPage.{LogPage}
use Rattle.page_reader.specs.Pages.{IsPage, IsNoPage}
use Rattle.page_reader.specs.declared.page_fault.PageFault.{PageFault}
use Rattle.page_reader.specs.declared.page_fault.PageFault.TheVariants as faults
use Rattle.follower.specs.declared.inbox.HearFault.{HearFault}
use Rattle.follower.specs.declared.inbox.HearFault.TheVariants.{LinkFault, BadReply, Memory}
use Rattle.follower.specs.declared.inbox.Received.{Received}
use Rattle.follower.specs.declared.reading.Fetched.{Fetched}
use Rattle.follower.specs.declared.wanted.Wanted.{Wanted}
use Rattle.follower.specs.declared.wanted.Wanted.TheVariants.{Page}
use Rattle.follower.specs.Wanting.{IsAnswered, IsFetched, IsUnfetched}
use Rattle.follower.specs.Receiving.{IsAhead}

abbrev pub IsPageReply : ℕ → List ℕ → List LogLine → ℕ → List ℕ → Type 0
IsPageReply from bytes lines total rest = (text : List ℕ) × IsAnswered (Page from) bytes text rest × IsPage from text lines total

abbrev pub IsNoPageReply : ℕ → List ℕ → Type 0
IsNoPageReply from bytes = (lines : List LogLine) (total : ℕ) (rest : List ℕ) → ¬ (IsPageReply from bytes lines total rest)

abbrev pub TellsPage : ℕ → List ℕ → Result LogPage HearFault → Type 0
TellsPage from text (Ok page) = IsPage from text (lines_seen page.entries.items) page.total
TellsPage from text (Err LinkFault) = ⊥
TellsPage from text (Err BadReply) = IsNoPage from text
TellsPage from text (Err Memory) = Unit {0}

abbrev pub heard_instead : PageFault → HearFault
heard_instead faults.BadJson = BadReply
heard_instead faults.BadPart = BadReply
heard_instead faults.BadCount = BadReply
heard_instead faults.OtherText = BadReply
heard_instead faults.Memory = Memory

abbrev pub IsPageHeard : ℕ → List ℕ → List LogLine → ℕ → List ℕ → Option (List ℕ) → Type 0
IsPageHeard from bytes lines total held rest = (left : List ℕ) × IsAhead held rest left × IsPageReply from bytes lines total left

abbrev pub HearsPage : ℕ → List ℕ → List ℕ → Option (List ℕ) → Result LogPage HearFault → Type 0
HearsPage from bytes held rest (Ok page) = IsPageHeard from bytes (lines_seen page.entries.items) page.total held rest
HearsPage from bytes held rest (Err LinkFault) = Unit {0}
HearsPage from bytes held rest (Err BadReply) = IsNoPageReply from bytes
HearsPage from bytes held rest (Err Memory) = Unit {0}

abbrev pub bytes_received : Option Received → List ℕ
bytes_received None = []
bytes_received (Some received) = received.body.items

abbrev pub bytes_fetched : Fetched → List ℕ
bytes_fetched fetched = bytes_received fetched.received

abbrev pub IsFetchHeard : Option Wanted → List ℕ → List ℕ → List ℕ → Option (List ℕ) → Type 0
IsFetchHeard wanted bytes fetched held rest = (left : List ℕ) × IsAhead held rest left × IsFetched wanted bytes fetched left

abbrev pub HearsFetched : Option Wanted → List ℕ → List ℕ → Option (List ℕ) → Result Fetched HearFault → Type 0
HearsFetched wanted bytes held rest (Ok fetched) = IsFetchHeard wanted bytes (bytes_fetched fetched) held rest
HearsFetched wanted bytes held rest (Err LinkFault) = Unit {0}
HearsFetched wanted bytes held rest (Err BadReply) = IsUnfetched wanted bytes
HearsFetched wanted bytes held rest (Err Memory) = Unit {0}
