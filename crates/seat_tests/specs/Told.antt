-- A seat that shows what a read asks for, or tells why it shows nothing, whatever the history is. It grants no change.
--     IsTold call answer      it may answer the call so;  lawful, widens      a seat may have this relation
--     IsLanding entry, IsPage page      the log may tell this of some entry, and this page of some entries, of which there are no more than it says
use Rattle.std.specs.Prelude.{◌≡◌, ◌≤◌, List, length, Some}
use Rattle.history_model.specs.History.{Entry}
use Rattle.reply_model.specs.Log.{line_of, lines_of}
use Rattle.reply_model.specs.Reply.{Seen}
use Rattle.reply_model.specs.After.{Call, Asks, Joins, Looks, Derives, Answer, Grants, Refuses, Shows, Lacks, Roots, DiskFault, ReadFault, BadBytes, NodeCollision, Memory}
use Rattle.repo_calls.specs.declared.log.LogEntry.{LogEntry}
use Rattle.repo_calls.specs.declared.log.LogPage.{LogPage}
use Rattle.repo_calls.specs.Calls.{line_seen, lines_seen}
use Rattle.repo_calls.specs.Replying.{Shown, IsReplying}
use Rattle.repo_calls.specs.Widening.{Widens}

abbrev pub IsShown : Call → Seen → Type 0
IsShown (Asks ask) seen = ⊥
IsShown (Joins body) seen = ⊥
IsShown (Looks question) seen = Shown question seen
IsShown (Derives x) seen = ⊥

abbrev pub IsTold : Call → Answer → Type 0
IsTold call (Grants g) = ⊥
IsTold call (Refuses refusal) = ⊥
IsTold call (Shows seen) = IsShown call seen
IsTold call (Lacks absent) = Unit {0}
IsTold call (Roots fs un gone) = ⊥
IsTold call DiskFault = ⊥
IsTold call ReadFault = Unit {0}
IsTold call (BadBytes wanted found) = Unit {0}
IsTold call (NodeCollision x) = Unit {0}
IsTold call Memory = Unit {0}

pub lawful : IsReplying (λ header h who call answer new. IsTold call answer)
lawful = record {
  fits = λ header h who ask granted new r. absurd r;
  shown = λ header h who question seen new r. r;
  memory = λ header h who call answer new none r. tt;
}

pub widens : Widens (λ header h who call answer new. IsTold call answer) (λ header h who call answer new. IsTold call answer)
widens = record { each = λ header h who call answer new r. r }

abbrev pub IsLanding : LogEntry → Type 0
IsLanding entry = (e : Entry) × (line_of e.body ≡ Some (line_seen entry))

abbrev pub IsPage : LogPage → Type 0
IsPage page = (entries : List Entry) × (lines_seen page.entries.items ≡ lines_of entries) × (length entries ≤ page.total)
