-- What is found for a change before it is judged.
--     left_of found      the path that was found to be left unresolved, if one was
--     IsLeft h c path      it is what the changeset leaves unresolved between its parents' trees, once they are known
--     IsFoundAsk h ask found      what a changeset needs at h
--     IsFoundWhole header h body found      what was read of contents that are to be joined
--     IsFoundFor header h call found      it is what this call needs at h
--     IsFoundOf h ready found      it is what this needs that was made ready;  IsFound header h prepared found      and what this change needs
--     IsWantedOf c wanted, IsWantedBy ready wanted, IsWanted prepared wanted      it tells what is to be found
use Rattle.std.specs.Prelude.{◌≡◌, ◌≤◌, ℕ, true, List, length, Option, None, Ok}
use Rattle.std.specs.Arc.{arc_value}
use Rattle.std.specs.List.{AllByRecursion}
use Rattle.byte_fields.specs.Bytes.{are_bytes}
use Rattle.changeset_model.specs.Path.{Path}
use Rattle.changeset_model.specs.Changeset.{Changeset}
use Rattle.changeset_model.specs.Decoding.{decoded}
use Rattle.history_model.specs.History.{Entry, known, is_known}
use Rattle.history_model.specs.Journal.{Header}
use Rattle.reply_model.specs.Reply as reply
use Rattle.reply_model.specs.Reply.{Ask, unresolved_of}
use Rattle.reply_model.specs.After.{Call, Asks, Joins, Looks, Derives}
use Rattle.repo_machine.specs.declared.found.Found.{Found}
use Rattle.repo_machine.specs.declared.found.Found.TheVariants as found
use Rattle.repo_machine.specs.declared.prepared.Prepared.{Prepared}
use Rattle.repo_machine.specs.declared.prepared.Ready.{Ready}
use Rattle.repo_machine.specs.declared.prepared.Ready.TheVariants as ready
use Rattle.repo_machine.specs.declared.prepared.Wanted.{Wanted}
use Rattle.repo_machine.specs.declared.prepared.Wanted.TheVariants as wanted
use Rattle.repo_machine.specs.Prepared.{asked_by}
use Rattle.repo_machine.specs.Wholes.{IsWholeOf}

abbrev pub left_of : Found → Option Path
left_of found.Nothing = None
left_of (found.Joined whole) = None
left_of (found.Unresolved path) = path

abbrev pub IsLeft : List Entry → Changeset → Option Path → Type 0
IsLeft h c path = AllByRecursion (λ p. is_known (known h) p ≡ true) c.parents → path ≡ unresolved_of (known h) c c.parents

-- ---- of what is asked

abbrev pub IsFoundAsk : List Entry → Ask → Found → Type 0
IsFoundAsk h (reply.PutContent bytes) found = Unit {0}
IsFoundAsk h (reply.PutWhole body pieces) found = Unit {0}
IsFoundAsk h (reply.PutChangeset bytes) found = (c : Changeset) → decoded bytes ≡ Ok c → IsLeft h c (left_of found)
IsFoundAsk h (reply.SetBookmark caller name from to) found = Unit {0}
IsFoundAsk h (reply.LandDraft caller name draft moment) found = Unit {0}
IsFoundAsk h (reply.SetPolicy caller text) found = Unit {0}

abbrev pub IsFoundWhole : Header → List Entry → List ℕ → Found → Type 0
IsFoundWhole header h body found.Nothing = ⊥
IsFoundWhole header h body (found.Joined whole) = (pieces : List (List ℕ)) × IsWholeOf header h body pieces whole
IsFoundWhole header h body (found.Unresolved path) = ⊥

abbrev pub IsFoundFor : Header → List Entry → Call → Found → Type 0
IsFoundFor header h (Asks ask) found = IsFoundAsk h ask found
IsFoundFor header h (Joins body) found = IsFoundWhole header h body found
IsFoundFor header h (Looks question) found = Unit {0}
IsFoundFor header h (Derives id) found = Unit {0}

-- ---- of what was made ready

abbrev pub IsFoundOf : List Entry → Ready → Found → Type 0
IsFoundOf h (ready.Refused refusal) found = Unit {0}
IsFoundOf h (ready.Content id frame) found = Unit {0}
IsFoundOf h (ready.Changeset framed) found = IsLeft h (arc_value framed.commit) (left_of found)
IsFoundOf h (ready.Policy read) found = Unit {0}
IsFoundOf h ready.Asked found = Unit {0}

abbrev pub IsFoundReady : Header → List Entry → Call → Ready → Found → Type 0
IsFoundReady header h (Asks ask) ready found = IsFoundOf h ready found
IsFoundReady header h (Joins body) ready found = IsFoundWhole header h body found
IsFoundReady header h (Looks question) ready found = Unit {0}
IsFoundReady header h (Derives id) ready found = Unit {0}

abbrev pub IsFound : Header → List Entry → Prepared → Found → Type 0
IsFound header h prepared found = IsFoundReady header h (asked_by prepared) prepared.ready found

-- ---- what is to be found

abbrev pub IsWantedOf : Changeset → Wanted → Type 0
IsWantedOf c wanted.Nothing = length c.parents ≤ 1
IsWantedOf c (wanted.Joined body) = ⊥
IsWantedOf c (wanted.Unresolved commit) = commit.now ≡ c

abbrev pub IsNothing : Wanted → Type 0
IsNothing wanted.Nothing = Unit {0}
IsNothing (wanted.Joined body) = ⊥
IsNothing (wanted.Unresolved commit) = ⊥

abbrev pub IsWantedBy : Ready → Wanted → Type 0
IsWantedBy (ready.Refused refusal) wanted = IsNothing wanted
IsWantedBy (ready.Content id frame) wanted = IsNothing wanted
IsWantedBy (ready.Changeset framed) wanted = IsWantedOf (arc_value framed.commit) wanted
IsWantedBy (ready.Policy read) wanted = IsNothing wanted
IsWantedBy ready.Asked wanted = IsNothing wanted

abbrev pub IsWanted : Prepared → Wanted → Type 0
-- at each history it may be judged without
IsWanted prepared wanted.Nothing = (header : Header) (h : List Entry) → IsFound header h prepared found.Nothing
-- these are the ids of contents, one behind another
IsWanted prepared (wanted.Joined body) = (asked_by prepared ≡ Joins body.now) × (are_bytes body.now ≡ true)
-- what this changeset leaves is enough
IsWanted prepared (wanted.Unresolved commit) = (header : Header) (h : List Entry) (path : Option Path) → IsLeft h commit.now path → IsFound header h prepared (found.Unresolved path)
