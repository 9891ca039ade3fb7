-- What the log tells of the machine's entries.
--     record_line ks record      where these changesets are the known ones. A fault has no line
--     entry_at es n, line_at ks es n      the entry at a place, and what is told of it
--     KeptWithin count record, IsKeptAt count es n      it is stored, and each changeset that it names has a number below this
use Rattle.std.specs.Prelude.{ℕ, ◌<◌, ◌==◌, false, List, [], map, length, count_by, get_or}
use Rattle.std.specs.Arc.{arc_value}
use Rattle.std.specs.List.{AllByRecursion}
use Rattle.changeset_model.specs.Changeset.{id_of}
use Rattle.history_model.specs.History.{Known}
use Rattle.reply_model.specs.Log.{LogLine, ContentLine, WholeLine, ChangesetLine, BookmarkLine, LandingLine, PolicyLine}
use Rattle.repo_events.specs.Entries.{move_of}
use Rattle.changeset_store.specs.Store.{changeset_at}
use Rattle.repo_machine.specs.declared.records.Record.{Record}
use Rattle.repo_machine.specs.declared.records.Record.TheVariants.{Content, Whole, Change, Book, Land, Policy, Fault}
use Rattle.repo_machine.specs.declared.records.Entry.{Entry}

abbrev pub record_line : List Known → Record → LogLine
record_line ks (Content id length) = ContentLine id length
record_line ks (Whole whole) = WholeLine whole.value.id whole.value.length (arc_value whole.value.parts).items
record_line ks (Change number) = ChangesetLine (id_of (changeset_at ks number))
record_line ks (Book movement) = BookmarkLine (move_of movement.value)
record_line ks (Land landing) = LandingLine landing.value.caller landing.value.name landing.value.old landing.value.draft landing.value.moment (map id_of (map (changeset_at ks) landing.value.numbers.items))
record_line ks (Policy policy) = PolicyLine policy.value.caller (count_by (λ b. b == 0x0A) policy.value.text.items)
-- none is asked for
record_line ks (Fault breaking) = ContentLine [] 0

abbrev pub entry_at : List Entry → ℕ → Entry
entry_at es n = get_or es n (record { who = 0; «record» = Fault false })

abbrev pub line_at : List Known → List Entry → ℕ → LogLine
line_at ks es n = record_line ks (entry_at es n).record

abbrev pub KeptWithin : ℕ → Record → Type 0
KeptWithin count (Content id length) = Unit {0}
KeptWithin count (Whole whole) = Unit {0}
KeptWithin count (Change number) = number < count
KeptWithin count (Book movement) = Unit {0}
KeptWithin count (Land landing) = AllByRecursion (λ n. n < count) landing.value.numbers.items
KeptWithin count (Policy policy) = Unit {0}
KeptWithin count (Fault breaking) = ⊥

abbrev pub IsKeptAt : ℕ → List Entry → ℕ → Type 0
IsKeptAt count es n = (n < length es) × KeptWithin count (entry_at es n).record
