-- The machine's entries as those of the definitions, if these changesets are the known ones.
--     body_of ks record, entry_of ks entry, history_of ks entries      what they say
--     IsWithin count entry      each changeset that the entry names has a number below this
--     is_kept entry      it isn't a fault, so it is stored;  kept_from n entries      the places of those that are, if the first has this one
use Rattle.std.specs.Prelude.{ℕ, suc, ◌<◌, Bool, true, false, if◌then◌else◌, List, [], ◌∷◌, map}
use Rattle.std.specs.Arc.{arc_value}
use Rattle.std.specs.List.{AllByRecursion}
use Rattle.history_model.specs.History as model
use Rattle.repo_events.specs.Entries.{move_of}
use Rattle.changeset_store.specs.Store.{changeset_at}
use Rattle.repo_machine.specs.declared.records.LandRecord.{LandRecord}
use Rattle.repo_machine.specs.declared.records.Record.{Record}
use Rattle.repo_machine.specs.declared.records.Record.TheVariants.{Content, Whole, Change, Book, Land, Policy, Fault}
use Rattle.repo_machine.specs.declared.records.Entry.{Entry}

abbrev pub landing_of : List model.Known → LandRecord → model.Landing
landing_of ks l = record { name = l.name; old = l.old; draft = l.draft; new = map (changeset_at ks) l.numbers.items; moment = l.moment; caller = l.caller }

abbrev pub body_of : List model.Known → Record → model.Body
body_of ks (Content id length) = model.Content id length
body_of ks (Whole whole) = model.Whole whole.value.id whole.value.length (arc_value whole.value.parts).items
body_of ks (Change number) = model.Change (changeset_at ks number)
body_of ks (Book movement) = model.Book (move_of movement.value)
body_of ks (Land landing) = model.Land (landing_of ks landing.value)
body_of ks (Policy policy) = model.Policy policy.value.caller policy.value.text.items
body_of ks (Fault breaking) = model.Fault breaking

abbrev pub entry_of : List model.Known → Entry → model.Entry
entry_of ks e = record { who = e.who; body = body_of ks e.record }

abbrev pub history_of : List model.Known → List Entry → List model.Entry
history_of ks es = map (entry_of ks) es

abbrev pub RecordWithin : ℕ → Record → Type 0
RecordWithin count (Content id length) = Unit {0}
RecordWithin count (Whole whole) = Unit {0}
RecordWithin count (Change number) = number < count
RecordWithin count (Book movement) = Unit {0}
RecordWithin count (Land landing) = AllByRecursion (λ n. n < count) landing.value.numbers.items
RecordWithin count (Policy policy) = Unit {0}
RecordWithin count (Fault breaking) = Unit {0}

abbrev pub IsWithin : ℕ → Entry → Type 0
IsWithin count e = RecordWithin count e.record

abbrev pub is_record_kept : Record → Bool
is_record_kept (Content id length) = true
is_record_kept (Whole whole) = true
is_record_kept (Change number) = true
is_record_kept (Book movement) = true
is_record_kept (Land landing) = true
is_record_kept (Policy policy) = true
is_record_kept (Fault breaking) = false

abbrev pub is_kept : Entry → Bool
is_kept e = is_record_kept e.record

abbrev pub kept_from : ℕ → List Entry → List ℕ
kept_from n [] = []
kept_from n (e ∷ es) = if is_kept e then n ∷ kept_from (suc n) es else kept_from (suc n) es
