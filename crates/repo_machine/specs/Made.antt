-- What a change makes, as an entry of the definitions.
--     made_of made      the entry's body
--     IsReady made      there is memory for the numbers of a landing's changesets, a whole's parts are there twice, and a policy was read
use Rattle.std.specs.Prelude.{◌≡◌, ◌≤◌, [], length, vec_capacity, Option, None, Some, Ok}
use Rattle.std.specs.Arc.{arc_value}
use Rattle.history_model.specs.History as model
use Rattle.policy_model.specs.Grammar.{parse}
use Rattle.repo_events.specs.Entries.{move_of}
use Rattle.changeset_store.specs.Shared.{values}
use Rattle.repo_machine.specs.declared.judged.LandMade.{LandMade}
use Rattle.repo_machine.specs.declared.judged.WholeMade.{WholeMade}
use Rattle.repo_machine.specs.declared.judged.PolicyMade.{PolicyMade}
use Rattle.repo_machine.specs.declared.judged.Made.{Made}
use Rattle.repo_machine.specs.declared.judged.Made.TheVariants.{Content, Whole, Change, Book, Land, Policy}

abbrev pub landing_made : LandMade → model.Landing
landing_made l = record { name = l.kept.value.name; old = l.kept.value.old; draft = l.kept.value.draft; new = values l.new.items; moment = l.kept.value.moment; caller = l.kept.value.caller }

abbrev pub whole_made : WholeMade → model.Body
whole_made w = model.Whole w.kept.value.id w.kept.value.length (arc_value w.kept.value.parts).items

abbrev pub policy_made : PolicyMade → model.Body
policy_made p = model.Policy p.kept.value.caller p.kept.value.text.items

abbrev pub made_of : Made → model.Body
made_of (Content id length) = model.Content id length
made_of (Whole whole) = whole_made whole
made_of (Change commit) = model.Change (arc_value commit)
made_of (Book movement) = model.Book (move_of movement.value)
made_of (Land landing) = model.Land (landing_made landing)
made_of (Policy policy) = policy_made policy

abbrev pub HasNumbers : LandMade → Type 0
HasNumbers l = (l.kept.value.numbers.items ≡ []) × (length l.new.items ≤ vec_capacity l.kept.value.numbers)

abbrev pub IsShared : WholeMade → Type 0
IsShared w = arc_value w.shared ≡ arc_value w.kept.value.parts

-- the rules are those of the text
abbrev pub IsRead : PolicyMade → Type 0
IsRead p = parse p.kept.value.text.items ≡ Ok p.rules

abbrev pub IsMadeReady : Made → Type 0
IsMadeReady (Content id length) = Unit {0}
IsMadeReady (Whole whole) = IsShared whole
IsMadeReady (Change commit) = Unit {0}
IsMadeReady (Book movement) = Unit {0}
IsMadeReady (Land landing) = HasNumbers landing
IsMadeReady (Policy policy) = IsRead policy

abbrev pub IsReady : Option Made → Type 0
IsReady None = Unit {0}
IsReady (Some made) = IsMadeReady made
