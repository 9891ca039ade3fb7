-- The entries of the code as those of the definitions.
--     move_of, landing_of, body_of      what they say, without where they lie in memory
--     parts_in body      the contents that a whole is made of
--     caller_bytes caller      what a payload has of a caller who is told, before the rest
--     landing_head caller name old draft moment count      what a landing's payload has before its changesets
--     commits_length cs      the bytes of the spellings, each behind its length
--     moment_field dated      reads the moment that a landing has or hasn't
use Rattle.std.specs.Prelude.{ℕ, Bool, true, false, ◌+◌, List, [], ◌∷◌, ◌++◌, length, sum_by, Option, None, Some}
use Rattle.std.specs.Int.{w8, w16, to_be_bytes}
use Rattle.byte_fields.specs.Bytes.{Id, sized}
use Rattle.byte_fields.specs.Reading.{Reader}
use Rattle.changeset_model.specs.Changeset.{Changeset, spelling}
use Rattle.history_model.specs.History as model
use Rattle.history_model.specs.Journal.{landing_mark, moment_bytes}
use Rattle.history_model.specs.Payload.{no_moment, a_moment}
use Rattle.repo_events.specs.declared.body.Body.{Body}
use Rattle.repo_events.specs.declared.body.Body.TheVariants.{Content, Whole, Change, Book, Land, Policy}
use Rattle.repo_events.specs.declared.body.Move.{Move}
use Rattle.repo_events.specs.declared.body.Landing.{Landing}

abbrev pub move_of : Move → model.Move
move_of m = record { name = m.name; from = m.from; to = m.to; caller = m.caller }

abbrev pub landing_of : Landing → model.Landing
landing_of l = record { name = l.name; old = l.old; draft = l.draft; new = l.new.items; moment = l.moment; caller = l.caller }

abbrev pub body_of : Body → model.Body
body_of (Content id length) = model.Content id length
body_of (Whole id length parts) = model.Whole id length parts.items
body_of (Change commit) = model.Change commit
body_of (Book movement) = model.Book (move_of movement)
body_of (Land landing) = model.Land (landing_of landing)
body_of (Policy caller text) = model.Policy caller text.items

abbrev pub parts_in : model.Body → List Id
parts_in (model.Content x n) = []
parts_in (model.Whole x n parts) = parts
parts_in (model.Change c) = []
parts_in (model.Book move) = []
parts_in (model.Land landing) = []
parts_in (model.Policy caller text) = []
parts_in (model.Fault breaking) = []

abbrev pub caller_bytes : Option (List ℕ) → List ℕ
caller_bytes None = []
caller_bytes (Some caller) = 0x41 ∷ sized w8 caller

abbrev pub landing_head : Option (List ℕ) → List ℕ → Id → Id → Option ℕ → ℕ → List ℕ
landing_head caller name old draft moment count = caller_bytes caller ++ (landing_mark moment ∷ sized w8 name ++ old ++ draft ++ moment_bytes moment ++ to_be_bytes w16 count)

abbrev pub commits_length : List Changeset → ℕ
commits_length cs = sum_by (λ c. 4 + length (spelling c)) cs

abbrev pub moment_field : Bool → Reader (Option ℕ)
moment_field true = a_moment
moment_field false = no_moment
