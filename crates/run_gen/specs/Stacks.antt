-- The stacks that a client of a generated load lands, each of one to three changesets.
--     base, base_id      the changeset that every first stack stands on, and its id;  main      the bookmark that stacks are landed on
--     part_of s, after_part s      what one changeset of a stack does, drawn from this state on, and the state after it
--     content_of p      the content that it sets, or nothing where it deletes
--     changeset_of c j k parent p      the changeset at place k of stack j of client c
--     part_asks c j k parent p      what is asked for it: its content is stored, if it has one, and then it is
--     Stack, stack_of c j parent s      the asks of a whole stack on this parent, the id of its last changeset, and the state after it
--     Load, stacks_of c seed parents      the asks of so many stacks on these parents, one after another
use Rattle.std.specs.Prelude.{ℕ, zero, suc, ◌+◌, ◌==◌, if◌then◌else◌, List, [], ◌∷◌, ◌++◌, length, map, codes, decimal, Option, None, Some, pos}
use Rattle.std.specs.Option.{option_to_list}
use Rattle.sha2.specs.Sha256.{sha256}
use Rattle.byte_fields.specs.Bytes.{Id}
use Rattle.changeset_model.specs.Version.{First}
use Rattle.changeset_model.specs.Path.{Path}
use Rattle.changeset_model.specs.Changeset.{Changeset, FileChange, Set, Delete, Regular, spelling, id_of}
use Rattle.reply_model.specs.Reply.{Ask, PutContent, PutChangeset, LandDraft}
use Rattle.reply_model.specs.Opening.{nobody}
use Rattle.run_gen.specs.Draws.{advanced, drawn}
use Rattle.run_gen.specs.declared.part.Part.{Part}

abbrev pub base : Changeset
base = record { version = First; parents = []; author = codes "a"; seconds = pos 0; offset = pos 0; message = []; changes = [] }

abbrev pub base_id : Id
base_id = id_of base

abbrev pub main : List ℕ
main = codes "main"

-- ---- one changeset

abbrev pub part_of : ℕ → Part
part_of s = record {
  directory = drawn 8 (advanced s);
  file = drawn 32 (advanced (advanced s));
  chance = drawn 8 (advanced (advanced (advanced s)));
  number = drawn 1_000_000 (advanced (advanced (advanced (advanced s))));
}

abbrev pub after_part : ℕ → ℕ
after_part s = advanced (advanced (advanced (advanced s)))

abbrev pub client_name : ℕ → List ℕ
client_name c = codes "client" ++ decimal c

-- no two clients have a directory in common
abbrev pub path_of : ℕ → Part → Path
path_of c p = client_name c ∷ (codes "d" ++ decimal p.directory) ∷ (codes "f" ++ decimal p.file) ∷ []

-- one in eight deletes
abbrev pub content_of : Part → Option (List ℕ)
content_of p = if p.chance == 0 then None else Some (decimal p.number)

abbrev pub change_of : Option (List ℕ) → FileChange
change_of None = Delete
change_of (Some bytes) = Set (record { content = sha256 bytes; kind = Regular; size = length bytes }) None

abbrev pub message_of : ℕ → ℕ → List ℕ
message_of j k = codes "stack " ++ (decimal j ++ (codes " part " ++ decimal k))

-- with what it does at one path
abbrev pub edited : ℕ → ℕ → ℕ → Id → Path × FileChange → Changeset
edited c j k parent edit =
    record { version = First; parents = parent ∷ []; author = client_name c; seconds = pos 0; offset = pos 0; message = message_of j k; changes = edit ∷ [] }

abbrev pub edit_on : ℕ → Part → Path × FileChange
edit_on c p = (path_of c p, change_of (content_of p))

abbrev pub changeset_of : ℕ → ℕ → ℕ → Id → Part → Changeset
changeset_of c j k parent p = edited c j k parent (edit_on c p)

abbrev pub part_asks : ℕ → ℕ → ℕ → Id → Part → List Ask
part_asks c j k parent p = map PutContent (option_to_list (content_of p)) ++ PutChangeset (spelling (changeset_of c j k parent p)) ∷ []

-- ---- a stack

-- what is asked so far, the id of the last changeset so far, and the state of the draws
pub record Stack : Type 0 where
  pub asks : List Ask
  pub last : Id
  pub state : ℕ

abbrev pub with_part : ℕ → ℕ → ℕ → Stack → Stack
with_part c j k stack = record {
  asks = stack.asks ++ part_asks c j k stack.last (part_of stack.state);
  last = id_of (changeset_of c j k stack.last (part_of stack.state));
  state = after_part stack.state;
}

-- the first so many changesets
abbrev pub parts_of : ℕ → ℕ → ℕ → Stack → Stack
parts_of c j zero stack = stack
parts_of c j (suc k) stack = with_part c j k (parts_of c j k stack)

abbrev pub no_parts : Id → ℕ → Stack
no_parts parent s = record { asks = []; last = parent; state = s }

-- its length is drawn first
abbrev pub parts_on : ℕ → ℕ → Id → ℕ → Stack
parts_on c j parent s = parts_of c j (drawn 3 (advanced s) + 1) (no_parts parent (advanced s))

-- at the moment 0, by a caller who isn't told
abbrev pub landed : Stack → Stack
landed stack = record stack { asks = stack.asks ++ LandDraft nobody main stack.last 0 ∷ [] }

abbrev pub stack_of : ℕ → ℕ → Id → ℕ → Stack
stack_of c j parent s = landed (parts_on c j parent s)

-- ---- the stacks of a client

-- what is asked so far, how many stacks that is, and the state of the draws
pub record Load : Type 0 where
  pub asks : List Ask
  pub stacks : ℕ
  pub state : ℕ

abbrev pub with_stack : ℕ → Load → Id → Load
with_stack c load parent =
    record { asks = load.asks ++ (stack_of c load.stacks parent load.state).asks; stacks = load.stacks + 1; state = (stack_of c load.stacks parent load.state).state }

abbrev pub stacks_after : ℕ → Load → List Id → Load
stacks_after c load [] = load
stacks_after c load (parent ∷ parents) = stacks_after c (with_stack c load parent) parents

abbrev pub stacks_of : ℕ → ℕ → List Id → Load
stacks_of c seed parents = stacks_after c (record { asks = []; stacks = 0; state = seed + c }) parents
