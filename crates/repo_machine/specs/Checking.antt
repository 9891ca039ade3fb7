-- What an upload is checked for.
--     Checks result found      what a check returned is the refusal that is found, or that none is, unless memory ran out
--     parents_refusal ks ps      of these parents, the first that isn't known
--     contents_refusal lengths es      of the contents that are set: the first that isn't stored, or that has another length
--     collision_refusal ks c      that another changeset is known by its id
use Rattle.std.specs.Prelude.{◌≡◌, ◌⊎◌, ℕ, not, if◌then◌else◌, List, find, Option, None, Some, option_map, Result, Ok, Err}
use Rattle.byte_fields.specs.Bytes.{Id, first_some}
use Rattle.changeset_model.specs.Path.{Path}
use Rattle.changeset_model.specs.Changeset.{FileChange, Set, Delete, Changeset, id_of}
use Rattle.history_model.specs.History.{Known, is_known}
use Rattle.reply_model.specs.Reply as reply
use Rattle.reply_model.specs.After.{Refuses}
use Rattle.repo_calls.specs.declared.refusal.Refusal.{Refusal}
use Rattle.repo_calls.specs.declared.refusal.Refusal.TheVariants.{Memory}
use Rattle.repo_calls.specs.Calls.{refused}

abbrev pub IsFound : Refusal → Option reply.Refusal → Type 0
IsFound e found = (e ≡ Memory) ⊎ ((refusal : reply.Refusal) × (found ≡ Some refusal) × (refused e ≡ Refuses refusal))

abbrev pub Checks : Result (Unit {0}) Refusal → Option reply.Refusal → Type 0
Checks (Ok done) found = found ≡ None
Checks (Err e) found = IsFound e found

abbrev pub parents_refusal : List Known → List Id → Option reply.Refusal
parents_refusal ks ps = option_map reply.NoParent (find (λ p. not (is_known ks p)) ps)

abbrev pub edit_refusal : (Id → Option ℕ) → Path × FileChange → Option reply.Refusal
edit_refusal lengths (p, Set f copied) = reply.content_refusal (p, f) (lengths f.content)
edit_refusal lengths (p, Delete) = None

abbrev pub contents_refusal : (Id → Option ℕ) → List (Path × FileChange) → Option reply.Refusal
contents_refusal lengths es = first_some (edit_refusal lengths) es

abbrev pub collision_refusal : List Known → Changeset → Option reply.Refusal
collision_refusal ks c = if reply.collides ks c then Some (reply.Collision (id_of c)) else None
