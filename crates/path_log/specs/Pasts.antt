-- What is logged at a path, by the past of a changeset.
--     last_past past p      the past of the last changeset of the line of first parents that is logged at p. Begin where none is
--     id_in past      the id of the changeset whose past it is
--     log_from past p      that changeset, and what is logged at p on the line of its first parent
--     TellsPasts asked parent at      of the numbers that may be asked of, each stands for a changeset with its past, whose first parent is the one that parent tells of
use Rattle.std.specs.Prelude.{◌≡◌, ℕ, Bool, IsTrue, if◌then◌else◌, List, [], ◌∷◌, Option, None, Some}
use Rattle.std.specs.Option.{option_map_or}
use Rattle.byte_fields.specs.Bytes.{Id}
use Rattle.changeset_model.specs.Path.{Path}
use Rattle.history_model.specs.History.{Known}
use Rattle.history_model.specs.Past.{Past, Begin, At}
use Rattle.manifest_model.specs.Deleted.{is_logged, path_log}

abbrev pub last_past : Past → Path → Past
last_past Begin p = Begin
last_past (At c first second) p = if is_logged (At c first second) p then At c first second else last_past first p

abbrev pub id_in : Past → Option Id
id_in Begin = None
id_in (At c first second) = Some c.id

abbrev pub log_from : Past → Path → List Id
log_from Begin p = []
log_from (At c first second) p = c.id ∷ path_log first p

abbrev pub TellsPasts : (ℕ → Bool) → (ℕ → Option ℕ) → (ℕ → Past) → Type 0
TellsPasts asked parent at = (n : ℕ) → IsTrue (asked n) → (c : Known) × (second : Past) × (at n ≡ At c (option_map_or at (parent n) Begin) second)
