-- The bytes of a name.
--     text_bytes t      in place, or in a list;  IsText t      as many as are told fit into their place
use Rattle.std.specs.Prelude.{ℕ, ◌≤◌, List, take}
use Rattle.node_fields.specs.declared.name.Text.{Text}
use Rattle.node_fields.specs.declared.name.Text.TheVariants.{Short, Long}

abbrev pub text_bytes : Text → List ℕ
text_bytes (Short bytes len) = take len bytes
text_bytes (Long bytes) = bytes.items

abbrev pub IsText : Text → Type 0
IsText (Short bytes len) = len ≤ 22
IsText (Long bytes) = Unit {0}
