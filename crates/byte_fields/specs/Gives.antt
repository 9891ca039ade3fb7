-- What a reader of one field returned, seen by view, is what reading gives.
use Rattle.std.specs.Prelude.{◌≡◌, ℕ, List, Result, Ok, Err}
use Rattle.byte_fields.specs.declared.bad_field.BadField.{BadField}

abbrev pub Gives : {X A : Type 0} → (X → A × List ℕ) → Result X BadField → Result (A × List ℕ) ℕ → Type 0
Gives view (Ok x) read = read ≡ Ok (view x)
Gives view (Err fault) read = read ≡ Err fault.left
