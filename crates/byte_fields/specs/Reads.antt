-- What a reader of a part returned, seen by view, is what reading gives, unless memory ran out.
use Rattle.std.specs.Prelude.{◌≡◌, ℕ, List, Result, Ok, Err}
use Rattle.byte_fields.specs.declared.field_fault.FieldFault.{FieldFault}
use Rattle.byte_fields.specs.declared.field_fault.FieldFault.TheVariants.{Bad, Memory}

abbrev pub Fails : {A : Type 0} → FieldFault → Result (A × List ℕ) ℕ → Type 0
Fails (Bad left) read = read ≡ Err left
Fails Memory read = Unit {0}

abbrev pub Reads : {X A : Type 0} → (X → A × List ℕ) → Result X FieldFault → Result (A × List ℕ) ℕ → Type 0
Reads view (Ok x) read = read ≡ Ok (view x)
Reads view (Err fault) read = Fails fault read
