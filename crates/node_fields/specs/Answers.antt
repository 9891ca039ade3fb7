-- What reading a node answers.
--     DecodesTo view answer read      a node, seen by view, is what reading gives, unless memory runs out
use Rattle.std.specs.Prelude.{◌≡◌, ℕ, Result, Ok, Err}
use Rattle.node_fields.specs.declared.fault.NodeFault.{NodeFault}
use Rattle.node_fields.specs.declared.fault.NodeFault.TheVariants as node

abbrev pub FailsAt : {A : Type 0} → NodeFault → Result A ℕ → Type 0
FailsAt (node.BadNode at) read = read ≡ Err at
FailsAt node.Memory read = Unit {0}

abbrev pub DecodesTo : {X A : Type 0} → (X → A) → Result X NodeFault → Result A ℕ → Type 0
DecodesTo view (Ok x) read = read ≡ Ok (view x)
DecodesTo view (Err fault) read = FailsAt fault read
