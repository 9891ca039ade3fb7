-- What follows of an answer that is what reading gives.
use Rattle.std.proofs.Common.{◌≡◌, ℕ, Bool, true, List, Result, Ok, Err}
use Rattle.std.specs.Prelude.{IfOk}
use Rattle.node_fields.specs.declared.fault.NodeFault.{NodeFault}
use Rattle.node_fields.specs.Answers.{DecodesTo}

-- bytes that are read as a value spell it, so what was decoded is spelled so
pub is_spelled : {X A : Type 0} (view : X → A) (spell : A → List ℕ) (good : A → Bool) (bytes : List ℕ) (read : Result A ℕ) (answer : Result X NodeFault) → ((n : A) → read ≡ Ok n → (good n ≡ true) × (bytes ≡ spell n)) → DecodesTo view answer read → IfOk answer (λ x. bytes ≡ spell (view x))
is_spelled view spell good bytes read (Ok x) law d = (law (view x) d).1
is_spelled view spell good bytes read (Err e) law d = tt
