-- What a hasher was fed.
--     HasFed hasher bytes      the hasher was fed these bytes
use Rattle.std.specs.Prelude.{ℕ, List}
use Rattle.sha2.specs.Hashers.{Holds256}
use Rattle.object_id.specs.declared.hasher.Hasher.{Hasher}

abbrev pub HasFed : Hasher → List ℕ → Type 0
HasFed hasher bytes = Holds256 hasher.0 bytes
