-- The encodings of changesets one after another, as a landing's record has them.
--     encodings cs      each behind its length of 32 bits
use Rattle.std.specs.Prelude.{ℕ, List, map}
use Rattle.std.specs.List.{concat}
use Rattle.std.specs.Int.{w32}
use Rattle.byte_fields.specs.Bytes.{sized}
use Rattle.changeset_model.specs.Changeset.{Changeset, spelling}

abbrev pub encodings : List Changeset → List ℕ
encodings cs = concat (map (λ c. sized w32 (spelling c)) cs)
