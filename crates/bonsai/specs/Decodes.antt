-- What decoding returned is what the definitions read, unless memory ran out.
use Rattle.std.specs.Prelude.{◌≡◌, ℕ, Result, Ok, Err}
use Rattle.changeset_model.specs.Changeset.{Changeset}
use Rattle.changeset_model.specs.Decoding as decoding
use Rattle.bonsai.specs.declared.fields.Fields.{Fields}
use Rattle.bonsai.specs.View.{fields_view}
use Rattle.bonsai.specs.declared.decode_fault.DecodeFault.{DecodeFault}
use Rattle.bonsai.specs.declared.decode_fault.DecodeFault.TheVariants.{TooLong, BadEncoding, SelfConflict, Memory}

abbrev pub Refuses : DecodeFault → Result Changeset decoding.DecodeFault → Type 0
Refuses (TooLong length) answer = answer ≡ Err (decoding.TooLong length)
Refuses (BadEncoding at) answer = answer ≡ Err (decoding.BadEncoding at)
Refuses (SelfConflict short long) answer = answer ≡ Err (decoding.SelfConflict short long)
Refuses Memory answer = Unit {0}

abbrev pub Decodes : Result Changeset DecodeFault → Result Changeset decoding.DecodeFault → Type 0
Decodes (Ok c) answer = answer ≡ Ok c
Decodes (Err fault) answer = Refuses fault answer

-- a place as the fault that it is
abbrev pub placed : Result Changeset ℕ → Result Changeset decoding.DecodeFault
placed (Ok c) = Ok c
placed (Err at) = Err (decoding.BadEncoding at)

-- the same of fields, before a conflict is sought
abbrev pub DecodesFields : Result Fields DecodeFault → Result Changeset ℕ → Type 0
DecodesFields (Ok f) answer = answer ≡ Ok (fields_view f)
DecodesFields (Err fault) answer = Refuses fault (placed answer)
