-- All of the bytes were read.
use Rattle.std.proofs.Common.{◌≡◌, ℕ, ◌≤◌, None, subst, List, length, Result, Ok, Err}
use Rattle.std.specs.Prelude.{IfOk}
use Rattle.byte_fields.specs.Bytes.{IsBytes}
use Rattle.changeset_model.specs.Changeset.{Changeset, Spells, most_encoded, self_conflict}
use Rattle.changeset_model.specs.Decoding.{decoded}
use Rattle.changeset_model.proofs.Accepting.{accepted_exactly}
use Rattle.bonsai.specs.declared.decode_fault.DecodeFault.{DecodeFault}
use Rattle.bonsai.specs.Decodes.{Decodes}

-- what is decoded when bytes are accepted
pub accepts : (bytes : List ℕ) (c : Changeset) (r : Result Changeset DecodeFault) → IsBytes bytes → length bytes ≤ most_encoded → Spells c bytes → self_conflict c ≡ None → Decodes r (decoded bytes) → Decodes r (Ok c)
accepts bytes c r fits short spelled none answer = subst (Decodes r) ((accepted_exactly bytes c fits).1 (short, spelled, none)) answer

pub is_accepted : (bytes : List ℕ) (r : Result Changeset DecodeFault) → IsBytes bytes → Decodes r (decoded bytes) → IfOk r (λ c. (length bytes ≤ most_encoded) × Spells c bytes × (self_conflict c ≡ None))
is_accepted bytes (Ok c) fits answer = (accepted_exactly bytes c fits).0 answer
is_accepted bytes (Err fault) fits answer = tt
