-- What an entry that was read of a payload is.
use Rattle.std.proofs.Common.{◌≡◌, ℕ, ◌^◌, ◌<◌, List, length, refl, sym, ap, ◌∙◌, Result, Ok, Err, arith}
use Rattle.std.specs.Prelude.{IfOk}
use Rattle.byte_fields.specs.Bytes.{IsBytes}
use Rattle.history_model.specs.History as model
use Rattle.history_model.specs.Journal.{payload, payload_len, IsContentOf, IsPayload}
use Rattle.history_model.specs.Payload.{payload_body}
use Rattle.repo_events.specs.declared.body.Body.{Body}
use Rattle.repo_events.specs.declared.payload_fault.PayloadFault.{PayloadFault}
use Rattle.repo_events.specs.Decodes.{Decodes}
use Rattle.repo_events.specs.Entries.{body_of, parts_in}
use Rattle.repo_events.proofs.Accepted.{payload_ok}

measured : (b : model.Body) (content : List ℕ) → IsContentOf b content → length (payload b content) ≡ payload_len b
measured (model.Content x n) content is = let same = is.1 in omega arith
measured (model.Whole x n parts) content is = refl
measured (model.Policy caller text) content is = refl
measured (model.Change c) content is = refl
measured (model.Book move) content is = refl
measured (model.Land landing) content is = refl
measured (model.Fault breaking) content is = refl

pub payload_of : (bytes : List ℕ) (r : Result Body PayloadFault) → IsBytes bytes → Decodes r (payload_body bytes) → IfOk r (λ b. IsPayload (body_of b) bytes)
payload_of bytes (Ok b) fits read = (payload_ok bytes (body_of b) fits read).0
payload_of bytes (Err fault) fits read = tt

pub length_of : (bytes : List ℕ) (r : Result Body PayloadFault) → IsBytes bytes → Decodes r (payload_body bytes) → IfOk r (λ b. payload_len (body_of b) ≡ length bytes)
length_of bytes (Ok b) fits read =
    let p = (payload_ok bytes (body_of b) fits read).0 in
    sym (measured (body_of b) p.0 p.1) ∙ sym (ap length p.2)
length_of bytes (Err fault) fits read = tt

pub counted_of : (bytes : List ℕ) (r : Result Body PayloadFault) → IsBytes bytes → Decodes r (payload_body bytes) → IfOk r (λ b. length (model.changesets_in (body_of b)) < 2 ^ 16)
counted_of bytes (Ok b) fits read = (payload_ok bytes (body_of b) fits read).1
counted_of bytes (Err fault) fits read = tt

pub parted_of : (bytes : List ℕ) (r : Result Body PayloadFault) → IsBytes bytes → Decodes r (payload_body bytes) → IfOk r (λ b. length (parts_in (body_of b)) < 2 ^ 16)
parted_of bytes (Ok b) fits read = (payload_ok bytes (body_of b) fits read).2
parted_of bytes (Err fault) fits read = tt
