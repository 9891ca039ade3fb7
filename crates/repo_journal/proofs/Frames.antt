-- A payload that is framed for the journal.
use Rattle.std.proofs.Common.{◌≡◌, ℕ, ◌+◌, ◌-◌, List, [], ◌∷◌, ◌++◌, length, take, drop, refl, sym, ap, ◌∙◌, arith, append_assoc}
use Rattle.std.proofs.lemmas.List.{length-append}
use Rattle.std.proofs.Math.Seq.{take-append_seam}
use Rattle.std.specs.Int.{w32, to_be_bytes}
use Rattle.history_model.specs.Journal.{framed}
use Rattle.repo_journal.specs.Sealing.{IsFramed, payload_in}

four : (n : ℕ) → length (to_be_bytes w32 n) ≡ 4
four n = refl

pub length-framed : (payload : List ℕ) → length (framed payload) ≡ length payload + 5
length-framed payload =
    let whole = length-append (to_be_bytes w32 (length payload) ++ payload) (0 ∷ []) in
    let front = length-append (to_be_bytes w32 (length payload)) payload in
    let width = four (length payload) in
    omega arith

pub payload_in-framed : (payload : List ℕ) → payload_in (framed payload) ≡ payload
payload_in-framed payload =
    let len = length-framed payload in
    ap (λ n. take n (drop 4 (framed payload))) (let same : length (framed payload) - 5 ≡ length payload = omega arith in same)
    ∙ ap (λ xs. take (length payload) (drop 4 xs)) (append_assoc (to_be_bytes w32 (length payload)) payload (0 ∷ []))
    ∙ take-append_seam payload (0 ∷ [])

pub framed_again : (frame : List ℕ) → IsFramed frame → frame ≡ framed (payload_in frame)
framed_again frame is = is.1 ∙ sym (ap (λ p. framed p) (ap (λ f. payload_in f) is.1 ∙ payload_in-framed is.0))
