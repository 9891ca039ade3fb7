-- The record of a disk: one more turn is one more call.
use Rattle.std.proofs.Common.{◌≡◌, ℕ, ◌+◌, ◌-◌, ◌≤◌, suc, List, [], ◌∷◌, ◌++◌, length, take, drop, refl, ap, ◌∙◌, arith}
use Rattle.std.proofs.lemmas.List.{length-append, length-drop, take-append-le, drop-append-le, take_all}
use Rattle.blob_disk.specs.declared.record.Turn.{Turn}
use Rattle.blob_disk.specs.Log.{Log, bytes_of, call_of, calls_of, bytes_in, noted}

pub length-calls_of : (turns : List Turn) (written : List ℕ) → length (calls_of turns written) ≡ length turns
length-calls_of [] written = refl
length-calls_of (turn ∷ turns) written = ap (λ n. suc n) (length-calls_of turns (drop (bytes_of turn) written))

pub bytes_in-push : (turns : List Turn) (turn : Turn) → bytes_in (turns ++ turn ∷ []) ≡ bytes_in turns + bytes_of turn
bytes_in-push [] turn = omega arith
bytes_in-push (t ∷ turns) turn = let h = bytes_in-push turns turn in omega arith

abbrev log_of : List Turn → List ℕ → ℕ → ℕ → Log
log_of turns written most_turns most_bytes = record { calls = calls_of turns written; turns_left = most_turns - length turns; bytes_left = most_bytes - length written }

abbrev CallsPush : List Turn → List ℕ → Turn → List ℕ → Type 0
CallsPush turns written turn bytes = calls_of (turns ++ turn ∷ []) (written ++ bytes) ≡ calls_of turns written ++ call_of turn bytes ∷ []

first_push : (written : List ℕ) (turn : Turn) (bytes : List ℕ) → 0 ≡ length written → bytes_of turn ≡ length bytes → CallsPush [] written turn bytes
first_push [] turn bytes all len = ap (λ xs. call_of turn xs ∷ []) (ap (λ n. take n bytes) len ∙ take_all (length bytes) bytes (omega arith))
first_push (x ∷ written) turn bytes all len = absurd (omega arith)

next_push : (t : Turn) (turns : List Turn) (written : List ℕ) (turn : Turn) (bytes : List ℕ) → bytes_of t ≤ length written → CallsPush turns (drop (bytes_of t) written) turn bytes → CallsPush (t ∷ turns) written turn bytes
next_push t turns written turn bytes fits rest =
    ap (λ xs. call_of t xs ∷ calls_of (turns ++ turn ∷ []) (drop (bytes_of t) (written ++ bytes))) (take-append-le (bytes_of t) written bytes fits)
    ∙ ap (λ xs. call_of t (take (bytes_of t) written) ∷ calls_of (turns ++ turn ∷ []) xs) (drop-append-le (bytes_of t) written bytes fits)
    ∙ ap (λ xs. call_of t (take (bytes_of t) written) ∷ xs) rest

pub calls_of-push : (turns : List Turn) (written : List ℕ) (turn : Turn) (bytes : List ℕ) → bytes_in turns ≡ length written → bytes_of turn ≡ length bytes → CallsPush turns written turn bytes
calls_of-push [] written turn bytes all len = first_push written turn bytes all len
calls_of-push (t ∷ turns) written turn bytes all len =
    next_push t turns written turn bytes (omega arith) (calls_of-push turns (drop (bytes_of t) written) turn bytes (let rest = length-drop (bytes_of t) written in omega arith) len)

pub noted-push : (turns turns' : List Turn) (written written' : List ℕ) (turn : Turn) (bytes : List ℕ) (most_turns most_bytes : ℕ) → bytes_in turns ≡ length written → bytes_of turn ≡ length bytes → turns' ≡ turns ++ turn ∷ [] → written' ≡ written ++ bytes → log_of turns' written' most_turns most_bytes ≡ noted (call_of turn bytes) (length bytes) (log_of turns written most_turns most_bytes)
noted-push turns turns' written written' turn bytes most_turns most_bytes all len more_turns more_written =
    let len_turns = length-append turns (turn ∷ []) in
    let len_written = length-append written bytes in
    let calls : calls_of turns' written' ≡ calls_of turns written ++ call_of turn bytes ∷ [] = ap (λ xs. calls_of xs written') more_turns ∙ ap (λ xs. calls_of (turns ++ turn ∷ []) xs) more_written ∙ calls_of-push turns written turn bytes all len in
    let left_turns : most_turns - length turns' ≡ most_turns - length turns - 1 = omega (arith, ap (λ xs. length xs) more_turns) in
    let left_bytes : most_bytes - length written' ≡ most_bytes - length written - length bytes = omega (arith, ap (λ xs. length xs) more_written) in
    ap (λ cs. let log : Log = record { calls = cs; turns_left = most_turns - length turns'; bytes_left = most_bytes - length written' } in log) calls
    ∙ ap (λ n. let log : Log = record { calls = calls_of turns written ++ call_of turn bytes ∷ []; turns_left = n; bytes_left = most_bytes - length written' } in log) left_turns
    ∙ ap (λ n. let log : Log = record { calls = calls_of turns written ++ call_of turn bytes ∷ []; turns_left = most_turns - length turns - 1; bytes_left = n } in log) left_bytes
