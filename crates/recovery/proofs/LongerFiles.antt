-- What stands at a gate of a file that goes on far enough.
use Rattle.std.proofs.Common.{◌≡◌, ◌⊎◌, ℕ, zero, suc, ◌+◌, ◌-◌, ◌<◌, ◌≤◌, ◌^◌, cond, List, [], ◌∷◌, length, take, drop, sym, ap, ◌∙◌, inl, inr, arith}
use Rattle.std.specs.Prelude.{nat_lt, ◌==◌}
use Rattle.std.specs.Int.{w32, from_be_bytes}
use Rattle.std.proofs.lemmas.Bool.{cases_lt, le-ltb}
use Rattle.std.proofs.lemmas.List.{drop-take, length-take, take_all, take-take}
use Rattle.byte_fields.specs.Bytes.{IsBytes}
use Rattle.changeset_model.proofs.Accepting.{IsBytes-drop, IsBytes-take, wide32}
use Rattle.repo_journal.specs.Scanning.{open_step, sized_step, step_of, step_at}
use Rattle.repo_journal.specs.declared.step.Step.TheVariants.{Closed, Record, Bad}

-- a length of four bytes
told_length : (bytes : List ℕ) → IsBytes bytes → 4 ≤ length bytes → from_be_bytes w32 (take 4 bytes) < 2 ^ 32
told_length bytes fits enough =
    let len : length (take 4 bytes) ≡ 4 = (let t = length-take 4 bytes in omega arith) in
    (wide32 (take 4 bytes) len (IsBytes-take 4 bytes fits)).1

sized_same : (gate len left more : ℕ) → len ≤ left → len ≤ more → sized_step gate len left ≡ sized_step gate len more
sized_same gate len left more fits also =
    ap (λ b. cond b (Bad gate) (Record (record { at = gate + 5; length = len }))) (le-ltb left len fits ∙ sym (le-ltb more len also))

open_same : (gate n : ℕ) (bytes : List ℕ) → IsBytes bytes → 4 + 2 ^ 32 ≤ n → n ≤ length bytes → open_step gate (take n bytes) ≡ open_step gate bytes
open_same gate n bytes fits far inside =
    let len : length (take n bytes) ≡ n = (let t = length-take n bytes in omega arith) in
    let told = told_length bytes fits (omega arith) in
    let size = from_be_bytes w32 (take 4 bytes) in
    ap (λ k. cond (nat_lt k 4) (Bad gate) (sized_step gate (from_be_bytes w32 (take 4 (take n bytes))) (k - 4))) len
    ∙ ap (λ b. cond b (Bad gate) (sized_step gate (from_be_bytes w32 (take 4 (take n bytes))) (n - 4))) (le-ltb n 4 (omega arith))
    ∙ ap (λ xs. sized_step gate (from_be_bytes w32 xs) (n - 4)) (take-take 4 n bytes (omega arith))
    ∙ sized_same gate size (n - 4) (length bytes - 4) (omega arith) (omega arith)
    ∙ sym (ap (λ b. cond b (Bad gate) (sized_step gate size (length bytes - 4))) (le-ltb (length bytes) 4 (omega arith)))

far_same : (gate n : ℕ) (bytes : List ℕ) → IsBytes bytes → 5 + 2 ^ 32 ≤ n → n ≤ length bytes → step_of gate (take n bytes) ≡ step_of gate bytes
far_same gate n [] fits far inside = absurd (omega arith)
far_same gate zero (mark ∷ bytes) fits far inside = absurd (omega arith)
far_same gate (suc n) (mark ∷ bytes) fits far inside =
    ap (λ s. cond (mark == 1) s Closed) (open_same gate n bytes (λ i. fits (suc i)) (omega arith) (omega arith))

step_far : (gate n : ℕ) (bytes : List ℕ) → IsBytes bytes → 5 + 2 ^ 32 ≤ n → step_of gate (take n bytes) ≡ step_of gate bytes
step_far gate n bytes fits far = elim (cases_lt n (length bytes)) [
  | inl inside ↦ far_same gate n bytes fits far (omega arith)
  | inr whole ↦ ap (λ xs. step_of gate xs) (take_all n bytes whole)
]

-- the same stands there in the bytes before a place, if they are all or go on far enough
pub step_shown : (file : List ℕ) (n gate : ℕ) → IsBytes file → (length file ≤ n) ⊎ (gate + 5 + 2 ^ 32 ≤ n) → step_at (take n file) gate ≡ step_at file gate
step_shown file n gate fits (inl whole) = ap (λ xs. step_at xs gate) (take_all n file whole)
step_shown file n gate fits (inr far) =
    let m = n - gate in
    let sum : n ≡ gate + m = omega arith in
    ap (λ k. step_of gate (drop gate (take k file))) sum
    ∙ ap (λ xs. step_of gate xs) (drop-take gate m file)
    ∙ step_far gate m (drop gate file) (IsBytes-drop gate file fits) (omega arith)
