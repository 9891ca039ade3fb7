-- Blocks that are read of one disk, and written at the end of another.
use Rattle.std.proofs.Common.{◌≡◌, ℕ, ◌+◌, ◌-◌, ◌≤◌, Bool, false, List, ◌++◌, length, take, drop, refl, sym, ap, ◌∙◌, arith, append_assoc}
use Rattle.std.specs.Prelude.{IsTrue, Result, Ok, Err, OnOk, is_err, is_ok, true}
use Rattle.std.specs.Option.{ForSome}
use Rattle.std.proofs.lemmas.List.{length-append, length-take-le, length-drop, drop-drop}
use Rattle.std.proofs.Math.Seq.{take-add}
use Rattle.disk_model.specs.Meaning.{Meaning, IsSound}
use Rattle.repo_journal.proofs.Walks.{Walked}

-- what holds of an answer that is none of a fault
pub told : {T E P : Type 0} (r : Result T E) (t : Bool) → t ≡ is_err r → t ≡ false → OnOk r P → P
told (Ok x) t is fine p = p
told (Err e) t is fine p = absurd (let both : true ≡ false = sym is ∙ fine in cc)

pub is_done : {T E : Type 0} (r : Result T E) (t : Bool) → t ≡ is_err r → t ≡ false → is_ok r ≡ true
is_done (Ok x) t is fine = refl
is_done (Err e) t is fine = absurd (let both : true ≡ false = sym is ∙ fine in cc)

-- a block that was read, of a disk that was only read since
pub block_read : (m now : Meaning) (size at count : ℕ) (old new : List ℕ) → Walked m now → IsSound now → IsTrue m.honest → length old ≡ count → at + count ≤ size
    → (at + length old ≤ size → ForSome now.reads (λ file. new ≡ take (length old) (drop at file)))
    → new ≡ take count (drop at m.state.reads)
block_read m now size at count old new walked sound honest len inside bytes =
    bytes (omega arith) now.state.reads (sound.reads (walked.kept.honest ∙ honest))
    ∙ ap (λ n. take n (drop at now.state.reads)) len
    ∙ ap (λ d. take count (drop at d.reads)) (walked.looked honest)

-- so far the header and the records up to a place
pub reached : (at : ℕ) (head file before : List ℕ) → before ≡ head ++ take (at - 16) (drop 16 file) → length head ≡ 16 → 16 ≤ at → at ≤ length file → at ≡ length before
reached at head file before is len least inside =
    let parts = ap (λ xs. length xs) is ∙ length-append head (take (at - 16) (drop 16 file)) in
    let rest = length-drop 16 file in
    let block = length-take-le (at - 16) (drop 16 file) (omega arith) in
    omega arith

pub one_more : (at count : ℕ) (head file before bytes : List ℕ) → before ≡ head ++ take (at - 16) (drop 16 file) → bytes ≡ take count (drop at file) → 16 ≤ at → before ++ bytes ≡ head ++ take (at + count - 16) (drop 16 file)
one_more at count head file before bytes is read least =
    let place : 16 + (at - 16) ≡ at = omega arith in
    let both : at - 16 + count ≡ at + count - 16 = omega arith in
    ap (λ xs. xs ++ bytes) is
    ∙ append_assoc head (take (at - 16) (drop 16 file)) bytes
    ∙ ap (λ xs. head ++ xs) (
    ap (λ xs. take (at - 16) (drop 16 file) ++ xs) (read ∙ ap (λ k. take count (drop k file)) (sym place) ∙ ap (take count) (sym (drop-drop (at - 16) 16 file)))
    ∙ sym (take-add (at - 16) count (drop 16 file))
    ∙ ap (λ k. take k (drop 16 file)) both)
