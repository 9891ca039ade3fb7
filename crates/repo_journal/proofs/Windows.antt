-- What a scanner holds of a file.
use Rattle.std.proofs.Common.{◌≡◌, ◌⊎◌, ℕ, zero, suc, ◌+◌, ◌-◌, ◌<◌, ◌≤◌, min, cond, List, [], ◌∷◌, ◌++◌, length, take, drop, refl, sym, ap, ◌∙◌, inl, inr, arith}
use Rattle.std.specs.Prelude.{Result, Ok, Err, OnOk, OnErr, IsTrue, nat_lt, ◌==◌}
use Rattle.std.specs.Option.{ForSome}
use Rattle.std.specs.Int.{w32, from_be_bytes}
use Rattle.std.proofs.lemmas.Bool.{cases_lt, lt-ltb}
use Rattle.std.proofs.lemmas.List.{drop-drop, drop-take, length-drop, length-take, take-take}
use Rattle.std.proofs.Math.Seq.{take-add}
use Rattle.disk_model.specs.Meaning.{Meaning, IsSound}
use Rattle.repo_journal.specs.Scanning.{HasLetGo, IsNext, gate_after, open_step, sized_step, head_step, step_of, step_at}
use Rattle.repo_journal.specs.declared.step.Step.{Step}
use Rattle.repo_journal.specs.declared.step.Step.TheVariants.{Closed, Record, Bad}

-- these bytes are those of the file from this place on
abbrev pub AreAt : List ℕ → ℕ → List ℕ → Type 0
AreAt bytes from file = bytes ≡ take (length bytes) (drop from file)

-- some of them
pub part_at : (bytes : List ℕ) (from at n : ℕ) (file : List ℕ) → AreAt bytes from file → from ≤ at → at + n ≤ from + length bytes → take n (drop (at - from) bytes) ≡ take n (drop at file)
part_at bytes from at n file are after ends =
    let k = at - from in
    let m = length bytes - k in
    let whole : length bytes ≡ k + m = omega arith in
    let place : from + k ≡ at = omega arith in
    let shown : drop k bytes ≡ take m (drop at file) =
    ap (λ xs. drop k xs) (are ∙ ap (λ len. take len (drop from file)) whole) ∙ drop-take k m (drop from file) ∙ ap (λ xs. take m xs) (drop-drop k from file ∙ ap (λ i. drop i file) place) in
    ap (λ xs. take n xs) shown ∙ take-take n m (drop at file) (omega arith)

-- those that are left once the ones before a place were let go
pub left_at : (old new : List ℕ) (from at : ℕ) (file : List ℕ) → AreAt old from file → HasLetGo from at old new → AreAt new at file
left_at old new from at file are (inl none) = none ∙ sym (ap (λ xs. take (length xs) (drop at file)) none)
left_at old new from at file are (inr some) =
    let k = at - from in
    let m = length old - k in
    let len : length new ≡ m = ap (λ xs. length xs) some.1 ∙ length-drop k old in
    elim (cases_lt (length old) k) [
      | inl past ↦ (let none : length new ≡ 0 = omega arith in empty_at new none)
      | inr inside ↦ (
          let whole : length old ≡ k + m = omega arith in
          let place : from + k ≡ at = (let h = some.0 in omega arith) in
          some.1
          ∙ ap (λ xs. drop k xs) (are ∙ ap (λ n. take n (drop from file)) whole)
          ∙ drop-take k m (drop from file)
          ∙ ap (λ xs. take m xs) (drop-drop k from file ∙ ap (λ i. drop i file) place)
          ∙ ap (λ n. take n (drop at file)) (sym len)
          )
    ]
  where
    empty_at : (xs : List ℕ) → length xs ≡ 0 → AreAt xs at file
    empty_at [] none = refl
    empty_at (x ∷ xs) none = absurd (omega arith)

-- more of them
pub more_at : (bytes new : List ℕ) (at count : ℕ) (file : List ℕ) → AreAt bytes at file → new ≡ bytes ++ take count (drop (at + length bytes) file) → length new ≡ length bytes + count → AreAt new at file
more_at bytes new at count file are more len =
    more
    ∙ ap (λ xs. xs ++ take count (drop (at + length bytes) file)) are
    ∙ ap (λ xs. take (length bytes) (drop at file) ++ take count xs) (sym (drop-drop (length bytes) at file))
    ∙ sym (take-add (length bytes) count (drop at file))
    ∙ ap (λ n. take n (drop at file)) (sym len)

-- what is held once a disk was read on
pub read_at : {E : Type 0} (m : Meaning) → IsSound m → IsTrue m.honest → (result : Result (Unit {0}) E) (bytes new : List ℕ) (at have count : ℕ) → have ≡ length bytes → AreAt bytes at m.state.reads
    → OnOk result (length new ≡ length bytes + count) → OnOk result (ForSome m.reads (λ file. new ≡ bytes ++ take count (drop (at + have) file))) → OnErr result (new ≡ bytes) → AreAt new at m.state.reads
read_at m sound honest (Ok x) bytes new at have count whole are len more same =
    more_at bytes new at count m.state.reads are (more m.state.reads (sound.reads honest) ∙ ap (λ n. bytes ++ take count (drop (at + n) m.state.reads)) whole) len
read_at m sound honest (Err e) bytes new at have count whole are len more same = same ∙ are ∙ ap (λ xs. take (length xs) (drop at m.state.reads)) (sym same)

-- ---- a gate by its first five bytes

four_of : (n : ℕ) (rest : List ℕ) → 4 ≤ n → take 4 (take n rest) ≡ take 4 rest
four_of n rest enough = take-take 4 n rest enough

opened_by_head : (gate n : ℕ) (rest : List ℕ) → (length rest < 4) ⊎ (4 ≤ n) → cond (nat_lt (length rest) 4) (Bad gate) (sized_step gate (from_be_bytes w32 (take 4 (take n rest))) (length rest - 4)) ≡ open_step gate rest
opened_by_head gate n rest (inr enough) = ap (λ xs. cond (nat_lt (length rest) 4) (Bad gate) (sized_step gate (from_be_bytes w32 xs) (length rest - 4))) (four_of n rest enough)
opened_by_head gate n rest (inl few) =
    ap (λ b. cond b (Bad gate) (sized_step gate (from_be_bytes w32 (take 4 (take n rest))) (length rest - 4))) (lt-ltb (length rest) 4 few)
    ∙ sym (ap (λ b. cond b (Bad gate) (sized_step gate (from_be_bytes w32 (take 4 rest)) (length rest - 4))) (lt-ltb (length rest) 4 few))

by_head : (gate n : ℕ) (bytes : List ℕ) → 0 < length bytes → 0 < n → (length bytes < 5) ⊎ (5 ≤ n) → head_step gate (take n bytes) (length bytes - 1) ≡ step_of gate bytes
by_head gate n [] some more enough = absurd (omega arith)
by_head gate zero (mark ∷ rest) some more enough = absurd (omega arith)
by_head gate (suc n) (mark ∷ rest) some more enough =
    let parts : (length rest < 4) ⊎ (4 ≤ n) = elim enough [ inl few ↦ inl (omega arith) | inr whole ↦ inr (omega arith) ] in
    let behind : suc (length rest) - 1 ≡ length rest = omega arith in
    ap (λ k. head_step gate (mark ∷ take n rest) k) behind
    ∙ ap (λ s. cond (mark == 1) s Closed) (opened_by_head gate n rest parts)

-- a gate within a file
pub gate_by_head : (file head : List ℕ) (gate size few : ℕ) → size ≤ length file → gate < size → few ≡ min (size - gate - 1) 4 → head ≡ take (few + 1) (drop gate file) → head_step gate head (size - gate - 1) ≡ step_at (take size file) gate
gate_by_head file head gate size few long inside is_few is =
    let left = size - gate in
    let n = few + 1 in
    let whole : size ≡ gate + left = omega arith in
    let fits : n ≤ left = omega arith in
    let bytes = drop gate (take size file) in
    let shown : bytes ≡ take left (drop gate file) = ap (λ k. drop gate (take k file)) whole ∙ drop-take gate left file in
    let len : length bytes ≡ left = (let t = length-take size file in let d = length-drop gate (take size file) in omega arith) in
    let first : head ≡ take n bytes = is ∙ sym (take-take n left (drop gate file) fits) ∙ sym (ap (λ xs. take n xs) shown) in
    let parts : (length bytes < 5) ⊎ (5 ≤ n) = elim (cases_lt left 5) [ inl less ↦ inl (omega arith) | inr more ↦ inr (omega arith) ] in
    ap (λ h. head_step gate h (size - gate - 1)) first
    ∙ ap (λ k. head_step gate (take n bytes) k) (let same : size - gate - 1 ≡ length bytes - 1 = omega arith in same)
    ∙ by_head gate n bytes (omega arith) (omega arith) parts

-- the next gate isn't before this one, nor behind the end
pub after_inside : (gate size : ℕ) (step : Step) → gate < size → IsNext gate size step → (gate ≤ gate_after gate step) × (gate_after gate step ≤ size)
after_inside gate size Closed inside next = (omega arith, omega arith)
after_inside gate size (Record span) inside next = (let at = next.0 in omega arith, next.1)
after_inside gate size (Bad at) inside next = (omega arith, omega arith)
