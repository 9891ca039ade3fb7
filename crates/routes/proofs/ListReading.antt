-- A list of changesets, read one after another.
use Rattle.std.proofs.Common.{◌≡◌, ◌<◌, ◌+◌, ◌-◌, ◌++◌, ◌∷◌, ◌==◌, [], ℕ, suc, List, length, Bool, true, false, cond, refl, sym, ap, ◌∙◌, arith, append_assoc}
use Rattle.std.specs.Prelude.{Result, Ok, Err}
use Rattle.std.proofs.lemmas.Bool.{eqb-true}
use Rattle.byte_fields.specs.Reading.{and_then}
use Rattle.byte_fields.proofs.Run.{with_front}
use Rattle.session_model.specs.Stacks.{one_listed, and_last, listed}

abbrev Read : Type 0
Read = Result (List (List ℕ) × List ℕ) ℕ

less_one : (n k : ℕ) → k < n → n - k ≡ suc (n - (k + 1))
less_one n k h = omega arith

-- what is read behind a changeset: nothing, where no bytes are left
behind : ℕ → List ℕ → List ℕ → Read
behind m x after = cond (length after == 0) (Ok (x ∷ [], after)) (and_last x (listed m after))

one_first : (n k : ℕ) (bytes : List ℕ) → k < n → listed (n - k) bytes ≡ and_then (one_listed bytes) (behind (n - (k + 1)))
unfolding listed behind
one_first n k bytes less = ap (λ m. listed m bytes) (less_one n k less)

front_more : (front : List (List ℕ)) (x : List ℕ) (read : Read) → with_front front (and_last x read) ≡ with_front (front ++ x ∷ []) read
front_more front x (Ok y) = ap (λ (xs : List (List ℕ)). Ok (xs, y.1)) (sym (append_assoc front (x ∷ []) y.0))
front_more front x (Err left) = refl

module _ (front : List (List ℕ)) (n k : ℕ) (bytes : List ℕ) (less : k < n) where
  read_first : (x after : List ℕ) → one_listed bytes ≡ Ok (x, after) → with_front front (listed (n - k) bytes) ≡ with_front front (behind (n - (k + 1)) x after)
  read_first x after read = ap (with_front front) (one_first n k bytes less ∙ ap (λ one. and_then one (behind (n - (k + 1)))) read)

  pub goes_on : (x after : List ℕ) → one_listed bytes ≡ Ok (x, after) → (length after == 0) ≡ false
      → with_front front (listed (n - k) bytes) ≡ with_front (front ++ x ∷ []) (listed (n - (k + 1)) after)
  unfolding behind
  goes_on x after read some =
      read_first x after read
      ∙ ap (λ b. with_front front (cond b (Ok (x ∷ [], after)) (and_last x (listed (n - (k + 1)) after)))) some
      ∙ front_more front x (listed (n - (k + 1)) after)

  pub ends : (x after : List ℕ) → one_listed bytes ≡ Ok (x, after) → (length after == 0) ≡ true → with_front front (listed (n - k) bytes) ≡ Ok (front ++ x ∷ [], [])
  unfolding behind
  ends x after read none =
      read_first x after read
      ∙ ap (λ b. with_front front (cond b (Ok (x ∷ [], after)) (and_last x (listed (n - (k + 1)) after)))) none
      ∙ ap (λ (rest : List ℕ). Ok (front ++ x ∷ [], rest)) (empty after (eqb-true (length after) 0 none))
    where
      empty : (rest : List ℕ) → length rest ≡ 0 → rest ≡ []
      empty [] e = refl
      empty (b ∷ rest) e = absurd (cc)

  pub breaks : (left : ℕ) → one_listed bytes ≡ Err left → with_front front (listed (n - k) bytes) ≡ Err left
  breaks left read = ap (with_front front) (one_first n k bytes less ∙ ap (λ one. and_then one (behind (n - (k + 1)))) read)

-- one too many
pub too_many : (front : List (List ℕ)) (m : ℕ) (bytes : List ℕ) → m ≡ 0 → with_front front (listed m bytes) ≡ Err (length bytes)
unfolding listed
too_many front m bytes e = ap (λ m. with_front front (listed m bytes)) e
