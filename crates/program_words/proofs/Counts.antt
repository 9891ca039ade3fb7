-- Commands by how many words they have.
use Rattle.std.proofs.Common.{◌≡◌, ◌≢◌, ℕ, List, [], ◌∷◌, length, get_or, map, Some, None, refl, arith, Bor}
use Rattle.program_words.specs.Words.{Text, gen_of, number_between, serve, serve_of}

pub not_three : (xs : List (Bor Text)) → length xs ≢ 3 → gen_of (map (λ w. w.now) xs) ≡ None
not_three [] n = refl
not_three (a ∷ []) n = refl
not_three (a ∷ b ∷ []) n = refl
not_three (a ∷ b ∷ c ∷ []) n = absurd (n refl)
not_three (a ∷ b ∷ c ∷ d ∷ more) n = refl

pub not_five : (xs : List (Bor Text)) → length xs ≢ 5 → serve_of (map (λ w. w.now) xs) ≡ None
not_five [] n = refl
not_five (a ∷ []) n = refl
not_five (a ∷ b ∷ []) n = refl
not_five (a ∷ b ∷ c ∷ []) n = refl
not_five (a ∷ b ∷ c ∷ d ∷ []) n = refl
not_five (a ∷ b ∷ c ∷ d ∷ e ∷ []) n = absurd (n refl)
not_five (a ∷ b ∷ c ∷ d ∷ e ∷ f ∷ more) n = refl

pub is_served : (xs : List (Bor Text)) (z : Bor Text) (lanes derivers connections : ℕ) → length xs ≡ 5 → number_between 1 4096 (get_or xs 2 z).now ≡ Some lanes
    → number_between 0 8 (get_or xs 3 z).now ≡ Some derivers → number_between 1 1000000000000000 (get_or xs 4 z).now ≡ Some connections
    → serve_of (map (λ w. w.now) xs) ≡ Some (serve (get_or xs 0 z).now (get_or xs 1 z).now lanes derivers connections)
is_served [] z l d n count lanes derivers connections = absurd (omega arith)
is_served (a ∷ []) z l d n count lanes derivers connections = absurd (omega arith)
is_served (a ∷ b ∷ []) z l d n count lanes derivers connections = absurd (omega arith)
is_served (a ∷ b ∷ c ∷ []) z l d n count lanes derivers connections = absurd (omega arith)
is_served (a ∷ b ∷ c ∷ e ∷ []) z l d n count lanes derivers connections = absurd (omega arith)
is_served (a ∷ b ∷ c ∷ e ∷ f ∷ []) z l d n count lanes derivers connections = rw (lanes, derivers, connections) refl
is_served (a ∷ b ∷ c ∷ e ∷ f ∷ g ∷ more) z l d n count lanes derivers connections = absurd (omega arith)
