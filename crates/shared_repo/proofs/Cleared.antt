-- Entries without a seat's number.
use Rattle.std.proofs.Common.{◌≡◌, ℕ, List, [], ◌∷◌, length, refl, sym, ap, ◌∙◌, arith}
use Rattle.std.specs.Prelude.{All}
use Rattle.std.proofs.lemmas.List.Elements.{All-cons}
use Rattle.history_model.specs.History.{Entry, unnumbered}
use Rattle.repo_machine.specs.Seats.{cleared}
use Rattle.repo_state.specs.State.{IsAllSealed}
use Rattle.repo_state.proofs.Stands.{bodies-cleared, is_down-cleared}

pub cleared_zero : (h : List Entry) → All (λ (e : Entry). e.who ≡ 0) (cleared h)
cleared_zero [] = λ k d h. absurd (omega arith)
cleared_zero (e ∷ es) = All-cons (λ (e : Entry). e.who ≡ 0) (unnumbered e.body) (cleared es) refl (cleared_zero es)

pub cleared_sealed : (h : List Entry) (n : ℕ) → IsAllSealed h n → IsAllSealed (cleared h) n
cleared_sealed h n all up =
    let long = ap length (bodies-cleared h) in
    let all_of = all (sym (is_down-cleared h) ∙ up) in
    omega arith
