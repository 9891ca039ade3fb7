-- Which entry breaks a history.
use Rattle.std.proofs.Common.{◌≡◌, ℕ, true, false, List, [], ◌∷◌, ◌++◌, refl, sym, ap, ◌∙◌}
use Rattle.std.specs.Prelude.{◌||◌}
use mathlib.Core.Bool.{true≢false}
use Rattle.std.proofs.lemmas.List.Folds.{list_any-append}
use Rattle.history_model.specs.History.{Body, Content, Whole, Change, Book, Land, Policy, Fault, Entry, is_stored, is_breaking, is_down}
use Rattle.byte_fields.proofs.Booleans.{or_false, or_true}

pub stored_breaks_nothing : (body : Body) → is_stored body ≡ true → is_breaking body ≡ false
stored_breaks_nothing (Content x n) s = refl
stored_breaks_nothing (Whole x n parts) s = refl
stored_breaks_nothing (Policy caller text) s = refl
stored_breaks_nothing (Change c) s = refl
stored_breaks_nothing (Book move) s = refl
stored_breaks_nothing (Land landing) s = refl
stored_breaks_nothing (Fault breaking) s = absurd (true≢false (sym s))

pub push : (h : List Entry) (e : Entry) → is_down (h ++ e ∷ []) ≡ (is_down h || (is_breaking e.body || false))
push h e = list_any-append (λ e. is_breaking e.body) h (e ∷ [])

pub down-stored : (h : List Entry) (e : Entry) → is_stored e.body ≡ true → is_down (h ++ e ∷ []) ≡ is_down h
down-stored h e s = push h e ∙ ap (λ b. is_down h || (b || false)) (stored_breaks_nothing e.body s) ∙ or_false (is_down h)

pub down-fault : (h : List Entry) (who : ℕ) → is_down (h ++ record { who = who; body = Fault false } ∷ []) ≡ is_down h
down-fault h who = push h (record { who = who; body = Fault false }) ∙ or_false (is_down h)

pub down-breaking : (h : List Entry) (who : ℕ) → is_down (h ++ record { who = who; body = Fault true } ∷ []) ≡ true
down-breaking h who = push h (record { who = who; body = Fault true }) ∙ or_true (is_down h)
