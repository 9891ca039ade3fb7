-- A policy is held exactly where there is a last one.
use Rattle.std.proofs.Common.{◌≡◌, ℕ, Bool, true, false, cond, List, [], ◌∷◌, refl, sym, ap, ◌∙◌}
use Rattle.std.specs.Prelude.{Option, None, Some, is_some}
use Rattle.std.specs.List.{list_any}
use Rattle.std.specs.Option.{option_or}
use Rattle.history_model.specs.History.{Body, Content, Whole, Change, Book, Land, Policy, Fault, Entry, is_stored, bodies, is_policy, holds_policy, policy_text, policy_of}

still : (o : Option (List ℕ)) → is_some o ≡ is_some (option_or o None)
still None = refl
still (Some text) = refl

held : (o : Option (List ℕ)) (text : List ℕ) → true ≡ is_some (option_or o (Some text))
held None text = refl
held (Some other) text = refl

held_by : (h : List Entry) (b : Body) → holds_policy h ≡ is_some (policy_of h) → list_any is_policy (cond (is_stored b) (b ∷ bodies h) (bodies h)) ≡ is_some (option_or (policy_of h) (policy_text b))
held_by h (Policy caller text) later = held (policy_of h) text
held_by h (Content x n) later = later ∙ still (policy_of h)
held_by h (Whole x n parts) later = later ∙ still (policy_of h)
held_by h (Change c) later = later ∙ still (policy_of h)
held_by h (Book move) later = later ∙ still (policy_of h)
held_by h (Land landing) later = later ∙ still (policy_of h)
held_by h (Fault breaking) later = later ∙ still (policy_of h)

pub held_has_text : (h : List Entry) → holds_policy h ≡ is_some (policy_of h)
held_has_text [] = refl
held_has_text (e ∷ h) = held_by h e.body (held_has_text h)
