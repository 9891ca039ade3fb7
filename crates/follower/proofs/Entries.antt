-- An entry of which the log tells.
use Rattle.std.proofs.Common.{◌≡◌, ℕ, ◌≤◌, cond, List, [], ◌∷◌, ◌++◌, true, refl, sym, ap, ◌∙◌, arith}
use Rattle.std.proofs.lemmas.List.{append-nil}
use Rattle.std.specs.Prelude.{Some}
use Rattle.history_model.specs.History.{Body, Content, Whole, Change, Book, Land, Policy, Fault, Entry, bodies, is_stored}
use Rattle.reply_model.specs.Log.{LogLine, line_of}
use Rattle.reply_model.specs.After.{entry_by}
use Rattle.reply_model.proofs.Histories.{bodies-append}
use Rattle.follower.specs.Making.{Remains, count}

-- what the log tells of is stored
pub told_is_stored : (body : Body) (line : LogLine) → line_of body ≡ Some line → is_stored body ≡ true
told_is_stored (Content x n) line e = refl
told_is_stored (Whole x n parts) line e = refl
told_is_stored (Change c) line e = refl
told_is_stored (Book move) line e = refl
told_is_stored (Land landing) line e = refl
told_is_stored (Policy caller text) line e = refl
told_is_stored (Fault breaking) line e = absurd cc

pub bodies-push : (h : List Entry) (body : Body) → is_stored body ≡ true → bodies (h ++ entry_by 0 body ∷ []) ≡ bodies h ++ body ∷ []
bodies-push h body stored = bodies-append h (entry_by 0 body ∷ []) ∙ ap (λ b. bodies h ++ cond b (body ∷ []) []) stored

-- nothing more was done
pub still : (h after : List Entry) (sealed : ℕ) → bodies after ≡ bodies h → sealed ≤ count h → Remains [] h [] after sealed
still h after sealed same most = record { entries = same ∙ sym (append-nil (bodies h)); apart = omega arith; whole = λ down. refl }
