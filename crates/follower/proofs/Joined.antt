-- Ids one after another.
use Rattle.std.proofs.Common.{◌≡◌, ℕ, ◌+◌, ◌<◌, List, [], ◌∷◌, ◌++◌, length, take, get_or, sym, ap, ◌∙◌}
use Rattle.std.specs.List.{concat}
use Rattle.std.proofs.lemmas.Grind.{take_at_read}
use Rattle.std.proofs.lemmas.List.{append-nil}
use Rattle.std.proofs.lemmas.List.Folds.{concat-append}

pub joined_next : (xs : List (List ℕ)) (i : ℕ) (x : List ℕ) → i < length xs → x ≡ get_or xs i x → concat (take i xs) ++ x ≡ concat (take (i + 1) xs)
joined_next xs i x less is =
    ap (λ y. concat (take i xs) ++ y) (sym (append-nil x)) ∙ sym (concat-append (take i xs) (x ∷ []))
    ∙ ap (λ y. concat (take i xs ++ y ∷ [])) is ∙ ap concat (sym (take_at_read xs i x less).1)
