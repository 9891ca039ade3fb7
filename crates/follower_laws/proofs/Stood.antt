-- The entries of a legal history, each after those before it.
--     StoodAt header before b      the entry may follow these, which are legal
use Rattle.std.proofs.Common.{◌≡◌, List, [], ◌∷◌, ◌++◌, map, length, refl, sym, subst, ap, ◌∙◌}
use Rattle.std.specs.Prelude.{Some, slice_get}
use Rattle.std.proofs.lemmas.List.{map-append, append_assoc, append-nil}
use Rattle.history_model.specs.History.{Body, Entry, unnumbered, bodies}
use Rattle.history_model.specs.Journal.{Header}
use Rattle.reply_model.specs.Legal.{MayFollow, GoesOn, IsLegal}
use Rattle.reply_model.proofs.Stored.{IsLegal-stored}

pub record StoodAt (header : Header) (before : List Body) (b : Body) : Type 0 where
  pub legal : IsLegal header (map unnumbered before)
  pub follows : MayFollow header (map unnumbered before) b

pub goes_apart : (header : Header) (h xs ys : List Entry) → GoesOn header h (xs ++ ys) → GoesOn header h xs × GoesOn header (h ++ xs) ys
goes_apart header h [] ys g = (tt, subst (λ (k : List Entry). GoesOn header k ys) (sym (append-nil h)) g)
goes_apart header h (x ∷ xs) ys g =
    let rest = goes_apart header (h ++ x ∷ []) xs ys g.1 in
    ((g.0, rest.0), subst (λ (k : List Entry). GoesOn header k ys) (append_assoc h (x ∷ []) xs) rest.1)

-- what is stored goes on from its front
pub stored_apart : (header : Header) (h : List Entry) (before rest : List Body) → IsLegal header h → bodies h ≡ before ++ rest → IsLegal header (map unnumbered before) × GoesOn header (map unnumbered before) (map unnumbered rest)
stored_apart header h before rest legal e =
    goes_apart header [] (map unnumbered before) (map unnumbered rest)
    (subst (IsLegal header) (ap (map unnumbered) e ∙ map-append unnumbered before rest) (IsLegal-stored header h legal))

pub stood_at : (header : Header) (h : List Entry) (before later : List Body) (b : Body) → IsLegal header h → bodies h ≡ before ++ b ∷ later → StoodAt header before b
stood_at header h before later b legal e =
    let apart = stored_apart header h before (b ∷ later) legal e in
    record { legal = apart.0; follows = apart.1.0 }

pub at_its_place : {X : Type 0} (before later : List X) (x : X) → slice_get (before ++ x ∷ later) (length before) ≡ Some x
at_its_place [] later x = refl
at_its_place (y ∷ before) later x = at_its_place before later x
