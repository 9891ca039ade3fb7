-- The elements of a rule, and the text at which it is looked up.
use Rattle.std.proofs.Common.{◌≡◌, ◌<◌, ℕ, true, false, List, [], ◌∷◌, length, refl, sym, ap, ◌∙◌, arith}
use Rattle.std.specs.Prelude.{bytes_eq}
use Rattle.std.specs.Bool.{Decides}
use Rattle.std.proofs.lemmas.Bool.Decides.{same_from_decides, Decides-like}
use Rattle.std.proofs.lemmas.Slice.Eq.{slice_eq-Decides, bytes_eq-Decides}
use Rattle.changeset_model.specs.Path.{Path, elements, text_of, path_eq, is_path}
use Rattle.changeset_model.proofs.Accepting.{elements_some, text_of-elements}
use Rattle.land_policy.specs.Index.{place_of}

pub path_eq-Decides : (p q : Path) → Decides (path_eq p q) (p ≡ q)
path_eq-Decides p q = slice_eq-Decides bytes_eq-Decides p q (path_eq p q) refl

empty_is_no_path : is_path ([] ∷ []) ≡ false
empty_is_no_path = refl

-- the text of a path isn't empty
pub some_text : (text : List ℕ) → is_path (elements text) ≡ true → 0 < length text
some_text [] h = absurd (let no : true ≡ false = sym h ∙ empty_is_no_path in cc)
some_text (b ∷ text) h = omega arith

key_from_place : (text key : List ℕ) → 0 < length text → elements text ≡ place_of key → text ≡ key
key_from_place text [] some e = absurd (let more = elements_some text in let none : length (elements text) ≡ 0 = ap (λ (p : Path). length p) e in omega arith)
key_from_place text (b ∷ key) some e = sym (text_of-elements text) ∙ ap text_of e ∙ text_of-elements (b ∷ key)

place_from_key : (text key : List ℕ) → 0 < length text → text ≡ key → elements text ≡ place_of key
place_from_key text [] some e = absurd (let none : length text ≡ 0 = ap (λ (t : List ℕ). length t) e in omega arith)
place_from_key text (b ∷ key) some e = ap elements e

-- a path is looked up at its text alone
pub path_at_key : (p : Path) (text : List ℕ) → elements text ≡ p → is_path p ≡ true → (key : List ℕ) → path_eq p (place_of key) ≡ bytes_eq text key
path_at_key p text e rules key =
    let some = some_text text (ap is_path e ∙ rules) in
    same_from_decides (path_eq p (place_of key)) (bytes_eq text key)
    (Decides-like (path_eq p (place_of key)) (λ same. key_from_place text key some (e ∙ same)) (λ same. sym e ∙ place_from_key text key some same) (path_eq-Decides p (place_of key)))
    (bytes_eq-Decides text key)

-- a text that isn't empty stands for its elements
pub place_of-some : (text : List ℕ) → 0 < length text → place_of text ≡ elements text
place_of-some [] some = absurd (omega arith)
place_of-some (b ∷ text) some = refl
