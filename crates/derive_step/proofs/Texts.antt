-- The text of a directory's path, a slash and a name.
use Rattle.std.proofs.Common.{◌≡◌, true, List, ℕ, [], ◌∷◌, ◌++◌, sym, ap, ◌∙◌, append_assoc}
use Rattle.std.specs.Prelude.{◌&&◌, Option, None, Result, Ok, Err, IfOk}
use Rattle.std.specs.Borrow.{Bor}
use Rattle.std.specs.Global.{Vec}
use Rattle.std.specs.declared.alloc.AllocError.{AllocError}
use Rattle.derive_step.specs.Places.{dir_of}
use Rattle.changeset_model.specs.Path.{Path, elements, is_element}
use Rattle.changeset_model.proofs.Spelling.{elements-text_of}
use Rattle.tree_fold.proofs.Texts.{elements-joined}

pub alone : (name : List ℕ) → is_element name ≡ true → elements name ≡ name ∷ []
alone name h = elements-text_of name [] (λ i. h i && true)

pub joined_elements : (d : Path) (text above name : List ℕ) → elements above ≡ d → is_element name ≡ true → text ≡ (above ++ 0x2F ∷ []) ++ name → elements text ≡ d ++ name ∷ []
joined_elements d text above name dir h e =
    ap elements (e ∙ append_assoc above (0x2F ∷ []) name) ∙ elements-joined above name ∙ (λ i. dir i ++ alone name h i)

pub text_alone : (dir : Option (Bor Path)) (r : Result (Vec ℕ) AllocError) (name : List ℕ) → dir ≡ None → is_element name ≡ true → IfOk r (λ text. text.items ≡ name) → IfOk r (λ text. elements text.items ≡ dir_of dir ++ name ∷ [])
text_alone dir (Ok text) name none h e = ap elements e ∙ alone name h ∙ (λ i. dir_of (sym none i) ++ name ∷ [])
text_alone dir (Err fault) name none h e = tt
