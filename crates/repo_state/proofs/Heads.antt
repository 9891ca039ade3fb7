-- A test of a bookmark's head.
use Rattle.std.proofs.Common.{◌≡◌, List, ℕ, Bool, true, false, not, sym, ap, refl, ◌∙◌}
use Rattle.std.specs.Prelude.{◌≢◌, Option, None, Some, bytes_eq}
use mathlib.Core.Bool.{true≢false}
use Rattle.std.specs.Option.{option_eq}
use Rattle.std.proofs.lemmas.Slice.Eq.{bytes_eq-Decides}
use Rattle.byte_fields.specs.Bytes.{Id}
use Rattle.history_model.specs.History.{Entry}
use Rattle.history_model.specs.Bookmark.{head}
use Rattle.byte_fields.proofs.Booleans.{not_false as not_not}

same_by : (found : Option Id) (old : Id) → not (option_eq bytes_eq found (Some old)) ≡ false → found ≡ Some old
same_by None old e = absurd cc
same_by (Some x) old e = ap Some ((bytes_eq-Decides x old).0 (not_not (bytes_eq x old) e))

-- a head that passed the test is the planned one
pub is_there : (h : List Entry) (name wanted : List ℕ) (found : Option Id) (planned old : Id) (t : Bool) → name ≡ wanted → found ≡ head h name → planned ≡ old → t ≡ not (option_eq bytes_eq found (Some planned)) → t ≡ false → head h wanted ≡ Some old
is_there h name wanted found planned old t name_is found_is old_is test passed =
    sym (found_is ∙ ap (head h) name_is) ∙ same_by found planned (sym test ∙ passed) ∙ ap Some old_is

-- and one that didn't is another
pub is_moved : (h : List Entry) (name wanted : List ℕ) (found : Option Id) (planned old : Id) (t : Bool) → name ≡ wanted → found ≡ head h name → planned ≡ old → t ≡ not (option_eq bytes_eq found (Some planned)) → t ≡ true → (found ≡ head h wanted) × (found ≢ Some old)
is_moved h name wanted found planned old t name_is found_is old_is test passed = (
  found_is ∙ ap (head h) name_is,
  λ same. true≢false (sym passed ∙ test ∙ (λ i. not (option_eq bytes_eq (same i) (Some (old_is i)))) ∙ ap not ((bytes_eq-Decides old old).1 refl)),
)
