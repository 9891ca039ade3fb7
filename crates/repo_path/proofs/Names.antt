-- Where a text breaks the rule of a name.
use Rattle.std.proofs.Common.{◌≡◌, ℕ, ◌≤◌, cond, List, length, take, min, Option, Some, None, sym, ap, ◌∙◌}
use Rattle.std.specs.Prelude.{nat_lt, position, not, ◌==◌}
use Rattle.std.specs.Option.{option_or}
use Rattle.std.proofs.lemmas.Bool.{le-ltb, ne_eqb}
use Rattle.std.proofs.lemmas.List.{take_min}
use Rattle.history_model.specs.Bookmark.{is_name_byte, name_fault}

abbrev bad_byte : List ℕ → Option ℕ
bad_byte text = position (λ b. not (is_name_byte b)) text

abbrev pub bad_length : List ℕ → Option ℕ
bad_length text = cond (nat_lt 128 (length text)) (Some 128) (cond (length text == 0) (Some 0) None)

pub name_fault_is : (text : List ℕ) (k : ℕ) (r : Option ℕ) → k ≡ min 128 (length text) → r ≡ bad_byte (take k text) → name_fault text ≡ option_or r (bad_length text)
name_fault_is text k r e h = ap (λ r. option_or r (bad_length text)) (sym (h ∙ ap bad_byte (ap (λ n. take n text) e ∙ take_min 128 text)))

pub name_without_fault : (text : List ℕ) → length text ≤ 128 → (length text ≡ 0 → ⊥) → bad_length text ≡ None
name_without_fault text short some = (λ i. cond (le-ltb 128 (length text) short i) (Some 128) (cond (ne_eqb (length text) 0 some i) (Some 0) None))
