-- A name among the entries of an fsnode, from the first on.
use Rattle.std.proofs.Common.{◌≡◌, ℕ, ◌+◌, ◌<◌, suc, Bool, true, false, cond, List, ◌∷◌, length, drop, drop-cons, get_or, sym, ap, ◌∙◌, arith}
use Rattle.std.specs.Prelude.{Some, bytes_eq}
use Rattle.std.specs.Cmp.Lexicographic.{texts_ties}
use Rattle.std.specs.FinMap.{find as find_key}
use Rattle.manifest_laws.specs.Entries.{file_of_entry}
use Rattle.node_fields.specs.declared.child.Child.{Child}
use Rattle.fsnode.specs.declared.entry.FsEntry.{FsEntry}
use Rattle.fsnode.specs.Parts.{children_seen, entry_seen}
use Rattle.derive_step.specs.Steps.{file_now}
use Rattle.derive_step.proofs.Edits.{name_swap}
use Rattle.derive_step.proofs.Entries.{by_name}

from_here : {X : Type 0} (es : List X) (i : ℕ) (x : X) → i < length es → x ≡ get_or es i x → drop i es ≡ x ∷ drop (i + 1) es
from_here es i x less is = drop-cons es i x less ∙ (λ k. sym is k ∷ drop (sym (one i) k) es)
  where
    one : (i : ℕ) → i + 1 ≡ suc i
    one i = omega arith

module _ (n : List ℕ) (es : List (Child FsEntry)) (i : ℕ) (x : Child FsEntry) (less : i < length es) (is : x ≡ get_or es i x) where
  first_is : (b : Bool) → bytes_eq x.name n ≡ b → file_now (children_seen (drop i es)) n ≡ file_of_entry (cond b (Some (entry_seen x.entry)) (find_key by_name n (children_seen (drop (i + 1) es))))
  first_is b h =
      ap (λ ds. file_now (children_seen ds) n) (from_here es i x less is)
      ∙ ap (λ b. file_of_entry (cond b (Some (entry_seen x.entry)) (find_key by_name n (children_seen (drop (i + 1) es))))) (name_swap n x.name ∙ sym (texts_ties x.name n) ∙ h)

  pub named_later : bytes_eq x.name n ≡ false → file_now (children_seen (drop (i + 1) es)) n ≡ file_now (children_seen (drop i es)) n
  named_later h = sym (first_is false h)

  pub named_here : bytes_eq x.name n ≡ true → file_of_entry (Some (entry_seen x.entry)) ≡ file_now (children_seen (drop i es)) n
  named_here h = sym (first_is true h)
