-- One piece more behind those that are joined.
use Rattle.std.proofs.Common.{◌≡◌, ◌<◌, ◌+◌, ◌++◌, ◌∙◌, [], ◌∷◌, ℕ, suc, List, length, take, drop, get_or, ap, sym, refl, arith}
use Rattle.std.proofs.lemmas.List.{append_assoc, append-nil, take-append-drop}
use Rattle.std.proofs.lemmas.Grind.{take_at_read}
use Rattle.std.proofs.Math.Seq.{drop-cons}
use mathlib.Core.Bool.{true≢false}
use Rattle.std.proofs.lemmas.Slice.Eq.{bytes_eq-Decides}
use Rattle.byte_fields.proofs.Booleans.{not_false as same_by}
use Rattle.std.specs.Prelude.{Bool, true, false, not, bytes_eq}
use Rattle.sha2.specs.Sha256.{sha256}
use Rattle.disk_model.specs.Meaning.{Meaning}
use Rattle.repo_journal.specs.View.{JournalView}
use Rattle.content_pieces.specs.declared.piece.Piece.{Piece}
use Rattle.content_pieces.specs.Joining.{IsRead, AreJoined}

pub joined_then : (j : JournalView) (m : Meaning) (pieces : List Piece) (p : Piece) (joined bytes : List ℕ) → AreJoined j m pieces joined → IsRead j m p bytes → sha256 bytes ≡ p.id
    → AreJoined j m (pieces ++ p ∷ []) (joined ++ bytes)
joined_then j m [] p joined bytes none read same = (bytes, read, same, ([], refl, ap (λ t. t ++ bytes) none ∙ sym (append-nil bytes)))
joined_then j m (q ∷ pieces) p joined bytes (first, is_read, its_id, (rest, others, parts)) read same =
    (first, is_read, its_id, (rest ++ bytes, joined_then j m pieces p rest bytes others read same, ap (λ t. t ++ bytes) parts ∙ append_assoc first rest bytes))

pub split_here : {T : Type 0} (xs : List T) (i : ℕ) (x : T) → i < length xs → x ≡ get_or xs i x → xs ≡ take i xs ++ x ∷ drop (i + 1) xs
split_here xs i x less is =
    let next : suc i ≡ i + 1 = omega arith in
    sym (take-append-drop i xs) ∙ ap (λ ys. take i xs ++ ys) (drop-cons xs i x less ∙ ap (λ y. y ∷ drop (suc i) xs) (sym is) ∙ ap (λ n. x ∷ drop n xs) next)

pub take_here : {T : Type 0} (xs : List T) (i : ℕ) (x : T) → i < length xs → x ≡ get_or xs i x → take i xs ++ x ∷ [] ≡ take (i + 1) xs
take_here xs i x less is = ap (λ y. take i xs ++ y ∷ []) is ∙ sym (take_at_read xs i x less).1

-- a test whether two ids differ
pub told_apart : (a b : List ℕ) (t : Bool) → t ≡ not (bytes_eq a b) → t ≡ true → a ≡ b → ⊥
told_apart a b t e differ same = true≢false (sym differ ∙ e ∙ ap not ((bytes_eq-Decides a b).1 same))

pub told_same : (a b : List ℕ) (t : Bool) → t ≡ not (bytes_eq a b) → t ≡ false → a ≡ b
told_same a b t e same = (bytes_eq-Decides a b).0 (same_by (bytes_eq a b) (sym e ∙ same))
