-- Lists, bytes and options of any kind.
use Rattle.std.proofs.Common.{◌≡◌, ℕ, zero, suc, true, ◌&&◌, List, [], ◌∷◌, ◌++◌, length, subst, ◌∙◌, arith}
use Rattle.std.specs.Prelude.{nat_lt}
use Rattle.std.proofs.Math.Seq.{take-append_seam, drop-append_seam}
use Rattle.std.proofs.lemmas.Bool.{ltb-true, and_parts}
use Rattle.std.proofs.lemmas.List.Folds.{list_all-append}
use Rattle.byte_fields.specs.Bytes.{IsBytes, are_bytes}
use Rattle.changeset_model.proofs.Accepting.{IsBytes-drop, IsBytes-take}

-- ---- each element

-- ---- bytes

pub are_IsBytes : (bytes : List ℕ) → are_bytes bytes ≡ true → IsBytes bytes
are_IsBytes [] h i = omega arith
are_IsBytes (b ∷ bytes) h zero = ltb-true b 256 (and_parts (nat_lt b 256) (are_bytes bytes) h).0
are_IsBytes (b ∷ bytes) h (suc i) = are_IsBytes bytes (and_parts (nat_lt b 256) (are_bytes bytes) h).1 i

pub are_bytes-append : (xs ys : List ℕ) → are_bytes xs ≡ true → are_bytes ys ≡ true → are_bytes (xs ++ ys) ≡ true
are_bytes-append xs ys h g = list_all-append (λ b. nat_lt b 256) xs ys ∙ (λ i. h i && g i)

pub IsBytes-front : (a b : List ℕ) → IsBytes (a ++ b) → IsBytes a
IsBytes-front a b h = subst IsBytes (take-append_seam a b) (IsBytes-take (length a) (a ++ b) h)

pub IsBytes-back : (a b : List ℕ) → IsBytes (a ++ b) → IsBytes b
IsBytes-back a b h = subst IsBytes (drop-append_seam a b) (IsBytes-drop (length a) (a ++ b) h)
