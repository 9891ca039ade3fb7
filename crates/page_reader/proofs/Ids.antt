-- Ids, and their text in hex.
use Rattle.std.proofs.Common.{◌≡◌, ℕ, zero, suc, true, List, [], ◌∷◌, length, arith, Ok, ap, ◌∙◌}
use Rattle.std.specs.Prelude.{nat_lt, ◌==◌}
use Rattle.std.proofs.lemmas.Bool.{and_parts, ltb-true, eqb-true}
use Rattle.hex.specs.Hex.{IsBytes, encode_lower, decode_sized}
use Rattle.hex.proofs.HexLemmas.{decode_sized-encode_lower}
use Rattle.byte_fields.specs.Bytes.{Id, are_bytes}
use Rattle.page_reader.specs.Pages.{IsId}

pub bytes_within : (bytes : List ℕ) → are_bytes bytes ≡ true → IsBytes bytes
bytes_within [] all i = omega arith
bytes_within (b ∷ bytes) all zero = ltb-true b 256 (and_parts (nat_lt b 256) (are_bytes bytes) all).0
bytes_within (b ∷ bytes) all (suc i) = bytes_within bytes (and_parts (nat_lt b 256) (are_bytes bytes) all).1 i

pub id_bytes : (x : Id) → IsId x → IsBytes x
id_bytes x is = bytes_within x (and_parts (length x == 32) (are_bytes x) is).1

pub id_len : (x : Id) → IsId x → length x ≡ 32
id_len x is = eqb-true (length x) 32 (and_parts (length x == 32) (are_bytes x) is).0

-- an id's text is read back
pub hex_is_read : (text : List ℕ) (x : Id) → IsId x → text ≡ encode_lower x → decode_sized text 32 ≡ Ok x
hex_is_read text x is same = ap (λ t. decode_sized t 32) same ∙ decode_sized-encode_lower x 32 (id_len x is) (id_bytes x is)
