-- Reading from left to right, with the place of the first fault.
--     Reader A      reads a front of some bytes: the value and the bytes left, or how many bytes were left where the first field begins that is cut off or breaks its rule
--     value x, r >>= f      reads nothing, and gives x;  reads by r, and then by what f gives of its value
--     field n view      n bytes, of which view gives the value, or none where they break the rule
--     number w rule, bytes_of n rule, exactly bytes      a number of w bits and n bytes that keep a rule, and just these bytes
--     signed w, id      a signed number of w bits, and an id
--     with_len w rule view      a length of w bits that keeps the rule, and as many bytes, seen by view
--     one_field r      reads as r does, as one field
--     times n r      r, n times in a row
--     read r bytes      the value where r reads all the bytes, or the place of the first fault. Bytes that are left are one
use Rattle.std.specs.Prelude.{ℕ, zero, suc, ◌-◌, Bool, true, nat_le, if◌then◌else◌, List, [], ◌∷◌, length, take, drop, bytes_eq, Option, None, Some, Result, Ok, Err, ℤ}
use Rattle.std.specs.Option.{option_map_or}
use Rattle.std.specs.Int.{Width, byte_len, from_be_bytes, cast_signed}
use Rattle.byte_fields.specs.Bytes.{Id}

abbrev pub Reader : Type 0 → Type 0
Reader A = List ℕ → Result (A × List ℕ) ℕ

abbrev pub value : {A : Type 0} → A → Reader A
value x bytes = Ok (x, bytes)

abbrev pub and_then : {A B : Type 0} → Result (A × List ℕ) ℕ → (A → Reader B) → Result (B × List ℕ) ℕ
and_then (Ok x) f = f x.0 x.1
and_then (Err left) f = Err left

infixl 10 ◌>>=◌
abbrev pub ◌>>=◌ : {A B : Type 0} → Reader A → (A → Reader B) → Reader B
◌>>=◌ r f bytes = and_then (r bytes) f

abbrev pub field : {A : Type 0} → ℕ → (List ℕ → Option A) → Reader A
field n view bytes = option_map_or (λ x. Ok (x, drop n bytes)) (if nat_le n (length bytes) then view (take n bytes) else None) (Err (length bytes))

abbrev pub keeping : {A : Type 0} → (A → Bool) → A → Option A
keeping rule x = if rule x then Some x else None

abbrev pub number : Width → (ℕ → Bool) → Reader ℕ
number w rule = field (byte_len w) (λ bytes. keeping rule (from_be_bytes w bytes))

abbrev pub bytes_of : ℕ → (List ℕ → Bool) → Reader (List ℕ)
bytes_of n rule = field n (keeping rule)

abbrev pub exactly : List ℕ → Reader (List ℕ)
exactly bytes = bytes_of (length bytes) (bytes_eq bytes)

abbrev pub with_len : {A : Type 0} → Width → (ℕ → Bool) → (List ℕ → Option A) → Reader A
with_len w rule view = do
  len ← number w rule
  field len view

-- several parts as one field: its fault is at its first byte
abbrev pub as_one : {A : Type 0} → ℕ → Result (A × List ℕ) ℕ → Result (A × List ℕ) ℕ
as_one len (Ok x) = Ok x
as_one len (Err left) = Err len

abbrev pub one_field : {A : Type 0} → Reader A → Reader A
one_field r bytes = as_one (length bytes) (r bytes)

abbrev pub times : {A : Type 0} → ℕ → Reader A → Reader (List A)
times zero r = value []
times (suc n) r = do
  x ← r
  xs ← times n r
  value (x ∷ xs)

-- of n bytes, what reading them gives: all of them have to be read
abbrev pub whole : {A : Type 0} → ℕ → Result (A × List ℕ) ℕ → Result A ℕ
whole n (Ok (x, [])) = Ok x
whole n (Ok (x, b ∷ left)) = Err (n - length (b ∷ left))
whole n (Err left) = Err (n - left)

abbrev pub read : {A : Type 0} → Reader A → List ℕ → Result A ℕ
read r bytes = whole (length bytes) (r bytes)

-- ---- fields of any rule

abbrev pub any : {A : Type 0} → A → Bool
any x = true

abbrev pub signed : Width → Reader ℤ
signed w = field (byte_len w) (λ bytes. Some (cast_signed w (from_be_bytes w bytes)))

abbrev pub id : Reader Id
id = bytes_of 32 any
