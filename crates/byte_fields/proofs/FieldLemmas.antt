-- Readers and spellings: which bytes a reader reads as a value.
--     Reads r bytes x      whatever follows these bytes, r reads them as x and leaves the rest
use Rattle.std.proofs.Common.{◌≡◌, ℕ, suc, ◌^◌, ◌<◌, Bool, true, cond, List, [], ◌∷◌, ◌++◌, length, refl, ap, subst, ◌∙◌, arith}
use Rattle.std.specs.Prelude.{Option, Some, None, Ok, Err, nat_lt, nat_le, flat_map}
use Rattle.std.specs.Option.{option_map_or}
use Rattle.std.specs.Int.{Width, w8, w16, w32, w64, byte_len, from_be_bytes, to_be_bytes}
use Rattle.std.proofs.Math.Seq.{take-append_seam, drop-append_seam}
use Rattle.std.proofs.lemmas.List.{append_assoc, length-append}
use Rattle.std.specs.List.{list_all}
use Rattle.std.proofs.lemmas.Bool.{le-leb, lt-ltb, and_from}
use Rattle.std.proofs.lemmas.Nat.{from_be_bytes-to_be_bytes_2, from_be_bytes-to_be_bytes_4, from_be_bytes-to_be_bytes_8}
use Rattle.byte_fields.specs.Bytes.{IsBytes, sized}
use Rattle.byte_fields.specs.Reading.{Reader, value, and_then, ◌>>=◌, field, keeping, number, with_len, times}

abbrev pub Reads : {A : Type 0} → Reader A → List ℕ → A → Type 0
Reads {A = A} r bytes x = (rest : List ℕ) → r (bytes ++ rest) ≡ Ok (x, rest)

pub reads_then : {A B : Type 0} (r : Reader A) (f : A → Reader B) (s t : List ℕ) (x : A) (y : B) → Reads r s x → Reads (f x) t y → Reads (r >>= f) (s ++ t) y
reads_then r f s t x y a b rest =
    ap (λ bytes. and_then (r bytes) f) (append_assoc s t rest)
    ∙ ap (λ read. and_then read f) (a (t ++ rest))
    ∙ b rest

-- the last part, after which a value is put together
pub reads_last : {A B : Type 0} (r : Reader A) (f : A → B) (s : List ℕ) (x : A) → Reads r s x → Reads (r >>= λ x. value (f x)) s (f x)
reads_last r f s x a rest = ap (λ read. and_then read (λ x. value (f x))) (a rest)

pub reads_field : {A : Type 0} (n : ℕ) (view : List ℕ → Option A) (s : List ℕ) (x : A) → length s ≡ n → view s ≡ Some x → Reads (field n view) s x
reads_field n view s x len seen rest =
    subst (λ n. field n view (s ++ rest) ≡ Ok (x, rest)) len (
    (λ i. option_map_or (λ x. Ok (x, drop-append_seam s rest i)) (cond (fits i) (view (take-append_seam s rest i)) None) (Err (length (s ++ rest))))
    ∙ ap (λ o. option_map_or (λ x. Ok (x, rest)) o (Err (length (s ++ rest)))) seen)
  where
    fits : nat_le (length s) (length (s ++ rest)) ≡ true
    fits = le-leb (length s) (length (s ++ rest)) (let sum = length-append s rest in omega arith)

pub keeps : {A : Type 0} (rule : A → Bool) (x : A) → rule x ≡ true → keeping rule x ≡ Some x
keeps rule x h = ap (λ b. cond b (Some x) None) h

-- bytes that a number of this width is spelled with
pub record Spelled (w : Width) (s : List ℕ) (n : ℕ) : Type 0 where
  pub len : length s ≡ byte_len w
  pub back : from_be_bytes w s ≡ n

pub reads_number : (w : Width) (rule : ℕ → Bool) (s : List ℕ) (n : ℕ) → Spelled w s n → rule n ≡ true → Reads (number w rule) s n
reads_number w rule s n p h = reads_field (byte_len w) (λ bytes. keeping rule (from_be_bytes w bytes)) s n p.len (ap (keeping rule) p.back ∙ keeps rule n h)

pub reads_with_len : {A : Type 0} (w : Width) (rule : ℕ → Bool) (view : List ℕ → Option A) (s : List ℕ) (x : A) → Spelled w (to_be_bytes w (length s)) (length s) → rule (length s) ≡ true → view s ≡ Some x → Reads (with_len w rule view) (sized w s) x
reads_with_len w rule view s x p h seen =
    reads_then (number w rule) (λ len. field len view) (to_be_bytes w (length s)) s (length s) x (reads_number w rule (to_be_bytes w (length s)) (length s) p h) (reads_field (length s) view s x refl seen)

pub reads_times : {A : Type 0} (r : Reader A) (spell : A → List ℕ) (xs : List A) → ((x : A) → Reads r (spell x) x) → Reads (times (length xs) r) (flat_map spell xs) xs
reads_times r spell [] each = λ rest. refl
reads_times r spell (x ∷ xs) each =
    reads_then r (λ x. times (length xs) r >>= λ xs. value (x ∷ xs)) (spell x) (flat_map spell xs) x (x ∷ xs) (each x) (reads_last (times (length xs) r) (λ xs. x ∷ xs) (flat_map spell xs) xs (reads_times r spell xs each))

-- ---- numbers

pub spelled_8 : (n : ℕ) → Spelled w8 (n ∷ []) n
spelled_8 n = record { len = refl; back = omega arith }

pub spelled_16 : (n : ℕ) → n < 2 ^ 16 → Spelled w16 (to_be_bytes w16 n) n
spelled_16 n h = record { len = refl; back = from_be_bytes-to_be_bytes_2 n h }

pub spelled_32 : (n : ℕ) → n < 2 ^ 32 → Spelled w32 (to_be_bytes w32 n) n
spelled_32 n h = record { len = refl; back = from_be_bytes-to_be_bytes_4 n h }

pub spelled_64 : (n : ℕ) → n < 2 ^ 64 → Spelled w64 (to_be_bytes w64 n) n
spelled_64 n h = record { len = refl; back = from_be_bytes-to_be_bytes_8 n h }

-- ---- bytes

pub all_bytes : (bytes : List ℕ) → IsBytes bytes → list_all (λ b. nat_lt b 256) bytes ≡ true
all_bytes [] fits = refl
all_bytes (b ∷ bytes) fits = and_from _ _ (lt-ltb b 256 (fits 0)) (all_bytes bytes (λ i. fits (suc i)))
