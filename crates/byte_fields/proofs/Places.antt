-- Readers find their faults at fields: each kind of field does, and what is put together of readers that do.
--     KeepsPlaces c r      all faults of the reader are at fields, and what it reads it reads whatever follows
--     LastKeeps c r      the same of a reader behind which none stands: where it reads all bytes, it may have read them to their end
--     HasSize n r, IsWithin d r, IsOnlyCut n r      it reads n bytes;  its faults are at most d bytes behind the front;  it fails only where fewer than n bytes are there
use Rattle.std.proofs.Common.{◌≡◌, ℕ, zero, suc, ◌+◌, ◌-◌, ◌<◌, ◌≤◌, inl, inr, Bool, true, false, cond, List, [], ◌∷◌, ◌++◌, length, take, drop, refl, sym, ap, subst, ◌∙◌, arith, append_assoc}
use mathlib.Core.Bool.{true≢false}
use Rattle.std.specs.Prelude.{◌⊎◌, Option, Some, None, Result, Ok, Err, nat_le, bytes_eq}
use Rattle.std.specs.Option.{option_map_or}
use Rattle.std.specs.Int.{Width, byte_len, from_be_bytes, cast_signed}
use Rattle.std.proofs.lemmas.List.{append-nil, length-append, take-append-drop, take-append-le, append_cancel_left, length-take-le, length-drop}
use Rattle.std.proofs.Math.Seq.{take-append_seam, drop-append_seam}
use Rattle.std.proofs.lemmas.Bool.{leb-true, leb-false, lt-leb, cases_lt}
use Rattle.byte_fields.specs.Reading.{Reader, value, and_then, ◌>>=◌, field, keeping, number, signed, bytes_of, exactly, id, any, one_field, as_one, with_len, times, whole, read}
use Rattle.byte_fields.specs.Places.{NamesField, ReadsFront, FollowedBy, NamesFieldAt, NamesPlace}
use Rattle.byte_fields.proofs.FieldLemmas.{reads_field}

pub record KeepsPlaces {A : Type 0} (c : ℕ) (r : Reader A) : Type 0 where
  pub reads : (bytes : List ℕ) (x : A) (left : List ℕ) → r bytes ≡ Ok (x, left) → ReadsFront r bytes x left
  pub names : (bytes : List ℕ) (left : ℕ) → r bytes ≡ Err left → NamesField c r bytes left

pub record LastKeeps {A : Type 0} (c : ℕ) (r : Reader A) : Type 0 where
  pub reads : (bytes : List ℕ) (x : A) (b : ℕ) (left : List ℕ) → r bytes ≡ Ok (x, b ∷ left) → ReadsFront r bytes x (b ∷ left)
  pub names : (bytes : List ℕ) (left : ℕ) → r bytes ≡ Err left → NamesField c r bytes left

pub last_keeps : {A : Type 0} {r : Reader A} (c : ℕ) → KeepsPlaces c r → LastKeeps c r
last_keeps c k = record { reads = λ bytes x b left h. k.reads bytes x (b ∷ left) h; names = k.names }

-- ---- what is read

abbrev pub the_value : {A : Type 0} → Result (A × List ℕ) ℕ → Option A
the_value (Ok y) = Some y.0
the_value (Err n) = None

abbrev pub the_rest : {A : Type 0} → Result (A × List ℕ) ℕ → List ℕ
the_rest (Ok y) = y.1
the_rest (Err n) = []

abbrev pub the_left : {A : Type 0} → Result (A × List ℕ) ℕ → ℕ
the_left (Ok y) = 0
the_left (Err n) = n

abbrev pub is_read : {A : Type 0} → Result (A × List ℕ) ℕ → Bool
is_read (Ok y) = true
is_read (Err n) = false

pub not_both : {A : Type 0} (x : A) (t : List ℕ) (n : ℕ) → ◌≡◌ {A = Result (A × List ℕ) ℕ} (Ok (x, t)) (Err n) → ⊥
not_both {A} x t n h = true≢false (ap (is_read {A = A}) h)

pub keeps_value : {A : Type 0} (c : ℕ) (x : A) → KeepsPlaces c (value x)
keeps_value c x = record {
  reads = λ bytes y left h. record { front = []; parts = ap the_rest h; stands = λ other. ap (λ o. option_map_or (λ y. Ok (y, other)) o (Ok (x, other))) (ap the_value h) };
  names = λ bytes left h. absurd (not_both x bytes left h);
}

-- ---- one field

abbrev tested : {A : Type 0} → List ℕ → Bool → Option A → ℕ → Result (A × List ℕ) ℕ
tested after b o n = option_map_or (λ x. Ok (x, after)) (cond b o None) (Err n)

pub record IsRead {A : Type 0} (n : ℕ) (view : List ℕ → Option A) (bytes : List ℕ) (x : A) (left : List ℕ) : Type 0 where
  pub fits : nat_le n (length bytes) ≡ true
  pub seen : view (take n bytes) ≡ Some x
  pub after : drop n bytes ≡ left

pub field_read : {A : Type 0} (n : ℕ) (view : List ℕ → Option A) (bytes : List ℕ) (x : A) (left : List ℕ) → field n view bytes ≡ Ok (x, left) → IsRead n view bytes x left
field_read {A} n view bytes x left h = by (nat_le n (length bytes)) refl (view (take n bytes)) refl h
  where
    by : (b : Bool) → nat_le n (length bytes) ≡ b → (o : Option A) → view (take n bytes) ≡ o → tested (drop n bytes) b o (length bytes) ≡ Ok (x, left) → IsRead n view bytes x left
    by true e (Some y) g h = record { fits = e; seen = g ∙ ap the_value h; after = ap the_rest h }
    by true e None g h = absurd (not_both x left (length bytes) (sym h))
    by false e o g h = absurd (not_both x left (length bytes) (sym h))

field_front : {A : Type 0} (n : ℕ) (view : List ℕ → Option A) (bytes : List ℕ) (x : A) (left : List ℕ) → IsRead n view bytes x left → ReadsFront (field n view) bytes x left
field_front n view bytes x left p = record {
  front = take n bytes;
  parts = sym (take-append-drop n bytes) ∙ ap (λ t. take n bytes ++ t) p.after;
  stands = reads_field n view (take n bytes) x (length-take-le n bytes (leb-true n (length bytes) p.fits)) p.seen;
}

-- where a field fails, all the bytes are left
pub field_fails : {A : Type 0} (n : ℕ) (view : List ℕ → Option A) (bytes : List ℕ) (left : ℕ) → field n view bytes ≡ Err left → left ≡ length bytes
field_fails {A} n view bytes left h = by (nat_le n (length bytes)) (view (take n bytes)) h
  where
    by : (b : Bool) (o : Option A) → tested (drop n bytes) b o (length bytes) ≡ Err left → left ≡ length bytes
    by true (Some y) h = absurd (not_both y (drop n bytes) left h)
    by true None h = sym (ap the_left h)
    by false o h = sym (ap the_left h)

field_short : {A : Type 0} (n : ℕ) (view : List ℕ → Option A) (bytes : List ℕ) → length bytes < n → field n view bytes ≡ Err (length bytes)
field_short n view bytes less = ap (λ b. tested (drop n bytes) b (view (take n bytes)) (length bytes)) (lt-leb n (length bytes) less)

field_bad : {A : Type 0} (n : ℕ) (view : List ℕ → Option A) (bytes : List ℕ) → view (take n bytes) ≡ None → field n view bytes ≡ Err (length bytes)
field_bad n view bytes none = by (nat_le n (length bytes))
  where
    by : (b : Bool) → tested (drop n bytes) b (view (take n bytes)) (length bytes) ≡ Err (length bytes)
    by true = ap (λ o. tested (drop n bytes) true o (length bytes)) none
    by false = refl

field_is_bad : {A : Type 0} (n : ℕ) (view : List ℕ → Option A) (bytes : List ℕ) (left : ℕ) → field n view bytes ≡ Err left
    → (length bytes < n) ⊎ ((other : List ℕ) → field n view (take n bytes ++ other) ≡ Err (length (take n bytes ++ other)))
field_is_bad {A} n view bytes left h = by (nat_le n (length bytes)) refl (view (take n bytes)) refl h
  where
    again : (other : List ℕ) → n ≤ length bytes → take n (take n bytes ++ other) ≡ take n bytes
    again other fits = ap (λ m. take m (take n bytes ++ other)) (sym (length-take-le n bytes fits)) ∙ take-append_seam (take n bytes) other

    by : (b : Bool) → nat_le n (length bytes) ≡ b → (o : Option A) → view (take n bytes) ≡ o → tested (drop n bytes) b o (length bytes) ≡ Err left
        → (length bytes < n) ⊎ ((other : List ℕ) → field n view (take n bytes ++ other) ≡ Err (length (take n bytes ++ other)))
    by true e (Some y) g h = absurd (not_both y (drop n bytes) left h)
    by true e None g h = inr (λ other. field_bad n view (take n bytes ++ other) (ap view (again other (leb-true n (length bytes) e)) ∙ g))
    by false e o g h = inl (leb-false n (length bytes) e)

-- a field of all that is left
pub field_to_end : {A : Type 0} (view : List ℕ → Option A) (bytes : List ℕ) (left : ℕ) → field (length bytes) view bytes ≡ Err left → view bytes ≡ None
field_to_end {A} view bytes left h = by (view bytes) refl
  where
    by : (o : Option A) → view bytes ≡ o → view bytes ≡ None
    by None g = g
    by (Some y) g = absurd (not_both y [] left (sym (reads_field (length bytes) view bytes y refl g []) ∙ ap (λ t. field (length bytes) view t) (append-nil bytes) ∙ h))

pub keeps_field : {A : Type 0} (c n : ℕ) (view : List ℕ → Option A) → KeepsPlaces c (field n view)
keeps_field c n view = record {
  reads = λ bytes x left h. field_front n view bytes x left (field_read n view bytes x left h);
  names = λ bytes left h. record {
    before = [];
    known = [];
    rest = bytes;
    size = n;
    parts = refl;
    left_is = field_fails n view bytes left h;
    few = omega arith;
    whole = λ other l e. (let same = field_fails n view other l e in omega arith);
    needs = λ other less. field_short n view other less;
    bad = field_is_bad n view bytes left h;
  };
}

pub keeps_number : (c : ℕ) (w : Width) (rule : ℕ → Bool) → KeepsPlaces c (number w rule)
keeps_number c w rule = keeps_field c (byte_len w) (λ bytes. keeping rule (from_be_bytes w bytes))

pub keeps_signed : (c : ℕ) (w : Width) → KeepsPlaces c (signed w)
keeps_signed c w = keeps_field c (byte_len w) (λ bytes. Some (cast_signed w (from_be_bytes w bytes)))

pub keeps_bytes : (c n : ℕ) (rule : List ℕ → Bool) → KeepsPlaces c (bytes_of n rule)
keeps_bytes c n rule = keeps_field c n (keeping rule)

pub keeps_exactly : (c : ℕ) (bytes : List ℕ) → KeepsPlaces c (exactly bytes)
keeps_exactly c bytes = keeps_bytes c (length bytes) (bytes_eq bytes)

pub keeps_id : (c : ℕ) → KeepsPlaces c id
keeps_id c = keeps_bytes c 32 any

-- ---- a reader and then another

-- two ways to part bytes, of which the first part of one is shorter
parted : (xs ys : List ℕ) (us vs : List ℕ) → xs ++ ys ≡ us ++ vs → length xs ≤ length us → us ≡ xs ++ drop (length xs) us
parted xs ys us vs same less =
    sym (take-append-drop (length xs) us) ∙ ap (λ t. t ++ drop (length xs) us) (sym (take-append-le (length xs) us vs less) ∙ ap (take (length xs)) (sym same) ∙ take-append_seam xs ys)

lengths_of : {xs ys : List ℕ} → xs ≡ ys → length xs ≡ length ys
lengths_of e = ap length e

either_way : (m n : ℕ) → (m ≤ n) ⊎ (n ≤ m)
either_way m n = elim (cases_lt m n) [ inl less ↦ inl (let h = less in omega arith) | inr more ↦ inr more ]

-- more bytes than there are aren't left
abbrev pub Falls : {B : Type 0} → Reader B → Type 0
Falls r = (bytes : List ℕ) (l : ℕ) → r bytes ≡ Err l → l ≤ length bytes

pub names_fall : {B : Type 0} {r : Reader B} (c : ℕ) → ((bytes : List ℕ) (left : ℕ) → r bytes ≡ Err left → NamesField c r bytes left) → Falls r
names_fall c names bytes l h =
    let q = names bytes l h in
    let sum = lengths_of q.parts in
    let more = length-append q.before (q.known ++ q.rest) in
    let same = q.left_is in
    omega arith

-- no fault of two readers lies before the end of what stands before a fault of the first
whole_then : {A B : Type 0} (c : ℕ) (r : Reader A) (f : A → Reader B) → KeepsPlaces c r → ((x : A) → Falls (f x)) → (bytes : List ℕ) (left : ℕ) → r bytes ≡ Err left → (p : NamesField c r bytes left)
    → (other : List ℕ) (l : ℕ) → (r >>= f) (p.before ++ other) ≡ Err l → l ≤ length other
whole_then {A} {B} c r f kr kf bytes left fails p other l h = by (r (p.before ++ other)) refl h
  where
    in_order : (x : A) (after : List ℕ) → (q : ReadsFront r (p.before ++ other) x after) → (length p.before ≤ length q.front) ⊎ (length q.front ≤ length p.before) → l ≤ length after → l ≤ length other
    in_order x after q (inl less) small =
        let sum = lengths_of q.parts in
        let one = length-append p.before other in
        let two = length-append q.front after in
        omega arith
    in_order x after q (inr less) small =
        let cut = parted q.front after p.before other (sym q.parts) less in
        let all = p.parts ∙ ap (λ t. t ++ (p.known ++ p.rest)) cut ∙ append_assoc q.front (drop (length q.front) p.before) (p.known ++ p.rest) in
        absurd (not_both x (drop (length q.front) p.before ++ (p.known ++ p.rest)) left (sym (q.stands (drop (length q.front) p.before ++ (p.known ++ p.rest))) ∙ ap r (sym all) ∙ fails))

    by : (read : Result (A × List ℕ) ℕ) → r (p.before ++ other) ≡ read → and_then read f ≡ Err l → l ≤ length other
    by (Err m) e h = p.whole other l (e ∙ ap Err (ap the_left h))
    by (Ok (x, after)) e h = in_order x after (kr.reads (p.before ++ other) x after e) (either_way (length p.before) (length (kr.reads (p.before ++ other) x after e).front)) (kf x after l h)

pub fails_first : {A B : Type 0} (c : ℕ) (r : Reader A) (f : A → Reader B) → KeepsPlaces c r → ((x : A) → Falls (f x)) → (bytes : List ℕ) (left : ℕ) → r bytes ≡ Err left → NamesField c (r >>= f) bytes left
fails_first {A} c r f kr kf bytes left fails = by (kr.names bytes left fails)
  where
    by : NamesField c r bytes left → NamesField c (r >>= f) bytes left
    by p = record {
      before = p.before;
      known = p.known;
      rest = p.rest;
      size = p.size;
      parts = p.parts;
      left_is = p.left_is;
      few = p.few;
      whole = whole_then c r f kr kf bytes left fails p;
      needs = λ other less. ap (λ read. and_then read f) (p.needs other less);
      bad = elim p.bad [ inl less ↦ inl less | inr broken ↦ inr (λ other. ap (λ read. and_then read f) (broken other)) ];
    }

pub behind : {A B : Type 0} (r : Reader A) (f : A → Reader B) (bytes : List ℕ) (x : A) (after : List ℕ) → (q : ReadsFront r bytes x after) → (s other : List ℕ) → (r >>= f) ((q.front ++ s) ++ other) ≡ f x (s ++ other)
behind r f bytes x after q s other = ap (λ t. and_then (r t) f) (append_assoc q.front s other) ∙ ap (λ read. and_then read f) (q.stands (s ++ other))

pub fails_later : {A B : Type 0} (c : ℕ) (r : Reader A) (f : A → Reader B) (bytes : List ℕ) (left : ℕ) (x : A) (after : List ℕ) → ReadsFront r bytes x after → NamesField c (f x) after left → NamesField c (r >>= f) bytes left
fails_later c r f bytes left x after q p = record {
  before = q.front ++ p.before;
  known = p.known;
  rest = p.rest;
  size = p.size;
  parts = q.parts ∙ ap (λ t. q.front ++ t) p.parts ∙ sym (append_assoc q.front p.before (p.known ++ p.rest));
  left_is = p.left_is;
  few = p.few;
  whole = λ other l h. p.whole other l (sym (behind r f bytes x after q p.before other) ∙ h);
  needs = λ other less. behind r f bytes x after q p.before (p.known ++ other) ∙ p.needs other less;
  bad = elim p.bad [ inl less ↦ inl less | inr broken ↦ inr (λ other. behind r f bytes x after q p.before (p.known ++ (take p.size p.rest ++ other)) ∙ broken other) ];
}

pub reads_both : {A B : Type 0} (r : Reader A) (f : A → Reader B) (bytes : List ℕ) (x : A) (after : List ℕ) (y : B) (left : List ℕ) → ReadsFront r bytes x after → ReadsFront (f x) after y left → ReadsFront (r >>= f) bytes y left
reads_both r f bytes x after y left q p = record {
  front = q.front ++ p.front;
  parts = q.parts ∙ ap (λ t. q.front ++ t) p.parts ∙ sym (append_assoc q.front p.front left);
  stands = λ other. behind r f bytes x after q p.front other ∙ p.stands other;
}

pub last_then : {A B : Type 0} {r : Reader A} {f : A → Reader B} (c : ℕ) → KeepsPlaces c r → ((x : A) → LastKeeps c (f x)) → LastKeeps c (r >>= f)
last_then {A} {B} {r} {f} c kr kf = record {
  reads = λ bytes y b left h. both bytes y b left (r bytes) refl h;
  names = λ bytes left h. fault bytes left (r bytes) refl h;
}
  where
    both : (bytes : List ℕ) (y : B) (b : ℕ) (left : List ℕ) (read : Result (A × List ℕ) ℕ) → r bytes ≡ read → and_then read f ≡ Ok (y, b ∷ left) → ReadsFront (r >>= f) bytes y (b ∷ left)
    both bytes y b left (Ok (x, after)) e h = reads_both r f bytes x after y (b ∷ left) (kr.reads bytes x after e) ((kf x).reads after y b left h)
    both bytes y b left (Err m) e h = absurd (not_both y (b ∷ left) m (sym h))

    fault : (bytes : List ℕ) (left : ℕ) (read : Result (A × List ℕ) ℕ) → r bytes ≡ read → and_then read f ≡ Err left → NamesField c (r >>= f) bytes left
    fault bytes left (Ok (x, after)) e h = fails_later c r f bytes left x after (kr.reads bytes x after e) ((kf x).names after left h)
    fault bytes left (Err m) e h = fails_first c r f kr (λ x. names_fall c (kf x).names) bytes left (e ∙ ap Err (ap the_left h))

pub keeps_then : {A B : Type 0} {r : Reader A} {f : A → Reader B} (c : ℕ) → KeepsPlaces c r → ((x : A) → KeepsPlaces c (f x)) → KeepsPlaces c (r >>= f)
keeps_then {A} {B} {r} {f} c kr kf = record {
  reads = λ bytes y left h. both bytes y left (r bytes) refl h;
  names = (last_then {r = r} {f = f} c kr (λ x. last_keeps c (kf x))).names;
}
  where
    both : (bytes : List ℕ) (y : B) (left : List ℕ) (read : Result (A × List ℕ) ℕ) → r bytes ≡ read → and_then read f ≡ Ok (y, left) → ReadsFront (r >>= f) bytes y left
    both bytes y left (Ok (x, after)) e h = reads_both r f bytes x after y left (kr.reads bytes x after e) ((kf x).reads after y left h)
    both bytes y left (Err m) e h = absurd (not_both y left m (sym h))

pub keeps_either : {A : Type 0} {r s : Reader A} (c : ℕ) (b : Bool) → LastKeeps c r → LastKeeps c s → LastKeeps c (cond b r s)
keeps_either c true kr ks = kr
keeps_either c false kr ks = ks

-- the last part, after which a value is put together
pub keeps_last : {A B : Type 0} {r : Reader A} (c : ℕ) (f : A → B) → KeepsPlaces c r → KeepsPlaces c (r >>= λ x. value (f x))
keeps_last c f kr = keeps_then c kr (λ x. keeps_value c (f x))

pub keeps_with_len : {A : Type 0} (c : ℕ) (w : Width) (rule : ℕ → Bool) (view : List ℕ → Option A) → KeepsPlaces c (with_len w rule view)
keeps_with_len c w rule view = keeps_then c (keeps_number c w rule) (λ len. keeps_field c len view)

pub keeps_times : {A : Type 0} {r : Reader A} (c n : ℕ) → KeepsPlaces c r → KeepsPlaces c (times n r)
keeps_times c zero kr = keeps_value c []
keeps_times c (suc n) kr = keeps_then c kr (λ x. keeps_last c (λ xs. x ∷ xs) (keeps_times c n kr))

-- ---- several parts as one field

abbrev pub HasSize : {A : Type 0} → ℕ → Reader A → Type 0
HasSize n r = (bytes : List ℕ) (x : _) (left : List ℕ) → r bytes ≡ Ok (x, left) → length bytes ≡ n + length left

abbrev pub IsWithin : {A : Type 0} → ℕ → Reader A → Type 0
IsWithin d r = (bytes : List ℕ) (left : ℕ) → r bytes ≡ Err left → length bytes ≤ d + left

abbrev pub IsOnlyCut : {A : Type 0} → ℕ → Reader A → Type 0
IsOnlyCut n r = (bytes : List ℕ) (left : ℕ) → r bytes ≡ Err left → length bytes < n

pub field_size : {A : Type 0} (n : ℕ) (view : List ℕ → Option A) → HasSize n (field n view)
field_size n view bytes x left h =
    let p = field_read n view bytes x left h in
    let fits = leb-true n (length bytes) p.fits in
    let cut = length-drop n bytes in
    let same = ap length p.after in
    omega arith

pub size_then : {A B : Type 0} {r : Reader A} {f : A → Reader B} (n m : ℕ) → HasSize n r → ((x : A) → HasSize m (f x)) → HasSize (n + m) (r >>= f)
size_then {A} {B} {r} {f} n m sr sf bytes y left h = by (r bytes) refl h
  where
    by : (read : Result (A × List ℕ) ℕ) → r bytes ≡ read → and_then read f ≡ Ok (y, left) → length bytes ≡ n + m + length left
    by (Ok (x, after)) e h = let one = sr bytes x after e in let two = sf x after y left h in omega arith
    by (Err l) e h = absurd (not_both y left l (sym h))

pub cut_then : {A B : Type 0} {r : Reader A} {f : A → Reader B} (n m : ℕ) → HasSize n r → IsOnlyCut n r → ((x : A) → IsOnlyCut m (f x)) → IsOnlyCut (n + m) (r >>= f)
cut_then {A} {B} {r} {f} n m sr cr cf bytes left h = by (r bytes) refl h
  where
    by : (read : Result (A × List ℕ) ℕ) → r bytes ≡ read → and_then read f ≡ Err left → length bytes < n + m
    by (Ok (x, after)) e h = let one = sr bytes x after e in let two = cf x after left h in omega arith
    by (Err l) e h = let less = cr bytes l e in omega arith

-- a field that has no rule
pub field_cut : {A : Type 0} (n : ℕ) (view : List ℕ → Option A) → ((s : List ℕ) → (y : A) × (view s ≡ Some y)) → IsOnlyCut n (field n view)
field_cut {A} n view each bytes left h = by (nat_le n (length bytes)) refl h
  where
    by : (b : Bool) → nat_le n (length bytes) ≡ b → tested (drop n bytes) b (view (take n bytes)) (length bytes) ≡ Err left → length bytes < n
    by true e h =
        let some = each (take n bytes) in
        absurd (not_both some.0 (drop n bytes) left (sym (ap (λ o. tested (drop n bytes) true o (length bytes)) some.1) ∙ h))
    by false e h = leb-false n (length bytes) e

pub number_cut : (w : Width) → IsOnlyCut (byte_len w) (number w any)
number_cut w = field_cut (byte_len w) (λ bytes. keeping any (from_be_bytes w bytes)) (λ s. (from_be_bytes w s, refl))

pub within_field : {A : Type 0} (d n : ℕ) (view : List ℕ → Option A) → IsWithin d (field n view)
within_field d n view bytes left h = let same = field_fails n view bytes left h in omega arith

pub within_then : {A B : Type 0} {r : Reader A} {f : A → Reader B} (d n : ℕ) → HasSize n r → IsWithin (n + d) r → ((x : A) → IsWithin d (f x)) → IsWithin (n + d) (r >>= f)
within_then {A} {B} {r} {f} d n sr wr wf bytes left h = by (r bytes) refl h
  where
    by : (read : Result (A × List ℕ) ℕ) → r bytes ≡ read → and_then read f ≡ Err left → length bytes ≤ n + d + left
    by (Ok (x, after)) e h = let one = sr bytes x after e in let two = wf x after left h in omega arith
    by (Err l) e h = let less = wr bytes l e in let same = ap (the_left {A = B}) h in omega arith

-- a last part, after which a value is put together
pub within_last : {A B : Type 0} {r : Reader A} (d : ℕ) (f : A → B) → IsWithin d r → IsWithin d (r >>= λ x. value (f x))
within_last {A} {B} {r} d f wr bytes left h = by (r bytes) refl h
  where
    by : (read : Result (A × List ℕ) ℕ) → r bytes ≡ read → and_then read (λ x. value (f x)) ≡ Err left → length bytes ≤ d + left
    by (Ok (x, after)) e h = absurd (not_both (f x) after left h)
    by (Err l) e h = let less = wr bytes l e in let same = ap (the_left {A = B}) h in omega arith

pub cut_last : {A B : Type 0} {r : Reader A} (n : ℕ) (f : A → B) → IsOnlyCut n r → IsOnlyCut n (r >>= λ x. value (f x))
cut_last {A} {B} {r} n f cr bytes left h = by (r bytes) refl h
  where
    by : (read : Result (A × List ℕ) ℕ) → r bytes ≡ read → and_then read (λ x. value (f x)) ≡ Err left → length bytes < n
    by (Ok (x, after)) e h = absurd (not_both (f x) after left h)
    by (Err l) e h = cr bytes l e

pub size_last : {A B : Type 0} {r : Reader A} (n : ℕ) (f : A → B) → HasSize n r → HasSize n (r >>= λ x. value (f x))
size_last {A} {B} {r} n f sr bytes y left h = by (r bytes) refl h
  where
    by : (read : Result (A × List ℕ) ℕ) → r bytes ≡ read → and_then read (λ x. value (f x)) ≡ Ok (y, left) → length bytes ≡ n + length left
    by (Ok (x, after)) e h = sr bytes x after e ∙ ap (λ t. n + length t) (ap the_rest h)
    by (Err l) e h = absurd (not_both y left l (sym h))

pub within_value : {A : Type 0} (d : ℕ) (x : A) → IsWithin d (value x)
within_value d x bytes left h = absurd (not_both x bytes left h)

one_is : {A : Type 0} (r : Reader A) (bytes : List ℕ) (x : A) (left : List ℕ) → one_field r bytes ≡ Ok (x, left) → r bytes ≡ Ok (x, left)
one_is {A} r bytes x left h = by (r bytes) h
  where
    by : (read : Result (A × List ℕ) ℕ) → as_one (length bytes) read ≡ Ok (x, left) → read ≡ Ok (x, left)
    by (Ok y) h = h
    by (Err l) h = absurd (not_both x left (length bytes) (sym h))

one_fails : {A : Type 0} (r : Reader A) (bytes : List ℕ) (left : ℕ) → one_field r bytes ≡ Err left → (left ≡ length bytes) × ((l : ℕ) × (r bytes ≡ Err l))
one_fails {A} r bytes left h = by (r bytes) refl h
  where
    by : (read : Result (A × List ℕ) ℕ) → r bytes ≡ read → as_one (length bytes) read ≡ Err left → (left ≡ length bytes) × ((l : ℕ) × (r bytes ≡ Err l))
    by (Ok y) e h = absurd (not_both y.0 y.1 left h)
    by (Err l) e h = (sym (ap the_left h), (l, e))

one_front : {A : Type 0} {r : Reader A} (c : ℕ) → KeepsPlaces c r → (bytes : List ℕ) (x : A) (left : List ℕ) → one_field r bytes ≡ Ok (x, left) → ReadsFront (one_field r) bytes x left
one_front {r = r} c k bytes x left h =
    let q = k.reads bytes x left (one_is r bytes x left h) in
    record { front = q.front; parts = q.parts; stands = λ other. ap (as_one (length (q.front ++ other))) (q.stands other) }

-- its fault is at its first byte, and the parts that are in order tell its length
pub keeps_one : {A : Type 0} {r : Reader A} (d : ℕ) → KeepsPlaces 0 r → IsWithin d r → KeepsPlaces d (one_field r)
keeps_one {A} {r} d k within = record {
  reads = one_front 0 k;
  names = λ bytes left h. (let p = one_fails r bytes left h in at_first bytes left p.0 p.1.0 (within bytes p.1.0 p.1.1) (k.names bytes p.1.0 p.1.1));
}
  where
    at_first : (bytes : List ℕ) (left : ℕ) → left ≡ length bytes → (l : ℕ) → length bytes ≤ d + l → NamesField 0 r bytes l → NamesField d (one_field r) bytes left
    at_first bytes left all l near p = record {
      before = [];
      known = p.before ++ p.known;
      rest = p.rest;
      size = p.size;
      parts = p.parts ∙ sym (append_assoc p.before p.known p.rest);
      left_is = all ∙ ap length (p.parts ∙ sym (append_assoc p.before p.known p.rest));
      few = (
          let sum = ap length p.parts in
          let one = length-append p.before (p.known ++ p.rest) in
          let two = length-append p.before p.known in
          let same = p.left_is in
          let none = p.few in
          omega arith);
      whole = λ other m h. (let same = (one_fails r other m h).0 in omega arith);
      needs = λ other less. ap (as_one (length ((p.before ++ p.known) ++ other))) (ap r (append_assoc p.before p.known other) ∙ p.needs other less);
      bad = elim p.bad [
        | inl less ↦ inl less
        | inr broken ↦ inr (λ other. ap (as_one (length ((p.before ++ p.known) ++ (take p.size p.rest ++ other)))) (ap r (append_assoc p.before p.known (take p.size p.rest ++ other)) ∙ broken other))
      ];
    }

-- parts of one length that have no rule are as one field
pub keeps_parts : {A : Type 0} {r : Reader A} (c n : ℕ) → KeepsPlaces 0 r → HasSize n r → IsOnlyCut n r → KeepsPlaces c (one_field r)
keeps_parts {A} {r} c n k size cut = record {
  reads = one_front 0 k;
  names = λ bytes left h. (let p = one_fails r bytes left h in record {
    before = [];
    known = [];
    rest = bytes;
    size = n;
    parts = refl;
    left_is = p.0;
    few = omega arith;
    whole = λ other m h. (let same = (one_fails r other m h).0 in omega arith);
    needs = λ other less. short other less (r other) refl;
    bad = inl (cut bytes p.1.0 p.1.1);
  });
}
  where
    short : (other : List ℕ) → length other < n → (read : Result (A × List ℕ) ℕ) → r other ≡ read → as_one (length other) (r other) ≡ Err (length other)
    short other less (Ok (x, left)) e = absurd (let same = size other x left e in omega arith)
    short other less (Err l) e = ap (as_one (length other)) e

-- ---- all the bytes

pub at_field : {A : Type 0} {r : Reader A} (c : ℕ) (bytes : List ℕ) (at left : ℕ) → NamesField c r bytes left → length bytes - left ≡ at → NamesFieldAt c r bytes at
at_field c bytes at left p e =
    let sum = ap length p.parts in
    let more = length-append p.before (p.known ++ p.rest) in
    let same = p.left_is in
    record { left = left; field = p; place = omega arith }

pub followed : {A : Type 0} {r : Reader A} (bytes : List ℕ) (at : ℕ) (x : A) (b : ℕ) (more : List ℕ) → ReadsFront r bytes x (b ∷ more) → length bytes - length (b ∷ more) ≡ at → FollowedBy r bytes at
followed bytes at x b more q e =
    let sum = ap length q.parts in
    let both = length-append q.front (b ∷ more) in
    record { value = x; more = b ∷ more; front = q; place = omega arith; some = omega arith }

pub names_place : {A : Type 0} (c : ℕ) (r : Reader A) → LastKeeps c r → (bytes : List ℕ) (at : ℕ) → read r bytes ≡ Err at → NamesPlace c r bytes at
names_place {A} c r k bytes at h = by (r bytes) refl h
  where
    by : (o : Result (A × List ℕ) ℕ) → r bytes ≡ o → whole (length bytes) o ≡ Err at → NamesPlace c r bytes at
    by (Ok (x, [])) e h = absurd cc
    by (Ok (x, b ∷ more)) e h = inr (followed bytes at x b more (k.reads bytes x b more e) cc)
    by (Err left) e h = inl (at_field c bytes at left (k.names bytes left e) cc)
