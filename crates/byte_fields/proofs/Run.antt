-- Values that are read one after another, as a loop reads them, and whether all bytes were read.
--     Run A S      how values in a row are read: each from a state that the one before left
--     with_front front read      what is read behind a front that was read before
use Rattle.std.proofs.Common.{◌≡◌, ℕ, suc, ◌+◌, ◌-◌, ◌<◌, List, [], ◌∷◌, ◌++◌, length, Result, Ok, Err, refl, sym, ap, ◌∙◌, arith, append_assoc}
use Rattle.std.proofs.lemmas.List.{append-nil}
use Rattle.byte_fields.specs.Reading.{Reader, and_then, value, ◌>>=◌, times, whole}
use Rattle.byte_fields.specs.declared.field_fault.FieldFault.{FieldFault}
use Rattle.byte_fields.specs.declared.field_fault.FieldFault.TheVariants.{Bad, Memory}
use Rattle.byte_fields.specs.Reads.{Fails}

pub record Run (A S : Type 0) : Type 0 where
  pub all : ℕ → S → Reader (List A)
  pub one : S → Reader A
  pub next : S → A → S
  pub none : (s : S) (bytes : List ℕ) → all 0 s bytes ≡ Ok ([], bytes)
  pub more : (n : ℕ) (s : S) (bytes : List ℕ) → all (suc n) s bytes ≡ and_then (one s bytes) (λ x. all n (next s x) >>= λ xs. value (x ∷ xs))

-- the same field, so many times
abbrev pub times_run : {A : Type 0} → Reader A → Run A (Unit {0})
times_run r = record {
  all = λ n s. times n r;
  one = λ s. r;
  next = λ s x. s;
  none = λ s bytes. refl;
  more = λ n s bytes. refl;
}

abbrev pub with_front : {A : Type 0} → List A → Result (List A × List ℕ) ℕ → Result (List A × List ℕ) ℕ
with_front front read = and_then read (λ xs. value (front ++ xs))

front_more : {A : Type 0} (front : List A) (x : A) (read : Result (List A × List ℕ) ℕ) → with_front front (and_then read (λ xs. value (x ∷ xs))) ≡ with_front (front ++ x ∷ []) read
front_more front x (Ok y) = ap (λ (xs : List _). Ok (xs, y.1)) (sym (append_assoc front (x ∷ []) y.0))
front_more front x (Err left) = refl

less_one : (n k : ℕ) → k < n → n - k ≡ suc (n - (k + 1))
less_one n k h = omega arith

one_first : {A S : Type 0} (g : Run A S) (n k : ℕ) (s : S) (bytes : List ℕ) → k < n → g.all (n - k) s bytes ≡ and_then (g.one s bytes) (λ x. g.all (n - (k + 1)) (g.next s x) >>= λ xs. value (x ∷ xs))
one_first g n k s bytes less = ap (λ m. g.all m s bytes) (less_one n k less) ∙ g.more (n - (k + 1)) s bytes

pub goes_on : {A S : Type 0} (g : Run A S) (front : List A) (n k : ℕ) (s : S) (bytes after : List ℕ) (x : A) → k < n → g.one s bytes ≡ Ok (x, after)
    → with_front front (g.all (n - k) s bytes) ≡ with_front (front ++ x ∷ []) (g.all (n - (k + 1)) (g.next s x) after)
goes_on g front n k s bytes after x less read =
    ap (with_front front) (one_first g n k s bytes less ∙ ap (λ one. and_then one (λ x. g.all (n - (k + 1)) (g.next s x) >>= λ xs. value (x ∷ xs))) read)
    ∙ front_more front x (g.all (n - (k + 1)) (g.next s x) after)

pub fails : {A S : Type 0} (g : Run A S) (fault : FieldFault) (front : List A) (n k : ℕ) (s : S) (bytes : List ℕ) (total : Result (List A × List ℕ) ℕ) → k < n → Fails fault (g.one s bytes)
    → with_front front (g.all (n - k) s bytes) ≡ total → Fails fault total
fails g (Bad left) front n k s bytes total less read so_far =
    sym so_far ∙ ap (with_front front) (one_first g n k s bytes less ∙ ap (λ one. and_then one (λ x. g.all (n - (k + 1)) (g.next s x) >>= λ xs. value (x ∷ xs))) read)
fails g Memory front n k s bytes total less read so_far = tt

pub ends : {A S : Type 0} (g : Run A S) (front : List A) (m : ℕ) (s : S) (bytes : List ℕ) → m ≡ 0 → with_front front (g.all m s bytes) ≡ Ok (front, bytes)
ends g front m s bytes e =
    ap (λ m. with_front front (g.all m s bytes)) e ∙ ap (with_front front) (g.none s bytes) ∙ ap (λ (xs : List _). Ok (xs, bytes)) (append-nil front)

-- ---- the end

whole_by : {A : Type 0} (n : ℕ) (x : A) (rest : List ℕ) → length rest < 1 → whole n (Ok (x, rest)) ≡ Ok x
whole_by n x [] none = refl
whole_by n x (b ∷ rest) none = absurd (omega arith)

-- where nothing is left, all the bytes were read
pub read_to_end : {A : Type 0} (n : ℕ) (read : Result (A × List ℕ) ℕ) (x : A) (rest : List ℕ) → read ≡ Ok (x, rest) → length rest < 1 → whole n read ≡ Ok x
read_to_end n read x rest e none = ap (whole n) e ∙ whole_by n x rest none
