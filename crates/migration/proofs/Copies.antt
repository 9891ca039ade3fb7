-- What the copy of a file stands for.
use Rattle.std.proofs.Common.{◌≡◌, ℕ, ◌+◌, ◌-◌, ◌<◌, ◌≤◌, ◌^◌, ◌⊎◌, inl, inr, Bool, true, false, cond, List, [], ◌∷◌, ◌++◌, length, take, drop, refl, sym, ap, subst, ◌∙◌, arith}
use Rattle.std.specs.Prelude.{sum_by, bytes_eq, nat_le, nat_lt, find, IsTrue, Option, Result, Err}
use Rattle.std.specs.Option.{option_map_or}
use Rattle.std.specs.List.{AllByRecursion}
use Rattle.std.specs.Int.{w64, to_be_bytes, from_be_bytes}
use Rattle.std.proofs.lemmas.Bool.{and_parts, leb-true, lt-ltb}
use Rattle.std.proofs.lemmas.List.{drop-take, drop-drop, take-take, take-append-le, append_assoc, length-append, length-take-le}
use Rattle.std.proofs.lemmas.List.Sums.{sum_by-cons}
use Rattle.std.proofs.Math.Seq.{take-length}
use Rattle.std.proofs.lemmas.Nat.{from_be_bytes-to_be_bytes_8}
use Rattle.sha2.specs.Sha256.{sha256}
use Rattle.byte_fields.specs.Bytes.{Id}
use Rattle.byte_fields.proofs.Lists.{weaker}
use Rattle.changeset_model.specs.Version.{Version, First, Second}
use Rattle.history_model.specs.History.{Body, Content, Whole, Change, Book, Land, Policy, Fault, Entry, bodies}
use Rattle.history_model.specs.Journal.{Header, HoldsParts, HoldsRecords, Stands, header_bytes, held, is_header, joined, mark, record_len, size}
use Rattle.reply_model.specs.Legal.{IsLegal}
use Rattle.reply_model.specs.Opening.{NotARepository, OpenFault, opens, opens_with, version_in}
use Rattle.reply_model.proofs.Versions.{legal_too}
use Rattle.repo_journal.specs.Payloads.{records}
use Rattle.repo_journal.proofs.Histories.{shape_of, stands_for}
use Rattle.migration.specs.Copying.{IsShort, IsUnfinished, IsUnmarked, copied, in_second, records_in}

fits_on : (at end : ℕ) (b : Body) (bs : List Body) → at + sum_by record_len (b ∷ bs) ≤ end → at + record_len b + sum_by record_len bs ≤ end
fits_on at end b bs fits = let sum = sum_by-cons record_len b bs in omega arith

fits_here : (at end : ℕ) (y : Id) (n : ℕ) (bs : List Body) → at + sum_by record_len (Content y n ∷ bs) ≤ end → at + 6 + (record_len (Content y n) - 6) ≤ end
fits_here at end y n bs fits = let sum = sum_by-cons record_len (Content y n) bs in omega arith

-- files that are alike from the header on up to a place hold alike what stands between
module _ (file other : List ℕ) (end : ℕ) (same : (n m : ℕ) → 16 ≤ n → n + m ≤ end → take m (drop n file) ≡ take m (drop n other)) where
  held_behind : (at : ℕ) (bs : List Body) (x : Id) → 16 ≤ at → at + sum_by record_len bs ≤ end → held file at bs x ≡ held other at bs x
  held_behind at [] x behind fits = refl
  held_behind at (Content y n ∷ bs) x behind fits =
      let here = same (at + 6) (record_len (Content y n) - 6) (omega arith) (fits_here at end y n bs fits) in
      let later = held_behind (at + record_len (Content y n)) bs x (omega arith) (fits_on at end (Content y n) bs fits) in
      (λ i. cond (bytes_eq x y) (here i) (later i))
  held_behind at (Whole y n parts ∷ bs) x behind fits = held_behind (at + record_len (Whole y n parts)) bs x (omega arith) (fits_on at end (Whole y n parts) bs fits)
  held_behind at (Change c ∷ bs) x behind fits = held_behind (at + record_len (Change c)) bs x (omega arith) (fits_on at end (Change c) bs fits)
  held_behind at (Book move ∷ bs) x behind fits = held_behind (at + record_len (Book move)) bs x (omega arith) (fits_on at end (Book move) bs fits)
  held_behind at (Land landing ∷ bs) x behind fits = held_behind (at + record_len (Land landing)) bs x (omega arith) (fits_on at end (Land landing) bs fits)
  held_behind at (Policy caller text ∷ bs) x behind fits = held_behind (at + record_len (Policy caller text)) bs x (omega arith) (fits_on at end (Policy caller text) bs fits)
  held_behind at (Fault breaking ∷ bs) x behind fits = held_behind (at + record_len (Fault breaking)) bs x (omega arith) (fits_on at end (Fault breaking) bs fits)

  module _ (all : List Body) (fits : 16 + sum_by record_len all ≤ end) where
    joined_behind : (parts : List Id) → joined file all parts ≡ joined other all parts
    joined_behind [] = refl
    joined_behind (x ∷ parts) = (λ i. held_behind 16 all x (omega arith) fits i ++ joined_behind parts i)

    one_behind : (b : Body) → HoldsParts other all b → HoldsParts file all b
    one_behind (Content x n) h = tt
    one_behind (Whole x n parts) h = ap sha256 (joined_behind parts) ∙ h
    one_behind (Change c) h = tt
    one_behind (Book move) h = tt
    one_behind (Land landing) h = tt
    one_behind (Policy caller text) h = tt
    one_behind (Fault breaking) h = tt

    pub each_behind : (bs : List Body) → AllByRecursion (HoldsParts other all) bs → AllByRecursion (HoldsParts file all) bs
    each_behind bs each = weaker (HoldsParts other all) (HoldsParts file all) one_behind bs each

-- ---- the copy of a file

-- what a file has between two places before the end of its front
in_front : (file front : List ℕ) (e n m : ℕ) → take e file ≡ front → n + m ≤ e → take m (drop n file) ≡ take m (drop n front)
in_front file front e n m is le = sym (drop-take n m file) ∙ ap (drop n) (sym (take-take (n + m) e file le) ∙ ap (take (n + m)) is) ∙ drop-take n m front

-- behind the header
behind : (header : Header) (body : List ℕ) (n : ℕ) → 16 ≤ n → drop n (header_bytes header ++ body) ≡ drop (n - 16) body
behind header body n le =
    let place : 16 + (n - 16) ≡ n = omega arith in
    ap (λ k. drop k (header_bytes header ++ body)) (sym place) ∙ sym (drop-drop (n - 16) 16 (header_bytes header ++ body))

module _ (header : Header) (file : List ℕ) (h : List Entry) (stands : Stands header file h) where
  abbrev end : ℕ
  end = size h - 1

  abbrev body : List ℕ
  body = records (shape_of header h file stands).payloads

  is_body : records_in (size h) file ≡ body
  is_body =
      let place : 16 + (size h - 17) ≡ size h - 1 = omega arith in
      sym (drop-take 16 (size h - 17) file) ∙ ap (λ k. drop 16 (take k file)) place ∙ ap (drop 16) (shape_of header h file stands).front

  body_len : 16 + length body ≡ end
  body_len =
      let long = (shape_of header h file stands).closed.long in
      let all = length-take-le end file (omega arith) in
      let front = ap (λ xs. length xs) (shape_of header h file stands).front in
      let parts = length-append (header_bytes header) body in
      let width : length (header_bytes header) ≡ 16 = refl in
      omega arith

  abbrev copy : List ℕ
  copy = copied header.capacity body

  copy_front : take end copy ≡ header_bytes (in_second header.capacity) ++ body
  copy_front =
      let front = header_bytes (in_second header.capacity) ++ body in
      let parts = length-append (header_bytes (in_second header.capacity)) body in
      let width : length (header_bytes (in_second header.capacity)) ≡ 16 = refl in
      let len : end ≡ length front = (let l = body_len in omega arith) in
      ap (take end) (sym (append_assoc (header_bytes (in_second header.capacity)) body (0 ∷ [])))
      ∙ take-append-le end front (0 ∷ []) (omega arith) ∙ ap (λ k. take k front) len ∙ take-length front

  alike : (n m : ℕ) → 16 ≤ n → n + m ≤ end → take m (drop n copy) ≡ take m (drop n file)
  alike n m le fits =
      in_front copy (header_bytes (in_second header.capacity) ++ body) end n m copy_front fits
      ∙ ap (take m) (behind (in_second header.capacity) body n le ∙ sym (behind header body n le))
      ∙ sym (in_front file (header_bytes header ++ body) end n m (shape_of header h file stands).front fits)

  pub copy_stands : Stands (in_second header.capacity) (copied header.capacity (records_in (size h) file)) h
  copy_stands =
      let shape = shape_of header h file stands in
      subst (λ xs. Stands (in_second header.capacity) (copied header.capacity xs) h) (sym is_body)
      (stands_for (in_second header.capacity) h shape.payloads 0 [] stands.0 shape.are (λ one. omega arith)
      (each_behind copy file end alike (bodies h) (omega arith) (bodies h) stands.4))

pub stays_legal : (capacity : ℕ) (v : Version) (h : List Entry) → IsLegal (record { capacity = capacity; version = v }) h → IsLegal (in_second capacity) h
stays_legal capacity First h legal = legal_too capacity h legal
stays_legal capacity Second h legal = legal

-- ---- a file that isn't finished

limit : (header : Header) → IsTrue (is_header header) → header.capacity < 2 ^ 64
limit header h = let le : header.capacity ≤ 34_359_738_368 = leb-true header.capacity 34_359_738_368 (and_parts (nat_le 4_096 header.capacity) (nat_le header.capacity 34_359_738_368) h).1 in omega arith

short_is_none : (image : List ℕ) → IsShort image → opens image ≡ Err NotARepository
short_is_none image short = (λ i. cond (lt-ltb (length image) 17 (omega arith) i) (Err NotARepository) (option_map_or (λ version. opens_with (record { capacity = from_be_bytes w64 (take 8 (drop 8 image)); version = version }) image) (version_in image) (Err NotARepository)))

-- the version of a mark
abbrev version_of : List ℕ → Option Version
version_of head = find (λ version. bytes_eq head (mark version)) (First ∷ Second ∷ [])

same_both : {X : Type 0} (b : Bool) (x : X) → cond b x x ≡ x
same_both true x = refl
same_both false x = refl

unmarked_is_none : (image : List ℕ) → IsUnmarked image → opens image ≡ Err NotARepository
unmarked_is_none image unmarked =
    let none : Result (List Entry) OpenFault = Err NotARepository in
    (λ i. cond (nat_lt (length image) 17) none (option_map_or (λ version. opens_with (record { capacity = from_be_bytes w64 (take 8 (drop 8 image)); version = version }) image) (ap version_of unmarked i) none))
    ∙ same_both (nat_lt (length image) 17) none

-- with other bytes in the mark's place
module _ (capacity : ℕ) (recs image : List ℕ) (small : capacity < 2 ^ 64) (same : drop 8 image ≡ drop 8 (copied capacity recs)) (header : Header) (h : List Entry) (stands : Stands header image h) where
  behind_mark : to_be_bytes w64 header.capacity ++ stands.1 ≡ to_be_bytes w64 capacity ++ (recs ++ 0 ∷ [])
  behind_mark = sym (ap (drop 8) stands.2) ∙ same

  pub capacity_is : header.capacity ≡ capacity
  capacity_is = sym (from_be_bytes-to_be_bytes_8 header.capacity (limit header stands.0)) ∙ ap (λ xs. from_be_bytes w64 (take 8 xs)) behind_mark ∙ from_be_bytes-to_be_bytes_8 capacity small

  rest_is : stands.1 ≡ recs ++ 0 ∷ []
  rest_is = ap (drop 8) behind_mark

  from_mark : (n : ℕ) → 8 ≤ n → drop n (copied capacity recs) ≡ drop n image
  from_mark n le =
      let place : 8 + (n - 8) ≡ n = omega arith in
      ap (λ k. drop k (copied capacity recs)) (sym place) ∙ sym (drop-drop (n - 8) 8 (copied capacity recs)) ∙ ap (drop (n - 8)) (sym same) ∙ drop-drop (n - 8) 8 image ∙ ap (λ k. drop k image) place

  pub finished_stands : Stands (in_second capacity) (copied capacity recs) h
  finished_stands = (
    subst (λ n. IsTrue (is_header (in_second n))) capacity_is stands.0,
    recs ++ 0 ∷ [],
    refl,
    subst (HoldsRecords (bodies h)) rest_is stands.3,
    each_behind (copied capacity recs) image (16 + sum_by record_len (bodies h)) (λ n m le fits. ap (take m) (from_mark n (omega arith))) (bodies h) (omega arith) (bodies h) stands.4,
  )

pub no_other : (capacity : ℕ) (recs image : List ℕ) → capacity < 2 ^ 64 → IsUnfinished (copied capacity recs) image
    → (opens image ≡ Err NotARepository) ⊎ ((header : Header) (h : List Entry) → Stands header image h → (header.capacity ≡ capacity) × Stands (in_second capacity) (copied capacity recs) h)
no_other capacity recs image small (inl short) = inl (short_is_none image short)
no_other capacity recs image small (inr (inl unmarked)) = inl (unmarked_is_none image unmarked)
no_other capacity recs image small (inr (inr same)) = inr (λ header h stands. (capacity_is capacity recs image small same header h stands, finished_stands capacity recs image small same header h stands))
