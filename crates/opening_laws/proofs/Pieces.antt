-- The pieces of a whole: ids in a row, and bytes of their contents.
use Rattle.std.proofs.Common.{◌≡◌, ℕ, zero, suc, ◌*◌, ◌/◌, ◌%◌, ◌<◌, ◌≤◌, ◌^◌, Bool, true, false, cond, ◌&&◌, ◌||◌, List, [], ◌∷◌, ◌++◌, map, length, take, drop, refl, sym, ap, subst, ◌∙◌, arith, length-append}
use Rattle.std.specs.Prelude.{Option, None, Some, nat_le, ◌==◌, bytes_eq}
use mathlib.Core.Bool.{true≢false}
use Rattle.std.specs.List.{AllByRecursion, list_any, concat}
use Rattle.std.specs.Option.{option_eq, option_or}
use Rattle.std.proofs.lemmas.Bool.{and_parts, and_from, eq-eqb, eqb-true, leb-true}
use Rattle.std.proofs.lemmas.List.{append_assoc, append-nil, take-append-drop, length-take, length-drop}
use Rattle.sha2.specs.Sha256.{sha256}
use Rattle.byte_fields.specs.Bytes.{Id, are_bytes, is_bytes, first_some}
use Rattle.byte_fields.proofs.FieldLemmas.{all_bytes}
use Rattle.byte_fields.proofs.Lists.{all_push}
use Rattle.changeset_model.specs.Changeset.{most_content}
use Rattle.changeset_model.proofs.Accepting.{IsBytes-drop, IsBytes-take}
use Rattle.history_model.specs.History.{Body, Content, Whole, Change, Book, Land, Policy, Fault, Entry, is_stored, unnumbered, bodies, length_in, content_len, is_whole, is_whole_with}
use Rattle.history_model.specs.Journal.{Header}
use Rattle.reply_model.specs.Reply.{Ask, PutContent, PutWhole, PutChangeset, SetBookmark, LandDraft, split_ids, ids_in, is_parts_len, is_piece, are_pieces, SetPolicy}
use Rattle.reply_model.specs.Legal.{MayFollow, GoesOn, IsLegal}
use Rattle.reply_model.proofs.Histories.{bodies-append}
use Rattle.reply_model.proofs.Stored.{content_len-stored}
use Rattle.byte_fields.proofs.Booleans.{same_some}
use Rattle.opening_laws.proofs.Lists.{are_IsBytes}
use Rattle.opening_laws.proofs.Made.{MadeBy, is_made}

-- ---- ids in a row

split_len : (n : ℕ) (bytes : List ℕ) → length (split_ids n bytes) ≡ n
split_len zero bytes = refl
split_len (suc n) bytes = ap suc (split_len n (drop 32 bytes))

split_good : (n : ℕ) (bytes : List ℕ) → are_bytes bytes ≡ true → 32 * n ≤ length bytes → AllByRecursion (λ x. is_bytes 32 x ≡ true) (split_ids n bytes)
split_good zero bytes fits long = tt
split_good (suc n) bytes fits long =
    let all = are_IsBytes bytes fits in
    let front = length-take 32 bytes in
    let back = length-drop 32 bytes in
    let len : length (take 32 bytes) ≡ 32 = omega arith in
    (and_from _ _ (eq-eqb (length (take 32 bytes)) 32 len) (all_bytes (take 32 bytes) (IsBytes-take 32 bytes all)), split_good n (drop 32 bytes) (all_bytes (drop 32 bytes) (IsBytes-drop 32 bytes all)) (omega arith))

no_bytes : (bytes : List ℕ) → length bytes ≡ 0 → [] ≡ bytes
no_bytes [] e = refl
no_bytes (b ∷ bytes) e = absurd (omega arith)

split_back : (n : ℕ) (bytes : List ℕ) → length bytes ≡ 32 * n → concat (split_ids n bytes) ≡ bytes
split_back zero bytes len = no_bytes bytes (omega arith)
split_back (suc n) bytes len =
    let back = length-drop 32 bytes in
    ap (λ (t : List ℕ). take 32 bytes ++ t) (split_back n (drop 32 bytes) (omega arith)) ∙ take-append-drop 32 bytes

pub record AreIds (body : List ℕ) : Type 0 where
  pub few : length (ids_in body) ≤ 64
  pub each : AllByRecursion (λ x. is_bytes 32 x ≡ true) (ids_in body)
  pub back : concat (ids_in body) ≡ body

pub ids_good : (body : List ℕ) → are_bytes body ≡ true → is_parts_len (length body) ≡ true → AreIds body
ids_good body fits parts =
    let most = and_parts ((length body % 32 == 0) && nat_le 32 (length body)) (nat_le (length body) 2048) parts in
    let none = and_parts (length body % 32 == 0) (nat_le 32 (length body)) most.0 in
    let whole : length body % 32 ≡ 0 = eqb-true (length body % 32) 0 none.0 in
    let le : length body ≤ 2048 = leb-true (length body) 2048 most.1 in
    let len : length body ≡ 32 * (length body / 32) = omega arith in
    let count = split_len (length body / 32) body in
    record {
      few = omega arith;
      each = split_good (length body / 32) body fits (omega arith);
      back = split_back (length body / 32) body len;
    }

-- ---- contents are small

abbrev IsSmall : Body → Type 0
IsSmall (Content x n) = n ≤ most_content
IsSmall (Whole x n parts) = Unit {0}
IsSmall (Change c) = Unit {0}
IsSmall (Book move) = Unit {0}
IsSmall (Land landing) = Unit {0}
IsSmall (Policy caller text) = Unit {0}
IsSmall (Fault breaking) = Unit {0}

small_made : (h : List Entry) (ask : Ask) (b : Body) → MadeBy h ask b → IsSmall b
small_made h (PutContent bytes) b m = subst IsSmall (sym m.1) m.0
small_made h (PutWhole body pieces) b m = subst IsSmall (sym m.3) tt
small_made h (PutChangeset bytes) b m = subst IsSmall (sym m.3) tt
small_made h (SetBookmark caller name from to) b m = subst IsSmall (sym m.0) tt
small_made h (SetPolicy caller text) b m = subst IsSmall (sym m.0) tt
small_made h (LandDraft caller name draft moment) b m = subst IsSmall (sym m.8) tt

abbrev AreSmall : List Entry → Type 0
AreSmall h = AllByRecursion IsSmall (bodies h)

small_by : (header : Header) (before : List Entry) (e : Entry) → AreSmall before → MayFollow header before e.body → (s : Bool) → is_stored e.body ≡ s → AllByRecursion IsSmall (bodies before ++ cond s (e.body ∷ []) [])
small_by header before e small m true s =
    let made = is_made header before e.body s m in
    all_push IsSmall (bodies before) e.body small (small_made before made.ask e.body made.made)
small_by header before e small m false s = subst (AllByRecursion IsSmall) (sym (append-nil (bodies before))) small

small_on_from : (header : Header) (before later : List Entry) → AreSmall before → GoesOn header before later → AreSmall (before ++ later)
small_on_from header before [] small goes = subst AreSmall (sym (append-nil before)) small
small_on_from header before (e ∷ later) small goes =
    subst AreSmall (append_assoc before (e ∷ []) later)
    (small_on_from header (before ++ e ∷ []) later (subst (AllByRecursion IsSmall) (sym (bodies-append before (e ∷ []))) (small_by header before e small goes.0 (is_stored e.body) refl)) goes.1)

all_small : (header : Header) (h : List Entry) → IsLegal header h → AreSmall h
all_small header h legal = small_on_from header [] h tt legal

found_among : (x : Id) (bs : List Body) → first_some (λ e. length_in x e.body) (map unnumbered bs) ≡ first_some (length_in x) bs
found_among x [] = refl
found_among x (b ∷ bs) = ap (option_or (length_in x b)) (found_among x bs)

pub content_len_is : (h : List Entry) (x : Id) → content_len h x ≡ first_some (length_in x) (bodies h)
content_len_is h x = sym (content_len-stored h x) ∙ found_among x (bodies h)

small_here : (t : Bool) (m n : ℕ) (o : Option ℕ) → m ≤ most_content → (o ≡ Some n → n ≤ most_content) → option_or (cond t (Some m) None) o ≡ Some n → n ≤ most_content
small_here true m n o small later e = subst (λ k. k ≤ most_content) (same_some m n e) small
small_here false m n o small later e = later e

small_past : (t : Bool) (m n : ℕ) (o : Option ℕ) (rest : Bool) → (rest ≡ false → o ≡ Some n → n ≤ most_content) → (t || rest) ≡ false → option_or (cond t (Some m) None) o ≡ Some n → n ≤ most_content
small_past true m n o rest later none e = absurd (true≢false none)
small_past false m n o rest later none e = later none e

small_found : (x : Id) (bs : List Body) → AllByRecursion IsSmall bs → list_any (is_whole_with x) bs ≡ false → (n : ℕ) → first_some (length_in x) bs ≡ Some n → n ≤ most_content
small_found x [] small none n e = absurd cc
small_found x (Content y m ∷ bs) small none n e = small_here (bytes_eq x y) m n (first_some (length_in x) bs) small.0 (small_found x bs small.1 none n) e
small_found x (Whole y m parts ∷ bs) small none n e = small_past (bytes_eq x y) m n (first_some (length_in x) bs) (list_any (is_whole_with x) bs) (λ none e. small_found x bs small.1 none n e) none e
small_found x (Change c ∷ bs) small none n e = small_found x bs small.1 none n e
small_found x (Book move ∷ bs) small none n e = small_found x bs small.1 none n e
small_found x (Land landing ∷ bs) small none n e = small_found x bs small.1 none n e
small_found x (Policy caller text ∷ bs) small none n e = small_found x bs small.1 none n e
small_found x (Fault breaking ∷ bs) small none n e = small_found x bs small.1 none n e

-- ---- pieces

option_is : (o : Option ℕ) (n : ℕ) → option_eq (λ n m. n == m) o (Some n) ≡ true → o ≡ Some n
option_is None n h = absurd (true≢false (sym h))
option_is (Some m) n h = ap (λ k. Some k) (eqb-true m n h)

piece_len : (h : List Entry) (x : Id) (piece : List ℕ) → is_piece h x piece ≡ true → content_len h x ≡ Some (length piece)
piece_len h x piece p = option_is (content_len h x) (length piece) (and_parts (are_bytes piece && bytes_eq (sha256 piece) x) (option_eq (λ n m. n == m) (content_len h x) (Some (length piece))) p).1

total : (h : List Entry) → AreSmall h → (xs : List Id) (pieces : List (List ℕ)) → are_pieces h xs pieces ≡ true → AllByRecursion (λ x. is_whole h x ≡ false) xs → length (concat pieces) ≤ 1_048_576 * length xs
total h small [] [] p none = omega arith
total h small [] (piece ∷ pieces) p none = absurd (true≢false (sym p))
total h small (x ∷ xs) [] p none = absurd (true≢false (sym p))
total h small (x ∷ xs) (piece ∷ pieces) p none =
    let both = and_parts (is_piece h x piece) (are_pieces h xs pieces) p in
    let one : length piece ≤ 1_048_576 = small_found x (bodies h) small none.0 (length piece) (sym (content_len_is h x) ∙ piece_len h x piece both.0) in
    let rest = total h small xs pieces both.1 none.1 in
    let sum = length-append piece (concat pieces) in
    omega arith

pub pieces_fit : (header : Header) (h : List Entry) (xs : List Id) (pieces : List (List ℕ)) → IsLegal header h → are_pieces h xs pieces ≡ true → AllByRecursion (λ x. is_whole h x ≡ false) xs → length xs ≤ 64 → length (concat pieces) < 2 ^ 64
pieces_fit header h xs pieces legal p none few = let most = total h (all_small header h legal) xs pieces p none in omega arith

pub same_total : (h : List Entry) (xs : List Id) (ps qs : List (List ℕ)) → are_pieces h xs ps ≡ true → are_pieces h xs qs ≡ true → length (concat ps) ≡ length (concat qs)
same_total h [] [] [] a b = refl
same_total h [] [] (q ∷ qs) a b = absurd (true≢false (sym b))
same_total h [] (p ∷ ps) qs a b = absurd (true≢false (sym a))
same_total h (x ∷ xs) [] qs a b = absurd (true≢false (sym a))
same_total h (x ∷ xs) (p ∷ ps) [] a b = absurd (true≢false (sym b))
same_total h (x ∷ xs) (p ∷ ps) (q ∷ qs) a b =
    let left = and_parts (is_piece h x p) (are_pieces h xs ps) a in
    let right = and_parts (is_piece h x q) (are_pieces h xs qs) b in
    let one : length p ≡ length q = same_some (length p) (length q) (sym (piece_len h x p left.0) ∙ piece_len h x q right.0) in
    let rest = same_total h xs ps qs left.1 right.1 in
    let u = length-append p (concat ps) in
    let v = length-append q (concat qs) in
    omega arith
