-- Contents that are joined again give the same whole, unless one of them has two contents.
use Rattle.std.proofs.Common.{◌≡◌, ◌≢◌, ◌⊎◌, ℕ, Bool, true, false, cond, ◌&&◌, List, [], ◌∷◌, length, inl, inr, refl, sym, ap, ◌∙◌}
use Rattle.std.specs.Prelude.{Option, None, Some, Contains, find, is_none, is_some, not, bytes_eq, ◌==◌, Result, Ok, Err}
use mathlib.Core.Bool.{true≢false}
use Rattle.std.specs.List.{concat, list_any}
use Rattle.std.specs.Option.{option_eq}
use Rattle.std.proofs.lemmas.Bool.{and_parts, eqb-true}
use Rattle.std.proofs.lemmas.Slice.Eq.{bytes_eq-Decides}
use Rattle.sha2.specs.Sha256.{sha256}
use Rattle.byte_fields.specs.Bytes.{Id, IsContent, are_bytes}
use Rattle.byte_fields.proofs.Lists.{contains_head, contains_tail}
use Rattle.changeset_model.specs.Version.{Version, Second, is_second}
use Rattle.history_model.specs.History.{Body, Whole, Entry, is_down, stored, content_len, is_whole_with}
use Rattle.history_model.specs.Journal.{Header, size, payload_len, is_full}
use Rattle.reply_model.specs.Reply.{PutWhole, ids_in, is_parts_len, parts_of, is_piece, are_pieces, judge, Refusal, Down, BadParts, OldFormat, NoPiece, NotAPiece, Full, Granted, WholePut, Judged, ◌>>=◌, refuse_if, refuse_some, unchanged, entered}
use Rattle.reply_model.proofs.Stored.{bodies-stored, content_len-stored}
use Rattle.reply_model.proofs.Opened.{parts_held}
use Rattle.follower_laws.specs.Again.{HaveTwo}

-- ---- two contents

piece_is : (h : List Entry) (x : Id) (piece : List ℕ) → is_piece h x piece ≡ true → (sha256 piece ≡ x) × (option_eq (λ n m. n == m) (content_len h x) (Some (length piece)) ≡ true)
piece_is h x piece p =
    let both = and_parts (are_bytes piece && bytes_eq (sha256 piece) x) (option_eq (λ n m. n == m) (content_len h x) (Some (length piece))) p in
    ((bytes_eq-Decides (sha256 piece) x).0 (and_parts (are_bytes piece) (bytes_eq (sha256 piece) x) both.0).1, both.1)

same_len : (o : Option ℕ) (n m : ℕ) → option_eq (λ n m. n == m) o (Some n) ≡ true → option_eq (λ n m. n == m) o (Some m) ≡ true → n ≡ m
same_len None n m a b = absurd (true≢false (sym a))
same_len (Some k) n m a b = sym (eqb-true k n a) ∙ eqb-true k m b

further : (x : Id) (xs : List Id) → HaveTwo xs → HaveTwo (x ∷ xs)
further x xs two = record { x = two.x; n = two.n; one = two.one; other = two.other; among = contains_tail x two.x xs two.among; one_is = two.one_is; other_is = two.other_is; differ = two.differ }

-- bytes that were read of the same contents are the same, or one of these has two contents
pub same_or_two : (h : List Entry) (xs : List Id) (ps qs : List (List ℕ)) → are_pieces h xs ps ≡ true → are_pieces h xs qs ≡ true → (ps ≡ qs) ⊎ HaveTwo xs
same_or_two h [] [] [] a b = inl refl
same_or_two h [] [] (q ∷ qs) a b = absurd (true≢false (sym b))
same_or_two h [] (p ∷ ps) qs a b = absurd (true≢false (sym a))
same_or_two h (x ∷ xs) [] qs a b = absurd (true≢false (sym a))
same_or_two h (x ∷ xs) (p ∷ ps) [] a b = absurd (true≢false (sym b))
same_or_two h (x ∷ xs) (p ∷ ps) (q ∷ qs) a b = by (bytes_eq p q) refl (same_or_two h xs ps qs left.1 right.1)
  where
    left : (is_piece h x p ≡ true) × (are_pieces h xs ps ≡ true)
    left = and_parts (is_piece h x p) (are_pieces h xs ps) a

    right : (is_piece h x q ≡ true) × (are_pieces h xs qs ≡ true)
    right = and_parts (is_piece h x q) (are_pieces h xs qs) b

    one : (sha256 p ≡ x) × (option_eq (λ n m. n == m) (content_len h x) (Some (length p)) ≡ true)
    one = piece_is h x p left.0

    other : (sha256 q ≡ x) × (option_eq (λ n m. n == m) (content_len h x) (Some (length q)) ≡ true)
    other = piece_is h x q right.0

    rest : p ≡ q → (ps ≡ qs) ⊎ HaveTwo xs → (◌≡◌ {A = List (List ℕ)} (p ∷ ps) (q ∷ qs)) ⊎ HaveTwo (x ∷ xs)
    rest e (inl same) = inl (λ i. e i ∷ same i)
    rest e (inr two) = inr (further x xs two)

    by : (t : Bool) → bytes_eq p q ≡ t → (ps ≡ qs) ⊎ HaveTwo xs → (◌≡◌ {A = List (List ℕ)} (p ∷ ps) (q ∷ qs)) ⊎ HaveTwo (x ∷ xs)
    by true e later = rest ((bytes_eq-Decides p q).0 e) later
    by false e later = inr (record {
      x = x;
      n = length p;
      one = p;
      other = q;
      among = contains_head x xs;
      one_is = (one.0, refl);
      other_is = (other.0, sym (same_len (content_len h x) (length p) (length q) one.1 other.1));
      differ = λ same. true≢false (sym ((bytes_eq-Decides p q).1 same) ∙ e);
    })

-- ---- what is joined

parts_of-stored : (header : Header) (h : List Entry) (body : List ℕ) → parts_of header (stored h) body ≡ parts_of header h body
parts_of-stored header h body =
    (λ i. refuse_if (not (is_parts_len (length body))) (BadParts (length body)) >>= λ _.
    refuse_if (not (is_second header.version)) OldFormat >>= λ _.
    refuse_some (find (λ x. is_none (content_len-stored h x i)) (ids_in body)) NoPiece >>= λ _.
    refuse_some (find (λ x. list_any (is_whole_with x) (bodies-stored h i)) (ids_in body)) NotAPiece >>= λ _.
    Ok (ids_in body))

-- the parts are those whatever the capacity
parts_by : (v : Version) (r : (v : Version) → Result (List Id) Refusal) (own : Version) → own ≡ v → r v ≡ r own
parts_by v r own e = ap r (sym e)

joined_ok : (down : Bool) (r : Result (List Id) Refusal) (f : List Id → Result Judged Refusal) (judged : Judged) → (refuse_if down Down >>= λ _. (r >>= f)) ≡ Ok judged → (xs : List Id) × (r ≡ Ok xs)
joined_ok true r f judged e = absurd cc
joined_ok false (Ok xs) f judged e = (xs, refl)
joined_ok false (Err refusal) f judged e = absurd cc

-- what is granted of a whole, its contents are known, one after another
pub parts_granted : (header : Header) (h : List Entry) (given : List ℕ) (pieces : List (List ℕ)) (judged : Judged) → judge header h (PutWhole given pieces) ≡ Ok judged → parts_of header h given ≡ Ok (ids_in given)
parts_granted header h given pieces judged e =
    let found = joined_ok (is_down h) (parts_of header h given) _ judged e in
    found.1 ∙ ap (λ (xs : List Id). Ok xs) (sym (parts_held header h given found.0 found.1).0)

pub parts_elsewhere : (capacity : ℕ) (own : Header) (h : List Entry) (given : List ℕ) (xs : List Id) → own.version ≡ Second → parts_of (record { capacity = capacity; version = Second }) (stored h) given ≡ Ok xs → parts_of own h given ≡ Ok xs
parts_elsewhere capacity own h given xs second e =
    sym (parts_of-stored own h given)
    ∙ parts_by own.version (λ v. parts_of (record { capacity = capacity; version = v }) (stored h) given) Second (sym second)
    ∙ e

-- ---- the whole

abbrev of_pieces : Header → List Entry → List Id → List ℕ → Result Judged Refusal
of_pieces header h parts bytes = cond (is_some (content_len h (sha256 bytes))) (unchanged (WholePut (sha256 bytes) (length bytes))) (entered header h (WholePut (sha256 bytes) (length bytes)) (Whole (sha256 bytes) (length bytes) parts))

whole_is : (header : Header) (h : List Entry) (given : List ℕ) (pieces : List (List ℕ)) (parts : List Id) → is_down h ≡ false → parts_of header h given ≡ Ok parts → judge header h (PutWhole given pieces) ≡ of_pieces header h parts (concat pieces)
whole_is header h given pieces parts up e =
    (λ i. refuse_if (up i) Down >>= λ _. parts_of header h given >>= λ parts. of_pieces header h parts (concat pieces))
    ∙ (λ i. e i >>= λ parts. of_pieces header h parts (concat pieces))

abbrev enters_by : List Entry → Granted → Body → Bool → Result Judged Refusal
enters_by h granted body full = refuse_if full (Full (size h) (payload_len body)) >>= λ _. Ok (record { granted = granted; made = Some body })

entered_or_full : (header : Header) (h : List Entry) (granted : Granted) (body : Body) (refusal : Refusal) (full : Bool) → enters_by h granted body full ≡ Err refusal → refusal ≡ Full (size h) (payload_len body)
entered_or_full header h granted body refusal true e = cc
entered_or_full header h granted body refusal false e = absurd cc

of_pieces_full : (header : Header) (h : List Entry) (granted : Granted) (body : Body) (refusal : Refusal) (known : Bool) → cond known (unchanged granted) (entered header h granted body) ≡ Err refusal → refusal ≡ Full (size h) (payload_len body)
of_pieces_full header h granted body refusal true e = absurd cc
of_pieces_full header h granted body refusal false e = entered_or_full header h granted body refusal (is_full header h (payload_len body)) e

-- where the contents may be joined, want of room is the one refusal
pub whole_full : (header : Header) (h : List Entry) (given : List ℕ) (pieces : List (List ℕ)) (parts : List Id) (refusal : Refusal) → is_down h ≡ false → parts_of header h given ≡ Ok parts → judge header h (PutWhole given pieces) ≡ Err refusal → (size length : ℕ) × (refusal ≡ Full size length)
whole_full header h given pieces parts refusal up e refused =
    let bytes = concat pieces in
    let granted = WholePut (sha256 bytes) (length bytes) in
    let body = Whole (sha256 bytes) (length bytes) parts in
    (size h, payload_len body, of_pieces_full header h granted body refusal (is_some (content_len h (sha256 bytes))) (sym (whole_is header h given pieces parts up e) ∙ refused))
