-- Bytes of the contents of a legal history: each was uploaded.
--     some_pieces      so there are some with which contents may be joined
use Rattle.std.proofs.Common.{◌≡◌, ℕ, Bool, true, false, cond, ◌&&◌, ◌||◌, List, [], ◌∷◌, ◌++◌, length, refl, sym, ap, subst, ◌∙◌}
use Rattle.std.specs.Prelude.{Option, None, Some, bytes_eq, ◌==◌, Result, Ok, Err}
use mathlib.Core.Bool.{true≢false}
use Rattle.std.specs.List.{AllByRecursion, list_any}
use Rattle.std.specs.Option.{option_or, option_eq}
use Rattle.std.proofs.lemmas.Bool.{and_from, eq-eqb}
use Rattle.std.proofs.lemmas.List.{append_assoc, append-nil}
use Rattle.std.proofs.lemmas.Slice.Eq.{bytes_eq-Decides}
use Rattle.sha2.specs.Sha256.{sha256}
use Rattle.byte_fields.specs.Bytes.{Id, are_bytes, first_some}
use Rattle.byte_fields.proofs.Booleans.{same_some}
use Rattle.byte_fields.proofs.Lists.{all_push}
use Rattle.history_model.specs.History.{Body, Content, Whole, Change, Book, Land, Policy, Fault, Entry, is_stored, bodies, length_in, content_len, is_whole_with, is_whole}
use Rattle.history_model.specs.Journal.{Header, is_content_with}
use Rattle.reply_model.specs.Reply as reply
use Rattle.reply_model.specs.Reply.{Ask, PutContent, PutWhole, PutChangeset, SetBookmark, LandDraft, SetPolicy, is_ask, is_piece, are_pieces, ids_in, parts_of}
use Rattle.reply_model.specs.After.{IsJoining}
use Rattle.reply_model.specs.Legal.{MayFollow, GoesOn, IsLegal}
use Rattle.reply_model.proofs.Histories.{bodies-append}
use Rattle.reply_model.proofs.Opened.{AreHeld, parts_held, none_whole}
use Rattle.opening_laws.proofs.Made.{MadeBy, is_made}
use Rattle.opening_laws.proofs.Pieces.{content_len_is}

pub record AreBytesOf (x : Id) (n : ℕ) : Type 0 where
  pub bytes : List ℕ
  pub are : are_bytes bytes ≡ true
  pub id_is : sha256 bytes ≡ x
  pub length_is : length bytes ≡ n

-- ---- each content was uploaded

abbrev WasUploaded : Body → Type 0
WasUploaded (Content x n) = AreBytesOf x n
WasUploaded (Whole x n parts) = Unit {0}
WasUploaded (Change c) = Unit {0}
WasUploaded (Book move) = Unit {0}
WasUploaded (Land landing) = Unit {0}
WasUploaded (Policy caller text) = Unit {0}
WasUploaded (Fault breaking) = Unit {0}

uploaded_made : (h : List Entry) (ask : Ask) (b : Body) → is_ask h ask ≡ true → MadeBy h ask b → WasUploaded b
uploaded_made h (PutContent bytes) b asked m = subst WasUploaded (sym m.1) (record { bytes = bytes; are = asked; id_is = refl; length_is = refl })
uploaded_made h (PutWhole body pieces) b asked m = subst WasUploaded (sym m.3) tt
uploaded_made h (PutChangeset bytes) b asked m = subst WasUploaded (sym m.3) tt
uploaded_made h (SetBookmark caller name from to) b asked m = subst WasUploaded (sym m.0) tt
uploaded_made h (SetPolicy caller text) b asked m = subst WasUploaded (sym m.0) tt
uploaded_made h (LandDraft caller name draft moment) b asked m = subst WasUploaded (sym m.8) tt

abbrev WereUploaded : List Entry → Type 0
WereUploaded h = AllByRecursion WasUploaded (bodies h)

uploaded_by : (header : Header) (before : List Entry) (e : Entry) → WereUploaded before → MayFollow header before e.body → (s : Bool) → is_stored e.body ≡ s → AllByRecursion WasUploaded (bodies before ++ cond s (e.body ∷ []) [])
uploaded_by header before e all m true s =
    let made = is_made header before e.body s m in
    all_push WasUploaded (bodies before) e.body all (uploaded_made before made.ask e.body made.asked made.made)
uploaded_by header before e all m false s = subst (AllByRecursion WasUploaded) (sym (append-nil (bodies before))) all

uploaded_from : (header : Header) (before later : List Entry) → WereUploaded before → GoesOn header before later → WereUploaded (before ++ later)
uploaded_from header before [] all goes = subst WereUploaded (sym (append-nil before)) all
uploaded_from header before (e ∷ later) all goes =
    subst WereUploaded (append_assoc before (e ∷ []) later)
    (uploaded_from header (before ++ e ∷ []) later (subst (AllByRecursion WasUploaded) (sym (bodies-append before (e ∷ []))) (uploaded_by header before e all goes.0 (is_stored e.body) refl)) goes.1)

-- ---- the bytes of one content

here_or_later : (b : Bool) (x y : Id) (m n : ℕ) (o : Option ℕ) → (b ≡ true → x ≡ y) → AreBytesOf y m → (o ≡ Some n → AreBytesOf x n) → option_or (cond b (Some m) None) o ≡ Some n → AreBytesOf x n
here_or_later true x y m n o same bytes later e = subst (λ z. AreBytesOf z n) (sym (same refl)) (subst (AreBytesOf y) (same_some m n e) bytes)
here_or_later false x y m n o same bytes later e = later e

past_whole : (b rest : Bool) (x : Id) (m n : ℕ) (o : Option ℕ) → (rest ≡ false → o ≡ Some n → AreBytesOf x n) → (b || rest) ≡ false → option_or (cond b (Some m) None) o ≡ Some n → AreBytesOf x n
past_whole true rest x m n o later none e = absurd (true≢false none)
past_whole false rest x m n o later none e = later none e

bytes_among : (x : Id) (bs : List Body) → AllByRecursion WasUploaded bs → list_any (is_whole_with x) bs ≡ false → (n : ℕ) → first_some (length_in x) bs ≡ Some n → AreBytesOf x n
bytes_among x [] all none n e = absurd cc
bytes_among x (Content y m ∷ bs) all none n e = here_or_later (bytes_eq x y) x y m n (first_some (length_in x) bs) (λ same. (bytes_eq-Decides x y).0 same) all.0 (bytes_among x bs all.1 none n) e
bytes_among x (Whole y m parts ∷ bs) all none n e = past_whole (bytes_eq x y) (list_any (is_whole_with x) bs) x m n (first_some (length_in x) bs) (λ none e. bytes_among x bs all.1 none n e) none e
bytes_among x (Change c ∷ bs) all none n e = bytes_among x bs all.1 none n e
bytes_among x (Book move ∷ bs) all none n e = bytes_among x bs all.1 none n e
bytes_among x (Land landing ∷ bs) all none n e = bytes_among x bs all.1 none n e
bytes_among x (Policy caller text ∷ bs) all none n e = bytes_among x bs all.1 none n e
bytes_among x (Fault breaking ∷ bs) all none n e = bytes_among x bs all.1 none n e

length_here : (b : Bool) (n : ℕ) (o : Option ℕ) (rest : Bool) → (rest ≡ true → (m : ℕ) × (o ≡ Some m)) → (b || rest) ≡ true → (m : ℕ) × (option_or (cond b (Some n) None) o ≡ Some m)
length_here true n o rest later some = (n, refl)
length_here false n o rest later some = later some

length_either : (b : Bool) (n : ℕ) (o : Option ℕ) → (m : ℕ) × (o ≡ Some m) → (m : ℕ) × (option_or (cond b (Some n) None) o ≡ Some m)
length_either true n o later = (n, refl)
length_either false n o later = later

pub length_among : (x : Id) (bs : List Body) → list_any (is_content_with x) bs ≡ true → (n : ℕ) × (first_some (length_in x) bs ≡ Some n)
length_among x [] some = absurd (true≢false (sym some))
length_among x (Content y n ∷ bs) some = length_here (bytes_eq x y) n (first_some (length_in x) bs) (list_any (is_content_with x) bs) (length_among x bs) some
length_among x (Whole y n parts ∷ bs) some = length_either (bytes_eq x y) n (first_some (length_in x) bs) (length_among x bs some)
length_among x (Change c ∷ bs) some = length_among x bs some
length_among x (Book move ∷ bs) some = length_among x bs some
length_among x (Land landing ∷ bs) some = length_among x bs some
length_among x (Policy caller text ∷ bs) some = length_among x bs some
length_among x (Fault breaking ∷ bs) some = length_among x bs some

-- ---- pieces

some_piece : (h : List Entry) → WereUploaded h → (x : Id) → list_any (is_content_with x) (bodies h) ≡ true → is_whole h x ≡ false → (piece : List ℕ) × (is_piece h x piece ≡ true)
some_piece h all x held none =
    let found = length_among x (bodies h) held in
    let of = bytes_among x (bodies h) all none found.0 found.1 in
    let long : content_len h x ≡ Some (length of.bytes) = content_len_is h x ∙ found.1 ∙ ap (λ n. Some n) (sym of.length_is) in (
      of.bytes,
      and_from _ _ (and_from _ _ of.are ((bytes_eq-Decides (sha256 of.bytes) x).1 of.id_is)) (ap (λ o. option_eq (λ n m. n == m) o (Some (length of.bytes))) long ∙ eq-eqb (length of.bytes) (length of.bytes) refl),
    )

all_pieces : (h : List Entry) → WereUploaded h → (xs : List Id) → AreHeld (bodies h) xs → AllByRecursion (λ x. is_whole h x ≡ false) xs → (pieces : List (List ℕ)) × (are_pieces h xs pieces ≡ true)
all_pieces h all [] held none = ([], refl)
all_pieces h all (x ∷ xs) held none =
    let one = some_piece h all x held.0 none.0 in
    let rest = all_pieces h all xs held.1 none.1 in
    (one.0 ∷ rest.0, (λ i. one.1 i && rest.1 i))

pub some_pieces : (header : Header) (h : List Entry) → IsLegal header h → (body : List ℕ) → (pieces : List (List ℕ)) × IsJoining (parts_of header h body) h pieces
some_pieces header h legal body = by (parts_of header h body) refl
  where
    by : (p : Result (List Id) reply.Refusal) → parts_of header h body ≡ p → (pieces : List (List ℕ)) × IsJoining p h pieces
    by (Ok parts) is =
        let held = parts_held header h body parts is in
        all_pieces h (uploaded_from header [] h tt legal) parts held.1 (subst (AllByRecursion (λ x. is_whole h x ≡ false)) held.0 (none_whole header h body parts is))
    by (Err e) is = ([], tt)
