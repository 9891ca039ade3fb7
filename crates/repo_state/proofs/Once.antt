-- Each content and each whole is entered once.
use Rattle.std.proofs.Common.{◌≡◌, ℕ, Bool, true, false, cond, List, [], ◌∷◌, ◌++◌, length, refl, sym, ap, subst, ◌∙◌, append-nil, append_assoc}
use Rattle.std.specs.Prelude.{Option, None, Some, Result, Ok, Err, bytes_eq, is_some, nat_lt}
use mathlib.Core.Bool.{true≢false}
use Rattle.std.specs.List.{AllByRecursion, concat}
use Rattle.std.specs.Option.{option_or}
use Rattle.std.proofs.lemmas.Bool.{and_parts}
use Rattle.std.proofs.lemmas.Slice.Eq.{bytes_eq-Decides}
use Rattle.sha2.specs.Sha256.{sha256}
use Rattle.byte_fields.specs.Bytes.{Id, are_bytes, first_some}
use Rattle.byte_fields.proofs.Lists.{first_some-append}
use Rattle.changeset_model.specs.Changeset.{most_content}
use Rattle.history_model.specs.History.{Body, Content, Whole, Change, Book, Land, Policy, Fault, Entry, is_down, content_len, length_in}
use Rattle.history_model.specs.Journal.{Header, payload_len, is_full, size}
use Rattle.opening_laws.proofs.Made.{MadeBy, is_made}
use Rattle.reply_model.proofs.Parents.{same_id}
use Rattle.reply_model.specs.Legal.{MayFollow, GoesOn, IsLegal}
use Rattle.reply_model.specs.Reply.{Ask, PutContent, PutWhole, PutChangeset, SetBookmark, LandDraft, SetPolicy, Refusal, Judged, Granted, ContentPut, WholePut, ◌>>=◌, is_ask, are_pieces, ids_in, judge, unchanged, entered, refuse_if, Full, Down, TooLong, parts_of}

-- ---- what an entry is made of

abbrev SaidOf : (Judged → Type 0) → Result Judged Refusal → Type 0
SaidOf P (Ok judged) = P judged
SaidOf P (Err refusal) = Unit {0}

record Says (P : Judged → Type 0) (r : Result Judged Refusal) : Type 0 where
  said : SaidOf P r

through : {A : Type 0} (P : Judged → Type 0) (r : Result A Refusal) (f : A → Result Judged Refusal) → ((x : A) → Says P (f x)) → Says P (r >>= f)
through P (Ok x) f all = all x
through P (Err e) f all = record { said = tt }

-- an entry is made only where nothing is stored under the id
abbrev MakesNew : List Entry → Id → Judged → Type 0
MakesNew h x judged = (body : Body) → judged.made ≡ Some body → content_len h x ≡ None

was_none : (o : Option ℕ) → is_some o ≡ false → o ≡ None
was_none None e = refl
was_none (Some n) e = absurd (true≢false e)

either : (h : List Entry) (x : Id) (t : Bool) (header : Header) (granted : Granted) (body : Body) → is_some (content_len h x) ≡ t → Says (MakesNew h x) (cond t (unchanged granted) (entered header h granted body))
either h x true header granted body e = record { said = λ made one. absurd cc }
either h x false header granted body e =
    through (MakesNew h x) (refuse_if (is_full header h (payload_len body)) (Full (size h) (payload_len body))) (λ _. Ok (record { granted = granted; made = Some body }))
    (λ _. record { said = λ made one. was_none (content_len h x) e })

judge_new : (header : Header) (h : List Entry) (bytes : List ℕ) → SaidOf (MakesNew h (sha256 bytes)) (judge header h (PutContent bytes))
judge_new header h bytes =
    let P = MakesNew h (sha256 bytes) in
    (through P (refuse_if (is_down h) Down) _ (λ _. through P (refuse_if (nat_lt most_content (length bytes)) (TooLong (length bytes))) _ (λ _. either h (sha256 bytes) (is_some (content_len h (sha256 bytes))) header (ContentPut (sha256 bytes)) (Content (sha256 bytes) (length bytes)) refl))).said

join_new : (header : Header) (h : List Entry) (body : List ℕ) (pieces : List (List ℕ)) → SaidOf (MakesNew h (sha256 (concat pieces))) (judge header h (PutWhole body pieces))
join_new header h body pieces =
    let x = sha256 (concat pieces) in
    let n = length (concat pieces) in
    let P = MakesNew h x in
    (through P (refuse_if (is_down h) Down) _ (λ _. through P (parts_of header h body) _ (λ parts. either h x (is_some (content_len h x)) header (WholePut x n) (Whole x n parts) refl))).said

-- what is so of an entry that stores something under an id
pub record IsWholeMade (h : List Entry) (n : ℕ) (parts : List Id) : Type 0 where
  pub pieces : List (List ℕ)
  pub are : are_pieces h parts pieces ≡ true
  pub length_is : n ≡ length (concat pieces)

abbrev pub IsNext : List Entry → Body → Type 0
IsNext h (Content x n) = content_len h x ≡ None
IsNext h (Whole x n parts) = (content_len h x ≡ None) × IsWholeMade h n parts
IsNext h (Change c) = Unit {0}
IsNext h (Book move) = Unit {0}
IsNext h (Land landing) = Unit {0}
IsNext h (Policy caller text) = Unit {0}
IsNext h (Fault breaking) = Unit {0}

next_content : (header : Header) (h : List Entry) (x : Id) (n : ℕ) (granted : Granted) (ask : Ask) → judge header h ask ≡ Ok (record { granted = granted; made = Some (Content x n) }) → MadeBy h ask (Content x n) → content_len h x ≡ None
next_content header h x n granted (PutContent bytes) judged made =
    let none = subst (SaidOf (MakesNew h (sha256 bytes))) judged (judge_new header h bytes) (Content x n) refl in
    let same : x ≡ sha256 bytes = (let e = made.1 in cc) in
    ap (content_len h) same ∙ none
next_content header h x n granted (PutWhole body pieces) judged made = absurd (let e = made.3 in cc)
next_content header h x n granted (PutChangeset bytes) judged made = absurd (let e = made.3 in cc)
next_content header h x n granted (SetBookmark caller name from to) judged made = absurd (let e = made.0 in cc)
next_content header h x n granted (LandDraft caller name draft moment) judged made = absurd (let e = made.8 in cc)
next_content header h x n granted (SetPolicy caller text) judged made = absurd (let e = made.0 in cc)

next_whole : (header : Header) (h : List Entry) (x : Id) (n : ℕ) (parts : List Id) (granted : Granted) (ask : Ask) → is_ask h ask ≡ true → judge header h ask ≡ Ok (record { granted = granted; made = Some (Whole x n parts) }) → MadeBy h ask (Whole x n parts) → (content_len h x ≡ None) × IsWholeMade h n parts
next_whole header h x n parts granted (PutContent bytes) asked judged made = absurd (let e = made.1 in cc)
next_whole header h x n parts granted (PutWhole body pieces) asked judged made =
    let none = subst (SaidOf (MakesNew h (sha256 (concat pieces)))) judged (join_new header h body pieces) (Whole x n parts) refl in
    let same : x ≡ sha256 (concat pieces) = (let e = made.3 in cc) in
    let long : n ≡ length (concat pieces) = (let e = made.3 in cc) in
    let ids : parts ≡ ids_in body = (let e = made.3 in cc) in (
      ap (content_len h) same ∙ none,
      record {
        pieces = pieces;
        are = ap (λ xs. are_pieces h xs pieces) ids ∙ (and_parts (are_bytes body) (are_pieces h (ids_in body) pieces) asked).1;
        length_is = long;
      },
    )
next_whole header h x n parts granted (PutChangeset bytes) asked judged made = absurd (let e = made.3 in cc)
next_whole header h x n parts granted (SetBookmark caller name from to) asked judged made = absurd (let e = made.0 in cc)
next_whole header h x n parts granted (LandDraft caller name draft moment) asked judged made = absurd (let e = made.8 in cc)
next_whole header h x n parts granted (SetPolicy caller text) asked judged made = absurd (let e = made.0 in cc)

pub is_next : (header : Header) (h : List Entry) (body : Body) → MayFollow header h body → IsNext h body
is_next header h (Content x n) m = let made = is_made header h (Content x n) refl m in next_content header h x n made.granted made.ask made.judged made.made
is_next header h (Whole x n parts) m = let made = is_made header h (Whole x n parts) refl m in next_whole header h x n parts made.granted made.ask made.asked made.judged made.made
is_next header h (Change c) m = tt
is_next header h (Book move) m = tt
is_next header h (Land landing) m = tt
is_next header h (Policy caller text) m = tt
is_next header h (Fault breaking) m = tt

-- ---- where an entry stands in a history

goes_at : (header : Header) (done before : List Entry) (e : Entry) (later : List Entry) → GoesOn header done (before ++ e ∷ later) → MayFollow header (done ++ before) e.body × GoesOn header (done ++ (before ++ e ∷ [])) later
goes_at header done [] e later goes = (subst (λ h. MayFollow header h e.body) (sym (append-nil done)) goes.0, goes.1)
goes_at header done (d ∷ before) e later goes =
    let rest = goes_at header (done ++ d ∷ []) before e later goes.1 in
    (subst (λ h. MayFollow header h e.body) (append_assoc done (d ∷ []) before) rest.0, subst (λ h. GoesOn header h later) (append_assoc done (d ∷ []) (before ++ e ∷ [])) rest.1)

abbrev pub LacksId : Id → Entry → Type 0
LacksId x e = length_in x e.body ≡ None

len_on : (h : List Entry) (e : Entry) (x : Id) (n : ℕ) → content_len h x ≡ Some n → content_len (h ++ e ∷ []) x ≡ Some n
len_on h e x n some = first_some-append (λ e. length_in x e.body) h (e ∷ []) ∙ ap (λ o. option_or o (first_some (λ e. length_in x e.body) (e ∷ []))) some

stored_twice : (o : Option ℕ) (n : ℕ) → o ≡ Some n → o ≡ None → ⊥
stored_twice None n some none = absurd cc
stored_twice (Some m) n some none = absurd cc

not_same : (h : List Entry) (x y : Id) (n m : ℕ) → content_len h x ≡ Some n → content_len h y ≡ None → (t : Bool) → bytes_eq x y ≡ t → ◌≡◌ {A = Option ℕ} (cond t (Some m) None) None
not_same h x y n m some none false e = refl
not_same h x y n m some none true e = absurd (stored_twice (content_len h x) n some (ap (content_len h) ((bytes_eq-Decides x y).0 e) ∙ none))

lacks_next : (h : List Entry) (x : Id) (n : ℕ) (b : Body) → content_len h x ≡ Some n → IsNext h b → length_in x b ≡ None
lacks_next h x n (Content y m) some next = not_same h x y n m some next (bytes_eq x y) refl
lacks_next h x n (Whole y m parts) some next = not_same h x y n m some next.0 (bytes_eq x y) refl
lacks_next h x n (Change c) some next = refl
lacks_next h x n (Book move) some next = refl
lacks_next h x n (Land landing) some next = refl
lacks_next h x n (Policy caller text) some next = refl
lacks_next h x n (Fault breaking) some next = refl

lacks_later : (header : Header) (done later : List Entry) (x : Id) (n : ℕ) → GoesOn header done later → content_len done x ≡ Some n → AllByRecursion (LacksId x) later
lacks_later header done [] x n goes some = tt
lacks_later header done (e ∷ later) x n goes some = (lacks_next done x n e.body some (is_next header done e.body goes.0), lacks_later header (done ++ e ∷ []) later x n goes.1 (len_on done e x n some))

-- nothing else is stored under the id
pub record IsOnce (header : Header) (before later : List Entry) (who : ℕ) (body : Body) (x : Id) (n : ℕ) : Type 0 where
  pub next : IsNext before body
  pub lacks_before : content_len before x ≡ None
  pub lacks_later : AllByRecursion (LacksId x) later
  pub len_is : content_len (before ++ record { who = who; body = body } ∷ later) x ≡ Some n

len_at : (before later : List Entry) (e : Entry) (x : Id) (n : ℕ) → content_len before x ≡ None → length_in x e.body ≡ Some n → content_len (before ++ e ∷ later) x ≡ Some n
len_at before later e x n none here =
    first_some-append (λ e. length_in x e.body) before (e ∷ later)
    ∙ ap (λ o. option_or o (option_or (length_in x e.body) (first_some (λ e. length_in x e.body) later))) none
    ∙ ap (λ o. option_or o (first_some (λ e. length_in x e.body) later)) here

once_by : (header : Header) (before later : List Entry) (who : ℕ) (body : Body) (x : Id) (n : ℕ) → IsLegal header (before ++ record { who = who; body = body } ∷ later) → (IsNext before body → content_len before x ≡ None) → length_in x body ≡ Some n → IsOnce header before later who body x n
once_by header before later who body x n legal none here =
    let e : Entry = record { who = who; body = body } in
    let goes = goes_at header [] before e later legal in
    let next = is_next header before body goes.0 in
    record {
      next = next;
      lacks_before = none next;
      lacks_later = lacks_later header (before ++ e ∷ []) later x n goes.1 (len_at before [] e x n (none next) here);
      len_is = len_at before later e x n (none next) here;
    }

len_here : (x : Id) (n : ℕ) → cond (bytes_eq x x) (Some n) None ≡ Some n
len_here x n = ap (λ t. cond t (Some n) None) (same_id x)

pub content_once : (header : Header) (before later : List Entry) (who : ℕ) (x : Id) (n : ℕ) → IsLegal header (before ++ record { who = who; body = Content x n } ∷ later) → IsOnce header before later who (Content x n) x n
content_once header before later who x n legal = once_by header before later who (Content x n) x n legal (λ none. none) (len_here x n)

pub whole_once : (header : Header) (before later : List Entry) (who : ℕ) (x : Id) (n : ℕ) (parts : List Id) → IsLegal header (before ++ record { who = who; body = Whole x n parts } ∷ later) → IsOnce header before later who (Whole x n parts) x n
whole_once header before later who x n parts legal = once_by header before later who (Whole x n parts) x n legal (λ next. next.0) (len_here x n)
