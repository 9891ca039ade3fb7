-- Where a file holds a content whose entry stands in a legal history.
use Rattle.std.proofs.Common.{◌≡◌, ℕ, ◌+◌, ◌-◌, ◌<◌, Bool, true, false, cond, List, [], ◌∷◌, ◌++◌, length, take, drop, refl, sym, ap, subst, ◌∙◌, arith}
use Rattle.std.specs.Prelude.{Option, None, Some, Result, Ok, bytes_eq, is_some, sum_by, nat_lt}
use Rattle.std.specs.Option.{option_or}
use mathlib.Core.Bool.{true≢false}
use Rattle.std.proofs.lemmas.List.{append_assoc, append-nil}
use Rattle.std.proofs.lemmas.List.Sums.{sum_by-append, sum_by-cons}
use Rattle.std.proofs.lemmas.Slice.Eq.{bytes_eq-Decides}
use Rattle.sha2.specs.Sha256.{sha256}
use Rattle.byte_fields.specs.Bytes.{Id, first_some}
use Rattle.changeset_model.specs.Changeset.{most_content}
use Rattle.history_model.specs.History.{Body, Content, Whole, Change, Book, Land, Policy, Fault, Entry, bodies, is_down, length_in, content_len}
use Rattle.history_model.specs.Journal.{Header, record_len, size, is_content_with, held}
use Rattle.reply_model.specs.After.{entry_by}
use Rattle.reply_model.specs.Legal.{MayFollow, GoesOn, IsLegal}
use Rattle.reply_model.specs.Reply.{Ask, PutContent, PutWhole, PutChangeset, SetBookmark, LandDraft, SetPolicy, Refusal, Down, TooLong, Granted, ContentPut, Judged, ◌>>=◌, refuse_if, unchanged, entered, judge}
use Rattle.reply_model.proofs.Histories.{bodies-append}
use Rattle.opening_laws.proofs.Made.{MadeBy, is_made}
use Rattle.opening_laws.proofs.Pieces.{content_len_is}

-- ---- a content is made once

follows_at : (header : Header) (before h : List Entry) (e : Entry) (later : List Entry) → GoesOn header before (h ++ e ∷ later) → MayFollow header (before ++ h) e.body
follows_at header before [] e later goes = subst (λ g. MayFollow header g e.body) (sym (append-nil before)) goes.0
follows_at header before (d ∷ h) e later goes = subst (λ g. MayFollow header g e.body) (append_assoc before (d ∷ []) h) (follows_at header (before ++ d ∷ []) h e later goes.1)

-- it is put only where nothing has its id
put_new : (down long : Bool) (known : Option ℕ) (d t : Refusal) (granted : Granted) (made : Result Judged Refusal) (judged : Judged)
    → (refuse_if down d >>= λ _. refuse_if long t >>= λ _. cond (is_some known) (unchanged granted) made) ≡ Ok judged → is_some judged.made ≡ true → known ≡ None
put_new true long known d t granted made judged e some = absurd cc
put_new false true known d t granted made judged e some = absurd cc
put_new false false None d t granted made judged e some = refl
put_new false false (Some n) d t granted made judged e some = absurd (nothing judged e some)
  where
    nothing : (judged : Judged) → ◌≡◌ {A = Result Judged Refusal} (Ok (record { granted = granted; made = None })) (Ok judged) → is_some judged.made ≡ true → ⊥
    nothing judged e some = let same : record { granted = granted; made = None } ≡ judged = cc in true≢false (sym some ∙ ap (λ j. is_some j.made) (sym same))

abbrev id_in : Body → Id → Id
id_in (Content x n) other = x
id_in (Whole x n parts) other = x
id_in (Change c) other = other
id_in (Book move) other = other
id_in (Land landing) other = other
id_in (Policy caller text) other = other
id_in (Fault breaking) other = other

new_by : (header : Header) (before : List Entry) (x : Id) (n : ℕ) (ask : Ask) (granted : Granted) → MadeBy before ask (Content x n) → judge header before ask ≡ Ok (record { granted = granted; made = Some (Content x n) }) → content_len before x ≡ None
new_by header before x n (PutContent bytes) granted made judged =
    ap (content_len before) (ap (λ b. id_in b x) made.1)
    ∙ put_new (is_down before) (nat_lt most_content (length bytes)) (content_len before (sha256 bytes)) Down (TooLong (length bytes)) (ContentPut (sha256 bytes))
    (entered header before (ContentPut (sha256 bytes)) (Content (sha256 bytes) (length bytes))) (record { granted = granted; made = Some (Content x n) }) judged refl
new_by header before x n (PutWhole body pieces) granted made judged = absurd (let e = made.3 in cc)
new_by header before x n (PutChangeset bytes) granted made judged = absurd (let e = made.3 in cc)
new_by header before x n (SetBookmark caller name from to) granted made judged = absurd (let e = made.0 in cc)
new_by header before x n (LandDraft caller name draft moment) granted made judged = absurd (let e = made.8 in cc)
new_by header before x n (SetPolicy caller text) granted made judged = absurd (let e = made.0 in cc)

-- ---- what goes before it is passed

skipped : (x : Id) (b : Body) (later : Option ℕ) → option_or (length_in x b) later ≡ None → (is_content_with x b ≡ false) × (later ≡ None)
skipped x (Content y n) later none = by (bytes_eq x y) none
  where
    by : (t : Bool) → option_or (cond t (Some n) None) later ≡ None → (t ≡ false) × (later ≡ None)
    by true none = absurd cc
    by false none = (refl, none)
skipped x (Whole y n parts) later none = by (bytes_eq x y) none
  where
    by : (t : Bool) → option_or (cond t (Some n) None) later ≡ None → (false ≡ false) × (later ≡ None)
    by true none = absurd cc
    by false none = (refl, none)
skipped x (Change c) later none = (refl, none)
skipped x (Book move) later none = (refl, none)
skipped x (Land landing) later none = (refl, none)
skipped x (Policy caller text) later none = (refl, none)
skipped x (Fault breaking) later none = (refl, none)

module _ (file : List ℕ) (x : Id) (n : ℕ) (later : List Body) where
  held_past : (at : ℕ) (bs : List Body) → first_some (length_in x) bs ≡ None → held file at (bs ++ Content x n ∷ later) x ≡ take n (drop (at + sum_by record_len bs + 6) file)
  held_past at [] none =
      ap (λ t. cond t (take (record_len (Content x n) - 6) (drop (at + 6) file)) (held file (at + record_len (Content x n)) later x)) ((bytes_eq-Decides x x).1 refl)
      ∙ (λ i. take ((let k : record_len (Content x n) - 6 ≡ n = omega arith in k) i) (drop ((let k : at + 6 ≡ at + 0 + 6 = omega arith in k) i) file))
  held_past at (b ∷ bs) none =
      let both = skipped x b (first_some (length_in x) bs) none in
      let sum = sum_by-cons record_len b bs in
      ap (λ t. cond t (take (record_len b - 6) (drop (at + 6) file)) (held file (at + record_len b) (bs ++ Content x n ∷ later) x)) both.0
      ∙ held_past (at + record_len b) bs both.1
      ∙ ap (λ k. take n (drop k file)) (let k : at + record_len b + sum_by record_len bs + 6 ≡ at + sum_by record_len (b ∷ bs) + 6 = omega arith in k)

  length_past : (bs : List Body) → first_some (length_in x) bs ≡ None → first_some (length_in x) (bs ++ Content x n ∷ later) ≡ Some n
  length_past [] none = ap (λ t. option_or (cond t (Some n) None) (first_some (length_in x) later)) ((bytes_eq-Decides x x).1 refl)
  length_past (b ∷ bs) none = by (length_in x b) (length_past bs) none
    where
      by : (o : Option ℕ) → (first_some (length_in x) bs ≡ None → first_some (length_in x) (bs ++ Content x n ∷ later) ≡ Some n) → option_or o (first_some (length_in x) bs) ≡ None → option_or o (first_some (length_in x) (bs ++ Content x n ∷ later)) ≡ Some n
      by None on none = on none
      by (Some m) on none = absurd cc

module _ (header : Header) (h : List Entry) (legal : IsLegal header h) (before later : List Entry) (who : ℕ) (x : Id) (n : ℕ) (is : h ≡ before ++ entry_by who (Content x n) ∷ later) where
  none_before : content_len before x ≡ None
  none_before =
      let made = is_made header before (Content x n) refl (follows_at header [] before (entry_by who (Content x n)) later (subst (GoesOn header []) is legal)) in
      new_by header before x n made.ask made.granted made.made made.judged

  none_of : first_some (length_in x) (bodies before) ≡ None
  none_of = sym (content_len_is before x) ∙ none_before

  bodies_are : bodies h ≡ bodies before ++ Content x n ∷ bodies later
  bodies_are = ap bodies is ∙ bodies-append before (entry_by who (Content x n) ∷ later)

  pub held_at : (file : List ℕ) → held file 16 (bodies h) x ≡ take n (drop (size before + 5) file)
  held_at file =
      ap (λ bs. held file 16 bs x) bodies_are
      ∙ held_past file x n (bodies later) 16 (bodies before) none_of
      ∙ ap (λ k. take n (drop k file)) (let k : 16 + sum_by record_len (bodies before) + 6 ≡ size before + 5 = omega arith in k)

  pub length_at : content_len h x ≡ Some n
  length_at = content_len_is h x ∙ ap (first_some (length_in x)) bodies_are ∙ length_past [] x n (bodies later) (bodies before) none_of

  pub lies_inside : size before + 5 + n < size h
  lies_inside =
      let all : size h ≡ 17 + sum_by record_len (bodies before ++ Content x n ∷ bodies later) = ap (λ bs. 17 + sum_by record_len bs) bodies_are in
      let both = sum_by-append record_len (bodies before) (Content x n ∷ bodies later) in
      let own = sum_by-cons record_len (Content x n) (bodies later) in
      omega arith
