-- What a file holds of a history's contents and of the parts of its wholes, by where they stand.
use Rattle.std.proofs.Common.{◌≡◌, ℕ, ◌+◌, ◌-◌, Bool, true, false, cond, ◌||◌, List, [], ◌∷◌, ◌++◌, take, drop, refl, sym, ap, subst, ◌∙◌, arith, append-nil}
use Rattle.std.specs.Prelude.{Option, None, Some, bytes_eq, sum_by, flat_map}
use mathlib.Core.Bool.{true≢false}
use Rattle.std.specs.List.{AllByRecursion, list_any}
use Rattle.std.proofs.lemmas.List.Concat.{flat_map-append}
use Rattle.std.proofs.lemmas.List.Folds.{list_any-append}
use Rattle.std.proofs.lemmas.List.Sums.{sum_by-cons}
use Rattle.std.proofs.lemmas.Slice.Eq.{bytes_eq-Decides}
use Rattle.byte_fields.specs.Bytes.{Id}
use Rattle.byte_fields.proofs.Lists.{none_first}
use Rattle.history_model.specs.History.{Body, Content, Whole, Change, Book, Land, Policy, Fault, Entry, bodies, is_stored, content_len, length_in, is_whole, is_whole_with, parts_with, whole_parts}
use Rattle.history_model.specs.Journal.{Header, record_len, size, is_content_with, held}
use Rattle.opening_laws.proofs.Pieces.{content_len_is}
use Rattle.reply_model.proofs.Histories.{bodies-append}
use Rattle.reply_model.proofs.Parents.{same_id}
use Rattle.reply_model.specs.Legal.{IsLegal}
use Rattle.repo_state.proofs.Once.{LacksId, IsWholeMade, content_once, whole_once}

-- ---- nothing under the id

no_content : (x : Id) (b : Body) → length_in x b ≡ None → is_content_with x b ≡ false
no_content x (Content y n) e = by (bytes_eq x y) e
  where
    by : (t : Bool) → ◌≡◌ {A = Option ℕ} (cond t (Some n) None) None → t ≡ false
    by true e = absurd cc
    by false e = refl
no_content x (Whole y n parts) e = refl
no_content x (Change c) e = refl
no_content x (Book move) e = refl
no_content x (Land landing) e = refl
no_content x (Policy caller text) e = refl
no_content x (Fault breaking) e = refl

no_parts : (x : Id) (b : Body) → length_in x b ≡ None → parts_with x b ≡ []
no_parts x (Content y n) e = refl
no_parts x (Whole y n parts) e = by (bytes_eq x y) e
  where
    by : (t : Bool) → ◌≡◌ {A = Option ℕ} (cond t (Some n) None) None → cond t parts [] ≡ []
    by true e = absurd cc
    by false e = refl
no_parts x (Change c) e = refl
no_parts x (Book move) e = refl
no_parts x (Land landing) e = refl
no_parts x (Policy caller text) e = refl
no_parts x (Fault breaking) e = refl

abbrev LacksBody : Id → Body → Type 0
LacksBody x b = length_in x b ≡ None

lacks_bodies : (h : List Entry) (x : Id) → content_len h x ≡ None → AllByRecursion (LacksBody x) (bodies h)
lacks_bodies h x none = none_first (length_in x) (bodies h) (sym (content_len_is h x) ∙ none)

lacks_stored : (h : List Entry) (x : Id) → AllByRecursion (LacksId x) h → AllByRecursion (LacksBody x) (bodies h)
lacks_stored [] x all = tt
lacks_stored (e ∷ h) x all = by (is_stored e.body) (lacks_stored h x all.1)
  where
    by : (t : Bool) → AllByRecursion (LacksBody x) (bodies h) → AllByRecursion (LacksBody x) (cond t (e.body ∷ bodies h) (bodies h))
    by true later = (all.0, later)
    by false later = later

all_no_parts : (x : Id) (bs : List Body) → AllByRecursion (LacksBody x) bs → flat_map (parts_with x) bs ≡ []
all_no_parts x [] all = refl
all_no_parts x (b ∷ bs) all = (λ i. no_parts x b all.0 i ++ all_no_parts x bs all.1 i)

-- ---- a content

held_skip : (file : List ℕ) (at : ℕ) (bs later : List Body) (x : Id) (n : ℕ) → AllByRecursion (LacksBody x) bs → held file at (bs ++ Content x n ∷ later) x ≡ take n (drop (at + sum_by record_len bs + 6) file)
held_skip file at [] later x n all =
    let len : record_len (Content x n) - 6 ≡ n = omega arith in
    let far : at + 6 ≡ at + sum_by record_len [] + 6 = omega arith in
    ap (λ t. cond t (take (record_len (Content x n) - 6) (drop (at + 6) file)) (held file (at + record_len (Content x n)) later x)) (same_id x)
    ∙ (λ i. take (len i) (drop (far i) file))
held_skip file at (b ∷ bs) later x n all =
    let sum = sum_by-cons record_len b bs in
    let far : at + record_len b + sum_by record_len bs + 6 ≡ at + sum_by record_len (b ∷ bs) + 6 = omega arith in
    ap (λ t. cond t (take (record_len b - 6) (drop (at + 6) file)) (held file (at + record_len b) (bs ++ Content x n ∷ later) x)) (no_content x b all.0)
    ∙ held_skip file (at + record_len b) bs later x n all.1
    ∙ ap (λ k. take n (drop k file)) far

abbrev entry_of : ℕ → Body → Entry
entry_of who body = record { who = who; body = body }

-- what any file holds of a content stands at its place
pub held_there : (header : Header) (before later : List Entry) (who : ℕ) (x : Id) (n : ℕ) (file : List ℕ) → IsLegal header (before ++ entry_of who (Content x n) ∷ later) → held file 16 (bodies (before ++ entry_of who (Content x n) ∷ later)) x ≡ take n (drop (size before + 5) file)
held_there header before later who x n file legal =
    let once = content_once header before later who x n legal in
    let far : 16 + sum_by record_len (bodies before) + 6 ≡ size before + 5 = omega arith in
    ap (λ bs. held file 16 bs x) (bodies-append before (entry_of who (Content x n) ∷ later))
    ∙ held_skip file 16 (bodies before) (bodies later) x n (lacks_bodies before x once.lacks_before)
    ∙ ap (λ k. take n (drop k file)) far

-- and it has no parts
pub content_parts : (header : Header) (before later : List Entry) (who : ℕ) (x : Id) (n : ℕ) → IsLegal header (before ++ entry_of who (Content x n) ∷ later) → whole_parts (before ++ entry_of who (Content x n) ∷ later) x ≡ []
content_parts header before later who x n legal =
    let once = content_once header before later who x n legal in
    ap (λ bs. flat_map (parts_with x) bs) (bodies-append before (entry_of who (Content x n) ∷ later))
    ∙ flat_map-append (parts_with x) (bodies before) (Content x n ∷ bodies later)
    ∙ (λ i. all_no_parts x (bodies before) (lacks_bodies before x once.lacks_before) i ++ all_no_parts x (bodies later) (lacks_stored later x once.lacks_later) i)

no_whole_with : (x : Id) (b : Body) → length_in x b ≡ None → is_whole_with x b ≡ false
no_whole_with x (Content y n) e = refl
no_whole_with x (Whole y n parts) e = by (bytes_eq x y) e
  where
    by : (t : Bool) → ◌≡◌ {A = Option ℕ} (cond t (Some n) None) None → t ≡ false
    by true e = absurd cc
    by false e = refl
no_whole_with x (Change c) e = refl
no_whole_with x (Book move) e = refl
no_whole_with x (Land landing) e = refl
no_whole_with x (Policy caller text) e = refl
no_whole_with x (Fault breaking) e = refl

all_no_whole : (x : Id) (bs : List Body) → AllByRecursion (LacksBody x) bs → list_any (is_whole_with x) bs ≡ false
all_no_whole x [] all = refl
all_no_whole x (b ∷ bs) all = (λ i. no_whole_with x b all.0 i || all_no_whole x bs all.1 i)

-- nor is it a whole
pub content_single : (header : Header) (before later : List Entry) (who : ℕ) (x : Id) (n : ℕ) → IsLegal header (before ++ entry_of who (Content x n) ∷ later) → is_whole (before ++ entry_of who (Content x n) ∷ later) x ≡ false
content_single header before later who x n legal =
    let once = content_once header before later who x n legal in
    ap (λ bs. list_any (is_whole_with x) bs) (bodies-append before (entry_of who (Content x n) ∷ later))
    ∙ list_any-append (is_whole_with x) (bodies before) (Content x n ∷ bodies later)
    ∙ (λ i. all_no_whole x (bodies before) (lacks_bodies before x once.lacks_before) i || all_no_whole x (bodies later) (lacks_stored later x once.lacks_later) i)

-- ---- a whole

pub record HasWhole (h : List Entry) (x : Id) : Type 0 where
  pub before : List Entry
  pub who : ℕ
  pub n : ℕ
  pub parts : List Id
  pub later : List Entry
  pub history_is : h ≡ before ++ entry_of who (Whole x n parts) ∷ later

behind : (e : Entry) (h : List Entry) (x : Id) → HasWhole h x → HasWhole (e ∷ h) x
behind e h x w = record { before = e ∷ w.before; who = w.who; n = w.n; parts = w.parts; later = w.later; history_is = ap (λ g. e ∷ g) w.history_is }

whole_first : (who : ℕ) (y : Id) (n : ℕ) (parts : List Id) (h : List Entry) (x : Id) → (is_whole h x ≡ true → HasWhole h x) → (t : Bool) → bytes_eq x y ≡ t → (t || is_whole h x) ≡ true → HasWhole (entry_of who (Whole y n parts) ∷ h) x
whole_first who y n parts h x later true same e = record { before = []; who = who; n = n; parts = parts; later = h; history_is = ap (λ z. entry_of who (Whole z n parts) ∷ h) (sym ((bytes_eq-Decides x y).0 same)) }
whole_first who y n parts h x later false same e = behind (entry_of who (Whole y n parts)) h x (later e)

whole_by : (who : ℕ) (b : Body) (h : List Entry) (x : Id) → (is_whole h x ≡ true → HasWhole h x) → is_whole (entry_of who b ∷ h) x ≡ true → HasWhole (entry_of who b ∷ h) x
whole_by who (Content y n) h x later e = behind (entry_of who (Content y n)) h x (later e)
whole_by who (Whole y n parts) h x later e = whole_first who y n parts h x later (bytes_eq x y) refl e
whole_by who (Change c) h x later e = behind (entry_of who (Change c)) h x (later e)
whole_by who (Book move) h x later e = behind (entry_of who (Book move)) h x (later e)
whole_by who (Land landing) h x later e = behind (entry_of who (Land landing)) h x (later e)
whole_by who (Policy caller text) h x later e = behind (entry_of who (Policy caller text)) h x (later e)
whole_by who (Fault breaking) h x later e = behind (entry_of who (Fault breaking)) h x (later e)

has_whole : (h : List Entry) (x : Id) → is_whole h x ≡ true → HasWhole h x
has_whole [] x e = absurd (true≢false (sym e))
has_whole (e ∷ h) x is = whole_by e.who e.body h x (has_whole h x) is

-- a whole of a legal history: its one entry
pub record IsWholeIn (h : List Entry) (x : Id) (parts : List Id) : Type 0 where
  pub n : ℕ
  pub before : List Entry
  pub later : List Entry
  pub who : ℕ
  pub history_is : h ≡ before ++ entry_of who (Whole x n parts) ∷ later
  pub len_is : content_len h x ≡ Some n
  pub made : IsWholeMade before n parts

parts_of_one : (before later : List Body) (x : Id) (n : ℕ) (parts : List Id) → AllByRecursion (LacksBody x) before → AllByRecursion (LacksBody x) later → flat_map (parts_with x) (before ++ Whole x n parts ∷ later) ≡ parts
parts_of_one before later x n parts front back =
    flat_map-append (parts_with x) before (Whole x n parts ∷ later)
    ∙ (λ i. all_no_parts x before front i ++ (cond (same_id x i) parts [] ++ all_no_parts x later back i))
    ∙ append-nil parts

pub whole_in : (header : Header) (h : List Entry) (x : Id) → IsLegal header h → is_whole h x ≡ true → IsWholeIn h x (whole_parts h x)
whole_in header h x legal is =
    let w = has_whole h x is in
    let once = whole_once header w.before w.later w.who x w.n w.parts (subst (IsLegal header) w.history_is legal) in
    let parts : whole_parts h x ≡ w.parts =
    ap (λ bs. flat_map (parts_with x) bs) (ap (λ g. bodies g) w.history_is ∙ bodies-append w.before (entry_of w.who (Whole x w.n w.parts) ∷ w.later))
    ∙ parts_of_one (bodies w.before) (bodies w.later) x w.n w.parts (lacks_bodies w.before x once.lacks_before) (lacks_stored w.later x once.lacks_later) in
    subst (λ ps. IsWholeIn h x ps) (sym parts)
    (record {
      n = w.n;
      before = w.before;
      later = w.later;
      who = w.who;
      history_is = w.history_is;
      len_is = ap (λ g. content_len g x) w.history_is ∙ once.len_is;
      made = once.next.1;
    })
