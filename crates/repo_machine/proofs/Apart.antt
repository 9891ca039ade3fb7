-- What is a content of a legal history is no whole, so the parts of a whole have places.
--     all_placed      where a table has the contents of the history
use Rattle.std.proofs.Common.{◌≡◌, ℕ, Bool, true, false, cond, ◌||◌, List, [], ◌∷◌, ◌++◌, length, refl, sym, ap, subst, ◌∙◌}
use Rattle.std.specs.Prelude.{Option, None, Some, option_map, is_some, IsSome, bytes_eq, flat_map, nat_lt, Result, Ok, Err}
use mathlib.Core.Bool.{true≢false}
use Rattle.std.specs.List.{All, AllByRecursion, list_any, concat}
use Rattle.std.specs.Option.{option_and_then}
use Rattle.std.proofs.lemmas.List.{append_assoc, append-nil}
use Rattle.std.proofs.lemmas.List.Elements.{All-from_recursion}
use Rattle.std.proofs.lemmas.List.Folds.{list_any-append}
use Rattle.std.proofs.lemmas.Slice.Eq.{bytes_eq-Decides}
use Rattle.sha2.specs.Sha256.{sha256}
use Rattle.byte_fields.specs.Bytes.{Id}
use Rattle.byte_fields.proofs.Booleans.{or_false}
use Rattle.changeset_model.specs.Changeset.{most_content}
use Rattle.history_model.specs.History.{Body, Content, Whole, Change, Book, Land, Policy, Fault, Entry, bodies, content_len, is_whole_with, is_whole, parts_with, whole_parts}
use Rattle.history_model.specs.Journal.{Header, is_content_with}
use Rattle.reply_model.specs.Reply as reply
use Rattle.reply_model.specs.Reply.{◌>>=◌, refuse_if, Ask, PutContent, PutWhole, PutChangeset, SetBookmark, LandDraft, SetPolicy, Granted, ContentPut, WholePut, Judged, parts_of, unchanged, entered, judge}
use Rattle.reply_model.specs.After.{entry_by}
use Rattle.reply_model.specs.Legal.{MayFollow, GoesOn, IsLegal, HasParts}
use Rattle.reply_model.proofs.Histories.{bodies-append}
use Rattle.reply_model.proofs.Opened.{have_parts}
use Rattle.reply_model.proofs.Stored.{granted_is_up}
use Rattle.opening_laws.proofs.Made.{MadeBy, is_made}
use Rattle.opening_laws.proofs.Pieces.{content_len_is}
use Rattle.content_table.specs.declared.stored.Stored.{Stored}
use Rattle.content_table.specs.declared.stored.Stored.TheVariants as stored
use Rattle.content_table.specs.declared.table.ContentTable.{ContentTable}
use Rattle.content_table.specs.Table.{stored_in, length_of, place_of, joined_of, lengths, places, joined}
use Rattle.repo_machine.specs.Indexes.{joined_in}
use Rattle.repo_machine.proofs.Judging.{judged_up}
use Rattle.repo_machine.proofs.Pieces.{length_among}
use Rattle.repo_machine.proofs.Tables.{unjoined, whole_same, whole_longer}

-- ---- what is entered is new

abbrev made_in : Result Judged reply.Refusal → Option Body
made_in (Ok judged) = judged.made
made_in (Err e) = None

kept_new : {A : Type 0} (p : Result A reply.Refusal) (o : Option ℕ) (g granted : Granted) (made : A → Result Judged reply.Refusal) (body : Body) → (p >>= λ a. cond (is_some o) (unchanged g) (made a)) ≡ Ok (record { granted = granted; made = Some body }) → o ≡ None
kept_new (Err e) o g granted made body h = let none : None ≡ Some body = ap made_in h in absurd cc
kept_new (Ok a) None g granted made body h = refl
kept_new (Ok a) (Some n) g granted made body h = let none : None ≡ Some body = ap made_in h in absurd cc

content_by : (header : Header) (h : List Entry) (x : Id) (n : ℕ) (ask : Ask) (granted : Granted) → judge header h ask ≡ Ok (record { granted = granted; made = Some (Content x n) }) → MadeBy h ask (Content x n) → content_len h x ≡ None
content_by header h x n (PutContent bytes) granted e m =
    let is : x ≡ sha256 bytes = (let same = m.1 in cc) in
    subst (λ y. content_len h y ≡ None) (sym is)
    (kept_new (refuse_if (nat_lt most_content (length bytes)) (reply.TooLong (length bytes))) (content_len h (sha256 bytes)) (ContentPut (sha256 bytes)) granted
    (λ _. entered header h (ContentPut (sha256 bytes)) (Content (sha256 bytes) (length bytes))) (Content x n) (sym (judged_up header h (PutContent bytes) (granted_is_up header h (PutContent bytes) _ e)) ∙ e))
content_by header h x n (PutWhole body pieces) granted e m = let same = m.3 in absurd cc
content_by header h x n (PutChangeset bytes) granted e m = let same = m.3 in absurd cc
content_by header h x n (SetBookmark caller name from to) granted e m = let same = m.0 in absurd cc
content_by header h x n (LandDraft caller name draft moment) granted e m = let same = m.8 in absurd cc
content_by header h x n (SetPolicy caller text) granted e m = let same = m.0 in absurd cc

whole_by : (header : Header) (h : List Entry) (x : Id) (n : ℕ) (parts : List Id) (ask : Ask) (granted : Granted) → judge header h ask ≡ Ok (record { granted = granted; made = Some (Whole x n parts) }) → MadeBy h ask (Whole x n parts) → content_len h x ≡ None
whole_by header h x n parts (PutWhole body pieces) granted e m =
    let is : x ≡ sha256 (concat pieces) = (let same = m.3 in cc) in
    subst (λ y. content_len h y ≡ None) (sym is)
    (kept_new (parts_of header h body) (content_len h (sha256 (concat pieces))) (WholePut (sha256 (concat pieces)) (length (concat pieces))) granted
    (λ parts. entered header h (WholePut (sha256 (concat pieces)) (length (concat pieces))) (Whole (sha256 (concat pieces)) (length (concat pieces)) parts)) (Whole x n parts)
    (sym (judged_up header h (PutWhole body pieces) (granted_is_up header h (PutWhole body pieces) _ e)) ∙ e))
whole_by header h x n parts (PutContent bytes) granted e m = let same = m.1 in absurd cc
whole_by header h x n parts (PutChangeset bytes) granted e m = let same = m.3 in absurd cc
whole_by header h x n parts (SetBookmark caller name from to) granted e m = let same = m.0 in absurd cc
whole_by header h x n parts (LandDraft caller name draft moment) granted e m = let same = m.8 in absurd cc
whole_by header h x n parts (SetPolicy caller text) granted e m = let same = m.0 in absurd cc

new_content : (header : Header) (h : List Entry) (x : Id) (n : ℕ) → MayFollow header h (Content x n) → content_len h x ≡ None
new_content header h x n m = let made = is_made header h (Content x n) refl m in content_by header h x n made.ask made.granted made.judged made.made

new_whole : (header : Header) (h : List Entry) (x : Id) (n : ℕ) (parts : List Id) → MayFollow header h (Whole x n parts) → content_len h x ≡ None
new_whole header h x n parts m = let made = is_made header h (Whole x n parts) refl m in whole_by header h x n parts made.ask made.granted made.judged made.made

-- ---- contents and wholes are apart

abbrev is_held : List Entry → Id → Bool
is_held h x = list_any (is_content_with x) (bodies h)

abbrev AreApart : List Entry → Type 0
AreApart h = (x : Id) → is_held h x ≡ true → is_whole h x ≡ false

held_longer : (h : List Entry) (e : Entry) (x : Id) → is_held (h ++ e ∷ []) x ≡ (is_held h x || list_any (is_content_with x) (bodies (e ∷ [])))
held_longer h e x = ap (list_any (is_content_with x)) (bodies-append h (e ∷ [])) ∙ list_any-append (is_content_with x) (bodies h) (bodies (e ∷ []))

-- an entry of neither kind
other_apart : (h : List Entry) (e : Entry) → ((x : Id) → list_any (is_content_with x) (bodies (e ∷ [])) ≡ false) → ((x : Id) → list_any (is_whole_with x) (bodies (e ∷ [])) ≡ false) → ((x : Id) → flat_map (parts_with x) (bodies (e ∷ [])) ≡ []) → AreApart h → AreApart (h ++ e ∷ [])
other_apart h e no_content no_whole no_parts apart x held =
    whole_same h e no_whole no_parts x ∙ apart x (sym (held_longer h e x ∙ ap (λ b. is_held h x || b) (no_content x) ∙ or_false (is_held h x)) ∙ held)

either_held : (a b : Bool) (h : List Entry) (x y : Id) → (a ≡ true → is_whole h x ≡ false) → (b ≡ true → x ≡ y) → content_len h y ≡ None → (a || (b || false)) ≡ true → is_whole h x ≡ false
either_held true b h x y held same new e = held refl
either_held false true h x y held same new e = subst (λ z. is_whole h z ≡ false) (sym (same refl)) (unjoined h y new).0
either_held false false h x y held same new e = absurd (true≢false (sym e))

content_apart : (h : List Entry) (who : ℕ) (y : Id) (n : ℕ) → content_len h y ≡ None → AreApart h → AreApart (h ++ entry_by who (Content y n) ∷ [])
content_apart h who y n new apart x held =
    whole_same h (entry_by who (Content y n)) (λ z. refl) (λ z. refl) x
    ∙ either_held (is_held h x) (bytes_eq x y) h x y (apart x) (λ same. (bytes_eq-Decides x y).0 same) new (sym (held_longer h (entry_by who (Content y n)) x) ∙ held)

not_new : (h : List Entry) (x : Id) → is_held h x ≡ true → content_len h x ≡ None → ⊥
not_new h x held new = let found = length_among x (bodies h) held in let none : None ≡ Some found.0 = sym new ∙ content_len_is h x ∙ found.1 in absurd cc

other_id : (b : Bool) (h : List Entry) (x y : Id) → (b ≡ true → x ≡ y) → is_held h x ≡ true → content_len h y ≡ None → b ≡ false
other_id true h x y same held new = absurd (not_new h y (subst (λ z. is_held h z ≡ true) (same refl) held) new)
other_id false h x y same held new = refl

whole_apart : (h : List Entry) (who : ℕ) (y : Id) (n : ℕ) (parts : List Id) → content_len h y ≡ None → AreApart h → AreApart (h ++ entry_by who (Whole y n parts) ∷ [])
whole_apart h who y n parts new apart x held =
    let there = sym (held_longer h (entry_by who (Whole y n parts)) x ∙ or_false (is_held h x)) ∙ held in
    let other = other_id (bytes_eq x y) h x y (λ same. (bytes_eq-Decides x y).0 same) there new in
    whole_longer h who y n parts new x ∙ (λ i. apart x there i || (other i || false))

apart_by : (header : Header) (h : List Entry) (who : ℕ) (body : Body) → AreApart h → MayFollow header h body → AreApart (h ++ entry_by who body ∷ [])
apart_by header h who (Content x n) apart m = content_apart h who x n (new_content header h x n m) apart
apart_by header h who (Whole x n parts) apart m = whole_apart h who x n parts (new_whole header h x n parts m) apart
apart_by header h who (Change c) apart m = other_apart h (entry_by who (Change c)) (λ z. refl) (λ z. refl) (λ z. refl) apart
apart_by header h who (Book move) apart m = other_apart h (entry_by who (Book move)) (λ z. refl) (λ z. refl) (λ z. refl) apart
apart_by header h who (Land landing) apart m = other_apart h (entry_by who (Land landing)) (λ z. refl) (λ z. refl) (λ z. refl) apart
apart_by header h who (Policy caller text) apart m = other_apart h (entry_by who (Policy caller text)) (λ z. refl) (λ z. refl) (λ z. refl) apart
apart_by header h who (Fault breaking) apart m = other_apart h (entry_by who (Fault breaking)) (λ z. refl) (λ z. refl) (λ z. refl) apart

apart_from : (header : Header) (before later : List Entry) → AreApart before → GoesOn header before later → AreApart (before ++ later)
apart_from header before [] apart goes = subst AreApart (sym (append-nil before)) apart
apart_from header before (e ∷ later) apart goes = subst AreApart (append_assoc before (e ∷ []) later) (apart_from header (before ++ e ∷ []) later (apart_by header before e.who e.body apart goes.0) goes.1)

-- ---- the parts of a whole

all_both : (P : Id → Type 0) (xs ys : List Id) → AllByRecursion P xs → AllByRecursion P ys → AllByRecursion P (xs ++ ys)
all_both P [] ys a b = b
all_both P (x ∷ xs) ys a b = (a.0, all_both P xs ys a.1 b)

if_all : (P : Id → Type 0) (b : Bool) (xs : List Id) → AllByRecursion P xs → AllByRecursion P (cond b xs [])
if_all P true xs all = all
if_all P false xs all = tt

parts_among : (x : Id) (all bs : List Body) → AllByRecursion (HasParts all) bs → AllByRecursion (λ p. list_any (is_content_with p) all ≡ true) (flat_map (parts_with x) bs)
parts_among x all [] have = tt
parts_among x all (Content y n ∷ bs) have = parts_among x all bs have.1
parts_among x all (Whole y n parts ∷ bs) have =
    all_both (λ p. list_any (is_content_with p) all ≡ true) (cond (bytes_eq x y) parts []) (flat_map (parts_with x) bs) (if_all (λ p. list_any (is_content_with p) all ≡ true) (bytes_eq x y) parts have.0) (parts_among x all bs have.1)
parts_among x all (Change c ∷ bs) have = parts_among x all bs have.1
parts_among x all (Book move ∷ bs) have = parts_among x all bs have.1
parts_among x all (Land landing ∷ bs) have = parts_among x all bs have.1
parts_among x all (Policy caller text ∷ bs) have = parts_among x all bs have.1
parts_among x all (Fault breaking ∷ bs) have = parts_among x all bs have.1

-- ---- by a table

unjoined_table : (b : Bool) (parts : List Id) → b ≡ false → cond b (Some parts) None ≡ None
unjoined_table b parts e = ap (λ b. cond b (Some parts) None) e

placed_one : (o : Option Stored) (n : ℕ) → option_map length_of o ≡ Some n → option_and_then joined_of o ≡ None → IsSome (option_and_then place_of o)
placed_one None n long single = absurd cc
placed_one (Some (stored.Content place)) n long single = refl
placed_one (Some (stored.Whole whole)) n long single = absurd cc

module _ (header : Header) (h : List Entry) (legal : IsLegal header h) (t : ContentTable) (lengths_are : (x : Id) → lengths t x ≡ content_len h x) (joins : (x : Id) → joined t x ≡ joined_in h x) where
  placed : (x : Id) → is_held h x ≡ true → IsSome (places t x)
  placed x held =
      let found = length_among x (bodies h) held in
      let none = apart_from header [] h (λ z e. absurd (true≢false (sym e))) legal x held in
      placed_one (stored_in t x) found.0 (lengths_are x ∙ content_len_is h x ∙ found.1) (joins x ∙ unjoined_table (is_whole h x) (whole_parts h x) none)

  each_placed : (xs : List Id) → AllByRecursion (λ p. is_held h p ≡ true) xs → AllByRecursion (λ p. IsSome (places t p)) xs
  each_placed [] held = tt
  each_placed (x ∷ xs) held = (placed x held.0, each_placed xs held.1)

  joined_parts : (b : Bool) (parts xs : List Id) → cond b (Some parts) None ≡ Some xs → parts ≡ xs
  joined_parts true parts xs e = cc
  joined_parts false parts xs e = absurd cc

  pub all_placed : (x : Id) (parts : List Id) → joined t x ≡ Some parts → All (λ p. IsSome (places t p)) parts
  all_placed x parts is =
      let same = joined_parts (is_whole h x) (whole_parts h x) parts (sym (joins x) ∙ is) in
      All-from_recursion (λ p. IsSome (places t p)) parts (each_placed parts (subst (AllByRecursion (λ p. is_held h p ≡ true)) same (parts_among x (bodies h) (bodies h) (have_parts header h legal))))
