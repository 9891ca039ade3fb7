-- Where the bytes of a content stand: in the file, or behind it among those that wait. That the bytes that wait are the content's, and that an honest disk gives no others.
--     InFile s n      the sealed part has the content's entry, which ends before its closing gate
--     Behind s n      the content's entry waits, and the sealed part's closing gate stands before it
--     lies s n      it is one or the other
use Rattle.std.proofs.Common.{◌≡◌, ℕ, zero, suc, ◌+◌, ◌-◌, ◌≤◌, ◌<◌, Bool, true, false, cond, List, [], ◌∷◌, ◌++◌, map, length, take, drop, refl, sym, ap, subst, ◌∙◌, arith, inl, inr}
use Rattle.std.specs.Prelude.{◌⊎◌, IsTrue, sum_by, bytes_eq, None, Some, Option}
use Rattle.std.specs.Option.{option_or}
use mathlib.Core.Bool.{true≢false}
use Rattle.std.proofs.Math.Seq.{drop-append-add}
use Rattle.std.proofs.lemmas.List.{drop-append-le}
use Rattle.std.proofs.lemmas.List.Sums.{sum_by-append, sum_by-cons}
use Rattle.byte_fields.specs.Bytes.{Id, IsContent}
use Rattle.disk_model.specs.Meaning.{Meaning}
use Rattle.disk_model.specs.Meaning as disk
use Rattle.history_model.specs.History.{Body, Content, Entry, bodies, content_len, length_in, unnumbered}
use Rattle.history_model.specs.Journal.{Header, HoldsRecords, Stands, open_record, record_len, size}
use Rattle.opening_laws.proofs.Places.{content_place, first_place, record_measured}
use Rattle.reply_model.proofs.Histories.{bodies-append}
use Rattle.reply_model.proofs.Parents.{same_id}
use Rattle.repo_journal.specs.Groups.{group}
use Rattle.repo_journal.specs.Payloads.{ArePayloads, records}
use Rattle.repo_journal.proofs.Histories.{holds_records}
use Rattle.content_table.specs.declared.place.Place.{Place}
use Rattle.repo_machine.specs.Indexes.{StandsAt}
use Rattle.bookmark_lock.specs.Opening.{Opening}
use Rattle.repo_state.specs.Images.{sealed_part, IsPending}
use Rattle.repo_state.specs.State.{IsSound}
use Rattle.repo_state.proofs.GroupParts.{bodies_part, bodies_rest, part_and_rest, part_grows, part_least, rest}
use Rattle.repo_state.proofs.Stands.{size-same, size-split, stands-same}

-- the entry of a content in a history
abbrev stored_at : ℕ → Id → ℕ → Entry
stored_at who x n = record { who = who; body = Content x n }

-- ---- in the sealed part, or behind it

reaches : (bs : List Body) (b : Body) (cs : List Body) (n : ℕ) → length bs < n → (m : ℕ) × (take n (bs ++ b ∷ cs) ≡ bs ++ b ∷ take m cs)
reaches bs b cs zero less = absurd (omega arith)
reaches [] b cs (suc n) less = (n, refl)
reaches (a ∷ bs) b cs (suc n) less = let r = reaches bs b cs n (omega arith) in (r.0, ap (λ xs. a ∷ xs) r.1)

module _ {h : List Entry} {x : Id} {place : Place} (s : StandsAt h x place) where
  abbrev here : Entry
  here = stored_at s.who x place.length

  whole : bodies h ≡ bodies s.before ++ Content x place.length ∷ bodies s.later
  whole = ap (λ g. bodies g) s.history_is ∙ bodies-append s.before (here ∷ s.later)

  pub content_inside : place.at + place.length ≤ size h
  content_inside =
      let within = size-split s.before s.later s.who x place.length in
      let all : size h ≡ size (s.before ++ here ∷ s.later) = ap (λ g. size g) s.history_is in
      let at = s.at_is in
      omega arith

pub record InFile {h : List Entry} {x : Id} {place : Place} (s : StandsAt h x place) (n : ℕ) : Type 0 where
  pub later : List Entry
  pub is : bodies (sealed_part n h) ≡ bodies (s.before ++ stored_at s.who x place.length ∷ later)
  pub ends : place.at + place.length < size (sealed_part n h)

pub record Behind {h : List Entry} {x : Id} {place : Place} (s : StandsAt h x place) (n : ℕ) : Type 0 where
  pub before : n ≤ length (bodies s.before)
  pub starts : size (sealed_part n h) ≤ place.at

in_file : {h : List Entry} {x : Id} {place : Place} (s : StandsAt h x place) (n : ℕ) → length (bodies s.before) < n → InFile s n
in_file {h} {x} {place} s n less =
    let r = reaches (bodies s.before) (Content x place.length) (bodies s.later) n less in
    let is : bodies (sealed_part n h) ≡ bodies (s.before ++ stored_at s.who x place.length ∷ sealed_part r.0 s.later) =
    bodies_part n h ∙ ap (take n) (whole s) ∙ r.1 ∙ ap (λ bs. bodies s.before ++ Content x place.length ∷ bs) (sym (bodies_part r.0 s.later)) ∙ sym (bodies-append s.before (stored_at s.who x place.length ∷ sealed_part r.0 s.later)) in
    record {
      later = sealed_part r.0 s.later;
      is = is;
      ends = (let same = size-same (sealed_part n h) (s.before ++ stored_at s.who x place.length ∷ sealed_part r.0 s.later) is in let within = size-split s.before (sealed_part r.0 s.later) s.who x place.length in let at = s.at_is in omega arith);
    }

-- the sealed part is that of what stands before the content
part_before : {h : List Entry} {x : Id} {place : Place} (s : StandsAt h x place) (n : ℕ) → n ≤ length (bodies s.before) → sealed_part n h ≡ sealed_part n s.before
part_before {h} {x} {place} s n le = ap (λ g. sealed_part n g) s.history_is ∙ part_grows n s.before (stored_at s.who x place.length ∷ s.later) le

sizes_before : (n : ℕ) (before : List Entry) → size (sealed_part n before) + sum_by record_len (bodies (rest n before)) ≡ size before
sizes_before n before =
    let both = size-same (sealed_part n before ++ rest n before) before (part_and_rest n before) in
    let split : size (sealed_part n before ++ rest n before) ≡ 17 + sum_by record_len (bodies (sealed_part n before) ++ bodies (rest n before)) = ap (λ bs. 17 + sum_by record_len bs) (bodies-append (sealed_part n before) (rest n before)) in
    let parts = sum_by-append record_len (bodies (sealed_part n before)) (bodies (rest n before)) in
    omega arith

-- how far behind the sealed part
far_behind : {h : List Entry} {x : Id} {place : Place} (s : StandsAt h x place) (n : ℕ) → n ≤ length (bodies s.before) → place.at ≡ size (sealed_part n h) + (sum_by record_len (bodies (rest n s.before)) + 5)
far_behind s n le =
    let same = ap (λ g. size g) (part_before s n le) in
    let sizes = sizes_before n s.before in
    let at = s.at_is in
    omega arith

pub lies : {h : List Entry} {x : Id} {place : Place} (s : StandsAt h x place) (n : ℕ) → InFile s n ⊎ Behind s n
lies {h} {x} {place} s n = by (nat_order (length (bodies s.before)) n)
  where
    nat_order : (a b : ℕ) → (a < b) ⊎ (b ≤ a)
    nat_order zero zero = inr (omega arith)
    nat_order zero (suc b) = inl (omega arith)
    nat_order (suc a) zero = inr (omega arith)
    nat_order (suc a) (suc b) = elim (nat_order a b) as (λ _. (suc a < suc b) ⊎ (suc b ≤ suc a)) [ inl l ↦ inl (omega arith) | inr g ↦ inr (omega arith) ]

    by : (length (bodies s.before) < n) ⊎ (n ≤ length (bodies s.before)) → InFile s n ⊎ Behind s n
    by (inl less) = inl (in_file s n less)
    by (inr le) = inr (record { before = le; starts = (let far = far_behind s n le in omega arith) })

-- no place straddles the end of the sealed part
pub apart : {h : List Entry} {x : Id} {place : Place} (s : StandsAt h x place) (n : ℕ) → place.at < size (sealed_part n h) → place.at + place.length ≤ size (sealed_part n h)
apart {h} {x} {place} s n less = elim (lies s n) as (λ _. place.at + place.length ≤ size (sealed_part n h)) [ inl in_it ↦ (let ends = in_it.ends in omega arith) | inr behind ↦ absurd (let starts = behind.starts in omega arith) ]

-- ---- what waits has its id

drop_one : (n : ℕ) (xs : List ℕ) → drop n (drop 1 xs) ≡ drop (suc n) xs
drop_one zero [] = refl
drop_one (suc n) [] = refl
drop_one n (x ∷ xs) = refl

waiting_bodies : {h : List Entry} {x : Id} {place : Place} (s : StandsAt h x place) (n : ℕ) → n ≤ length (bodies s.before) → drop n (bodies h) ≡ bodies (rest n s.before ++ stored_at s.who x place.length ∷ s.later)
waiting_bodies {h} {x} {place} s n le =
    ap (drop n) (whole s)
    ∙ drop-append-le n (bodies s.before) (Content x place.length ∷ bodies s.later) le
    ∙ ap (λ bs. bs ++ Content x place.length ∷ bodies s.later) (sym (bodies_rest n s.before))
    ∙ sym (bodies-append (rest n s.before) (stored_at s.who x place.length ∷ s.later))

-- where a content stands among the records
place_in : (before later : List Body) (x : Id) (n : ℕ) (bytes : List ℕ) → HoldsRecords (before ++ Content x n ∷ later) bytes → IsContent x n (take n (drop (sum_by record_len before + 6) bytes))
place_in [] later x n bytes holds = first_place x n holds.0 holds.1 bytes holds.2 holds.3
place_in (body ∷ before) later x n bytes holds =
    let front = open_record holds.0 in
    let len = record_measured body holds.0 holds.2 in
    let cons = sum_by-cons record_len body before in
    let far : sum_by record_len (body ∷ before) + 6 ≡ length front + (sum_by record_len before + 6) = omega arith in
    subst (λ t. IsContent x n (take n t)) (sym ((λ i. drop (far i) (holds.3 i)) ∙ drop-append-add front holds.1 (sum_by record_len before + 6)))
    (place_in before later x n holds.1 holds.4)

pub waiting_content : {h : List Entry} {x : Id} {place : Place} (s : StandsAt h x place) (n : ℕ) (bytes : List ℕ) → Behind s n → IsPending h n bytes → IsContent x place.length (take place.length (drop (place.at - size (sealed_part n h)) bytes))
waiting_content {h} {x} {place} s n bytes behind p =
    let k = sum_by record_len (bodies (rest n s.before)) in
    let all = records p.payloads ++ 0 ∷ [] in
    let is = waiting_bodies s n behind.before ∙ bodies-append (rest n s.before) (stored_at s.who x place.length ∷ s.later) in
    let are = subst (λ bs. ArePayloads bs p.payloads) is p.are in
    let holds = holds_records (bodies (rest n s.before) ++ Content x place.length ∷ bodies s.later) p.payloads 0 [] are (λ e. absurd cc) in
    let far = far_behind s n behind.before in
    let place_is : k + 5 ≡ place.at - size (sealed_part n h) = omega arith in
    let next : suc (k + 5) ≡ k + 6 = omega arith in
    let there : drop (k + 6) all ≡ drop (place.at - size (sealed_part n h)) bytes =
    ap (λ m. drop m all) (sym next)
    ∙ sym (drop_one (k + 5) all)
    ∙ ap (λ m. drop m (group p.payloads)) place_is
    ∙ ap (drop (place.at - size (sealed_part n h))) (sym p.is) in
    subst (λ t. IsContent x place.length (take place.length t)) there (place_in (bodies (rest n s.before)) (bodies s.later) x place.length all holds)

-- what is in the sealed part is in each longer one
further_in : {h : List Entry} {x : Id} {place : Place} (s : StandsAt h x place) (n more : ℕ) → InFile s n → n ≤ more → InFile s more
further_in {h} {x} {place} s n more in_it le = elim (lies s more) as (λ _. InFile s more) [
  | inl there ↦ there
  | inr behind ↦ absurd (let ends = in_it.ends in let starts = behind.starts in let grows = part_least n more h le in omega arith)
]

-- ---- an honest disk gives the content

content_stands : (header : Header) {h : List Entry} {x : Id} {place : Place} (s : StandsAt h x place) (g later : List Entry) (image : List ℕ) → bodies g ≡ bodies (s.before ++ stored_at s.who x place.length ∷ later) → Stands header image g → IsContent x place.length (take place.length (drop place.at image))
content_stands header {h} {x} {place} s g later image is stands =
    subst (λ a. IsContent x place.length (take place.length (drop a image))) (sym s.at_is)
    (content_place header image s.before later s.who x place.length (stands-same header image g (s.before ++ stored_at s.who x place.length ∷ later) is stands))

-- what an honest disk gives at its place is the content
pub honest_content : (opening : Opening) {h : List Entry} {x : Id} {place : Place} (s : StandsAt h x place) (n : ℕ) {reach : ℕ} (m : Meaning) (bytes : List ℕ) → InFile s n
    → IsSound opening h n reach m → disk.IsSound m → IsTrue m.honest → bytes ≡ take place.length (drop place.at m.state.reads) → IsContent x place.length bytes
honest_content opening {h} {x} {place} s n {reach} m bytes in_it sound told honest read =
    let leaves = sound.leaves honest in
    subst (λ b. IsContent x place.length b) (sym read)
    (elim (leaves.now m.state.reads (told.image honest)) as (λ _. IsContent x place.length (take place.length (drop place.at m.state.reads))) [
      | inl stands ↦ content_stands opening.header s (sealed_part n h) in_it.later m.state.reads in_it.is stands
      | inr further ↦ (let more = further_in s n reach in_it sound.reaches in content_stands opening.header s (sealed_part reach h) more.later m.state.reads more.is further)
    ])

-- ---- a content that isn't in the sealed part

some_first : (b : Bool) (n : ℕ) (o : Option ℕ) → b ≡ true → option_or (cond b (Some n) None) o ≡ None → ⊥
some_first true n o e none = absurd cc
some_first false n o e none = absurd (true≢false (sym e))

none_later : (o p : Option ℕ) → option_or o p ≡ None → p ≡ None
none_later None p none = none
none_later (Some n) p none = absurd cc

has_content : (bs cs : List Body) (x : Id) (n : ℕ) → content_len (map unnumbered (bs ++ Content x n ∷ cs)) x ≡ None → ⊥
has_content [] cs x n none = some_first (bytes_eq x x) n (content_len (map unnumbered cs) x) (same_id x) none
has_content (b ∷ bs) cs x n none = has_content bs cs x n (none_later (length_in x b) (content_len (map unnumbered (bs ++ Content x n ∷ cs)) x) none)

pub not_sealed : {h : List Entry} {x : Id} {place : Place} (s : StandsAt h x place) (n : ℕ) → content_len (sealed_part n h) x ≡ None → Behind s n
not_sealed {h} {x} {place} s n none =
    elim (lies s n) as (λ _. Behind s n) [
      | inl in_it ↦ absurd (
          let parts = sym (bodies_part n h) ∙ in_it.is ∙ bodies-append s.before (stored_at s.who x place.length ∷ in_it.later) in
          has_content (bodies s.before) (bodies in_it.later) x place.length (subst (λ bs. content_len (map unnumbered bs) x ≡ None) parts none))
      | inr behind ↦ behind
    ]
