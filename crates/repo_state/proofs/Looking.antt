-- A read of a content of a repository: from its file, or from memory where it waits.
use Rattle.std.proofs.Common.{◌≡◌, ◌≢◌, ℕ, ◌+◌, ◌-◌, ◌≤◌, ◌<◌, Bool, true, false, cond, List, [], ◌∷◌, ◌++◌, length, map, take, drop, refl, sym, ap, subst, ◌∙◌, arith}
use Rattle.std.specs.Prelude.{◌⊎◌, Contains, IsSome, IsTrue, Option, None, Some, Vec, Result, Ok, Err, IfOk, IfErr, OnOk, bytes_eq, is_err, unwrap_or}
use Rattle.std.specs.Option.{ForSome}
use mathlib.Core.Bool.{true≢false}
use mathlib.Core.Logic.{inl, inr}
use Rattle.std.proofs.Math.Seq.{take-append_seam, drop-append_seam}
use Rattle.std.proofs.lemmas.Slice.Eq.{bytes_eq-Decides}
use Rattle.sha2.specs.Sha256.{sha256}
use Rattle.byte_fields.specs.Bytes.{Id}
use Rattle.byte_fields.proofs.Lists.{contains_head, contains_tail}
use Rattle.disk_model.specs.Meaning as disk
use Rattle.history_model.specs.History.{content_len, is_whole, whole_parts}
use Rattle.reply_model.specs.Legal.{IsLegal}
use Rattle.reply_model.specs.Reply.{ContentOf}
use Rattle.reply_model.specs.After.{Answers, Looks, Replies, nothing}
use Rattle.bookmark_lock.specs.Opening.{Opening}
use Rattle.content_table.specs.declared.part.Part.{Part}
use Rattle.content_table.specs.declared.place.Place.{Place}
use Rattle.repo_machine.specs.Indexes.{StandsAt}
use Rattle.repo_calls.specs.declared.calls.AskFault.{AskFault}
use Rattle.repo_calls.specs.declared.calls.AskFault.TheVariants.{BadBytes}
use Rattle.repo_calls.specs.Asking.{bytes_answer, fault_answer, is_bad_bytes, is_read_fault}
use Rattle.repo_state.specs.Asking.{ArePartsRead, IsDigestThen, IsOfParts, IsReadFor, IsSingle, IsThere, IsUnsealed, IsWaiting, TellsDigest, WasThere, other_part, told_other}
use Rattle.repo_state.specs.Joining.{ids_of}
use Rattle.repo_state.proofs.Answered.{bytes_answered, bad_bytes_answered, unmade}
use Rattle.repo_state.proofs.Contents.{InFile, Behind, lies, apart, content_inside, waiting_content, honest_content, not_sealed}
use Rattle.repo_state.proofs.GroupParts.{pending_size}
use Rattle.repo_state.proofs.Held.{content_parts, content_single}
use Rattle.ports.specs.Faults.{Counts}
use Rattle.disk_model.specs.Images.{IsImage}
use Rattle.disk_model.specs.Meaning.{Meaning}
use Rattle.disk_model.specs.Calls.{Kept, LeavesOnly, Looked}
use Rattle.history_model.specs.History.{Fault, Entry}
use Rattle.history_model.specs.Journal.{Header, size}
use Rattle.reply_model.specs.After.{entry_by}
use Rattle.repo_journal.specs.View.{JournalView}
use Rattle.repo_state.specs.Images.{sealed_part}
use Rattle.repo_state.specs.Groups.{left_of, reach_of}
use Rattle.repo_state.specs.State.{State, IsSound, Agrees, opening_of, unseated}
use Rattle.repo_state.proofs.Sounds.{Holds, holds_at, Read, sound_read, sound_read_failed, agrees_read, agrees_read_failed, sound_cleared, agrees_cleared}

pub read_as : (m new : Meaning) (fails b : Bool) → fails ≡ b → Kept m new → Counts m.faults new.faults fails → (IsSome m.quiet → fails ≡ false) → Looked m new → (IsTrue m.honest → LeavesOnly (IsImage new.state) m new) → Read b m new
read_as m new fails b e kept counts calm looked only = subst (λ x. Read x m new) e (record { kept = kept; counts = counts; calm = calm; looked = looked; only = only })

pub holds_read : (header header1 : Header) (h h1 : List Entry) (n upto : ℕ) (journal : JournalView) (first m new : Meaning) → header1 ≡ header → h1 ≡ h → Read false m new → Holds first m header h n upto journal → Holds first new header1 h1 n upto journal
holds_read header header1 h h1 n upto journal first m new eh e done holds =
    holds_at first new header header1 h h1 n upto journal eh e
    (sound_read (opening_of header journal.opening first) h n (reach_of n (left_of upto journal.left)) m new done holds.0, agrees_read header h n upto journal m new done.kept done.looked done.only holds.1)

pub holds_read_failed : (header header1 header2 : Header) (h h1 h2 : List Entry) (n who upto : ℕ) (journal : JournalView) (first m new : Meaning) → header1 ≡ header → header2 ≡ header1 → h1 ≡ h → h2 ≡ h1 ++ entry_by who (Fault false) ∷ [] → Read true m new
    → Holds first m header h n upto journal → Holds first new header2 h2 n upto journal
holds_read_failed header header1 header2 h h1 h2 n who upto journal first m new eh1 eh2 e1 e2 done holds =
    holds_at first new header header2 (h ++ entry_by who (Fault false) ∷ []) h2 n upto journal (eh2 ∙ eh1) (e2 ∙ ap (λ (g : List Entry). g ++ entry_by who (Fault false) ∷ []) e1)
    (sound_read_failed (opening_of header journal.opening first) h n (reach_of n (left_of upto journal.left)) who m new done holds.0, agrees_read_failed header h n upto who journal m new done.kept done.looked done.only holds.1)

pub holds_cleared : (header header1 : Header) (h h1 : List Entry) (n upto : ℕ) (journal : JournalView) (first m : Meaning) → header1 ≡ header → h1 ≡ map unseated h → IsLegal header1 h1 → Holds first m header h n upto journal → Holds first m header1 h1 n upto journal
holds_cleared header header1 h h1 n upto journal first m eh e legal holds =
    holds_at first m header header1 (map unseated h) h1 n upto journal eh e
    (sound_cleared (opening_of header journal.opening first) h n (reach_of n (left_of upto journal.left)) m (subst (λ x. IsLegal x (map unseated h)) eh (subst (λ g. IsLegal header1 g) e legal)) holds.0, agrees_cleared header h n upto journal m holds.1)

-- what a call that was done told
pub ok_told : {X E P : Type 0} (r : Result X E) → is_err r ≡ false → OnOk r P → P
ok_told (Ok x) e p = p
ok_told (Err x) e p = absurd cc

-- ---- what is told of other bytes

-- of bytes that were read of parts, the first part whose bytes have another id
abbrev HasDigest : Meaning → List Entry → List Part → List ℕ → Type 0
HasDigest m h parts bytes = (other_part parts bytes ≡ None) ⊎ ((wanted found : Id) × (other_part parts bytes ≡ Some (BadBytes wanted found)) × IsDigestThen m h wanted found)

other_read : (m : Meaning) (h : List Entry) (n : ℕ) (parts : List Part) (bytes : List ℕ) → ArePartsRead m h n parts bytes → HasDigest m h parts bytes
other_read m h n [] bytes none = inl refl
other_read m h n (p ∷ parts) bytes (own, rest, is, read, later) = by (other_read m h n parts rest later) (bytes_eq (sha256 own) p.id) refl
  where
    front : take p.place.length bytes ≡ own
    front = (λ i. take (sym read.long i) (is i)) ∙ take-append_seam own rest

    back : drop p.place.length bytes ≡ rest
    back = (λ i. drop (sym read.long i) (is i)) ∙ drop-append_seam own rest

    told : (t : Bool) → bytes_eq (sha256 own) p.id ≡ t → other_part (p ∷ parts) bytes ≡ cond t (other_part parts rest) (Some (BadBytes p.id (sha256 own)))
    told t e = (λ i. cond (bytes_eq (sha256 (front i)) p.id) (other_part parts (back i)) (Some (BadBytes p.id (sha256 (front i))))) ∙ ap (λ t. cond t (other_part parts rest) (Some (BadBytes p.id (sha256 own)))) e

    there : sha256 own ≢ p.id → WasThere m p.place own
    there differ = elim read.read as (λ _. WasThere m p.place own) [ inl waiting ↦ absurd (differ (read.waits waiting)) | inr then ↦ then ]

    by : HasDigest m h parts rest → (t : Bool) → bytes_eq (sha256 own) p.id ≡ t → HasDigest m h (p ∷ parts) bytes
    by (inl none) true e = inl (told true e ∙ none)
    by (inr (wanted, found, some, digest)) true e = inr (wanted, found, told true e ∙ some, digest)
    by behind false e = inr (p.id, sha256 own, told false e, (p.place, read.stands, (own, there (λ same. true≢false (sym ((bytes_eq-Decides (sha256 own) p.id).1 same) ∙ e)), refl)))

-- and which of them it is
abbrev IsAmong : List Part → List ℕ → Type 0
IsAmong parts bytes = (other_part parts bytes ≡ None) ⊎ ((wanted found : Id) × (other_part parts bytes ≡ Some (BadBytes wanted found)) × Contains (ids_of parts) wanted × (found ≢ wanted))

other_among : (parts : List Part) (bytes : List ℕ) → IsAmong parts bytes
other_among [] bytes = inl refl
other_among (p ∷ parts) bytes = by (other_among parts (drop p.place.length bytes)) (bytes_eq (sha256 (take p.place.length bytes)) p.id) refl
  where
    told : (t : Bool) → bytes_eq (sha256 (take p.place.length bytes)) p.id ≡ t → other_part (p ∷ parts) bytes ≡ cond t (other_part parts (drop p.place.length bytes)) (Some (BadBytes p.id (sha256 (take p.place.length bytes))))
    told t e = ap (λ t. cond t (other_part parts (drop p.place.length bytes)) (Some (BadBytes p.id (sha256 (take p.place.length bytes))))) e

    by : IsAmong parts (drop p.place.length bytes) → (t : Bool) → bytes_eq (sha256 (take p.place.length bytes)) p.id ≡ t → IsAmong (p ∷ parts) bytes
    by (inl none) true e = inl (told true e ∙ none)
    by (inr (wanted, found, some, among, differ)) true e = inr (wanted, found, told true e ∙ some, contains_tail p.id wanted (ids_of parts) among, differ)
    by behind false e = inr (
      p.id,
      sha256 (take p.place.length bytes),
      told false e,
      contains_head p.id (ids_of parts),
      λ same. true≢false (sym ((bytes_eq-Decides (sha256 (take p.place.length bytes)) p.id).1 same) ∙ e),
    )

-- ---- the bytes that were read

-- bytes of another id, as they are told
abbrev pub IsOther : Id → List ℕ → List Part → AskFault → Type 0
IsOther x bytes parts fault = (fault ≡ told_other x parts bytes) × (sha256 bytes ≢ x)

bad_answers : (header : Header) (h : List Entry) (x : Id) (bytes : List ℕ) (parts : List Part) → content_len h x ≡ Some (length bytes) → ids_of parts ≡ whole_parts h x → sha256 bytes ≢ x → Answers header h (Looks (ContentOf x)) (fault_answer (told_other x parts bytes)) nothing
bad_answers header h x bytes parts stored ids other =
    elim (other_among parts bytes) as (λ _. Answers header h (Looks (ContentOf x)) (fault_answer (told_other x parts bytes)) nothing) [
      | inl none ↦ subst (λ (o : Option AskFault). Answers header h (Looks (ContentOf x)) (fault_answer (unwrap_or o (BadBytes x (sha256 bytes)))) nothing) (sym none)
          (bad_bytes_answered header h x x (sha256 bytes) (length bytes) stored (contains_head x (whole_parts h x)) other)
      | inr (wanted, found, some, among, differ) ↦ subst (λ (o : Option AskFault). Answers header h (Looks (ContentOf x)) (fault_answer (unwrap_or o (BadBytes x (sha256 bytes)))) nothing) (sym some)
          (bad_bytes_answered header h x wanted found (length bytes) stored (contains_tail x wanted (whole_parts h x) (subst (λ xs. Contains xs wanted) ids among)) differ)
    ]

pub checked_answers : {A : Type 0} (header : Header) (h : List Entry) (x : Id) (bytes : List ℕ) (parts : List Part) (result : Result (Vec ℕ A) AskFault) → content_len h x ≡ Some (length bytes) → ids_of parts ≡ whole_parts h x
    → IfOk result (λ same. (same.items ≡ bytes) × (sha256 bytes ≡ x)) → IfErr result (IsOther x bytes parts)
    → Answers header h (Looks (ContentOf x)) (bytes_answer result) nothing
checked_answers header h x bytes parts (Ok same) stored ids ok err = bytes_answered header h x (length bytes) same.items stored (ap (λ b. sha256 b) ok.0 ∙ ok.1, ap (λ (b : List ℕ). length b) ok.0)
checked_answers header h x bytes parts (Err fault) stored ids ok err =
    subst (λ f. Answers header h (Looks (ContentOf x)) (fault_answer f) nothing) (sym err.0) (bad_answers header h x bytes parts stored ids err.1)

pub checked_replies : {A : Type 0} (header : Header) (h h1 : List Entry) (who : ℕ) (x : Id) (bytes : List ℕ) (parts : List Part) (result : Result (Vec ℕ A) AskFault) → h1 ≡ h → content_len h x ≡ Some (length bytes) → ids_of parts ≡ whole_parts h x
    → IfOk result (λ same. (same.items ≡ bytes) × (sha256 bytes ≡ x)) → IfErr result (IsOther x bytes parts)
    → Replies header h who (Looks (ContentOf x)) (bytes_answer result) h1
checked_replies header h h1 who x bytes parts result e stored ids ok err =
    subst (λ g. Replies header h who (Looks (ContentOf x)) (bytes_answer result) g) (sym e) (unmade header h who (Looks (ContentOf x)) (bytes_answer result) (checked_answers header h x bytes parts result stored ids ok err))

-- of which bytes it is told
told_digest : (T : Type 0) (m : Meaning) (h : List Entry) (n : ℕ) (x : Id) (bytes : List ℕ) (parts : List Part) → IsReadFor m h n x bytes parts → sha256 bytes ≢ x → TellsDigest {T = T} m h n (Err (told_other x parts bytes))
told_digest T m h n x bytes parts there other = by there.read
  where
    by : IsSingle m h n x bytes parts ⊎ IsOfParts m h n x bytes parts → TellsDigest {T = T} m h n (Err (told_other x parts bytes))
    by (inl (none, place, at)) =
        subst (λ ps. TellsDigest {T = T} m h n (Err (told_other x ps bytes))) (sym none)
        (inl (λ file e. elim at.read as (λ _. (place : Place) × StandsAt h x place × (sha256 bytes ≡ sha256 (take place.length (drop place.at file)))) [
          | inl waiting ↦ absurd (other (at.waits waiting))
          | inr read ↦ (place, at.stands, ap (λ b. sha256 b) (read file e))
        ]))
    by (inr (is, read)) =
        elim (other_read m h n parts bytes read) as (λ _. TellsDigest {T = T} m h n (Err (told_other x parts bytes))) [
          | inl none ↦ subst (λ (o : Option AskFault). TellsDigest {T = T} m h n (Err (unwrap_or o (BadBytes x (sha256 bytes))))) (sym none) (inr (inr (parts, there.parts_are, (bytes, read, refl))))
          | inr (wanted, found, some, digest) ↦ subst (λ (o : Option AskFault). TellsDigest {T = T} m h n (Err (unwrap_or o (BadBytes x (sha256 bytes))))) (sym some) (inr (inl digest))
        ]

pub checked_found : {A : Type 0} (m : Meaning) (h : List Entry) (n : ℕ) (x : Id) (bytes : List ℕ) (parts : List Part) (result : Result (Vec ℕ A) AskFault) → IsReadFor m h n x bytes parts
    → IfErr result (IsOther x bytes parts) → TellsDigest m h n result
checked_found m h n x bytes parts (Ok same) there err = tt
checked_found {A = A} m h n x bytes parts (Err fault) there err =
    subst (λ (f : AskFault). TellsDigest {T = Vec ℕ A} m h n (Err f)) (sym err.0) (told_digest (Vec ℕ A) m h n x bytes parts there err.1)

pub checked_honest : {A : Type 0} (x : Id) (bytes : List ℕ) (parts : List Part) (result : Result (Vec ℕ A) AskFault) → sha256 bytes ≡ x → IfErr result (IsOther x bytes parts) → is_bad_bytes result ≡ false
checked_honest x bytes parts (Ok same) is err = refl
checked_honest x bytes parts (Err fault) is err = absurd (err.1 is)

-- what waits has its id
waits_true_id : (m : Meaning) (h : List Entry) (n : ℕ) (x : Id) (bytes : List ℕ) (parts : List Part) → IsUnsealed h n x → IsReadFor m h n x bytes parts → sha256 bytes ≡ x
waits_true_id m h n x bytes parts unsealed there = elim there.read as (λ _. sha256 bytes ≡ x) [
  | inl (none, place, at) ↦ at.waits (not_sealed at.stands n unsealed.0).starts
  | inr (is, read) ↦ absurd (true≢false (sym is ∙ unsealed.1))
]

pub checked_waits : {A : Type 0} (m : Meaning) (h : List Entry) (n : ℕ) (x : Id) (bytes : List ℕ) (parts : List Part) (result : Result (Vec ℕ A) AskFault) → IsUnsealed h n x → IsReadFor m h n x bytes parts → IfErr result (IsOther x bytes parts) → (is_read_fault result ≡ false) × (is_bad_bytes result ≡ false)
checked_waits m h n x bytes parts (Ok same) unsealed there err = (refl, refl)
checked_waits m h n x bytes parts (Err fault) unsealed there err = absurd (err.1 (waits_true_id m h n x bytes parts unsealed there))

-- ---- the bytes, before their digest is compared

module _ {header : Header} {h : List Entry} {n upto : ℕ} {journal : JournalView} {m : Meaning} (agrees : Agrees header h n upto journal m) {x : Id} {place : Place} (s : StandsAt h x place) (len : ℕ) (short : len ≡ place.length) where
  -- the file or what waits has them all
  pub fill_inside : place.at + len ≤ journal.size + length journal.pending.bytes
  fill_inside =
      let within = content_inside s in
      let both = pending_size h n journal.pending.bytes agrees.waits in
      let file = agrees.size_is in
      omega arith

  pub fill_apart : place.at < journal.size → place.at + len ≤ journal.size
  fill_apart less =
      let file = agrees.size_is in
      let whole = apart s n (omega arith) in
      omega arith

  pub fill_waits : IsUnsealed h n x → journal.size ≤ place.at
  fill_waits unsealed =
      let starts = (not_sealed s n unsealed.0).starts in
      let file = agrees.size_is in
      omega arith

pub read_for : (header : Header) (h : List Entry) (n : ℕ) {upto : ℕ} (journal : JournalView) (m : Meaning) (x : Id) (place : Place) (len : ℕ) (bytes : List ℕ) (parts : List Part) → IsLegal header h → Agrees header h n upto journal m → content_len h x ≡ Some place.length → StandsAt h x place → len ≡ place.length → length bytes ≡ len → parts ≡ []
    → (place.at < journal.size → ForSome m.reads (λ file. bytes ≡ take len (drop place.at file))) → (journal.size ≤ place.at → bytes ≡ take len (drop (place.at - journal.size) journal.pending.bytes)) → IsReadFor m h n x bytes parts
read_for header h n journal m x place len bytes parts legal agrees found s short long none read waits = record {
  stored = found ∙ ap Some (sym short ∙ sym long);
  parts_are = ap (λ (ps : List Part). ids_of ps) none ∙ sym (ap (λ g. whole_parts g x) s.history_is ∙ content_parts header s.before s.later s.who x place.length (subst (IsLegal header) s.history_is legal));
  read = inl (none, place, record { stands = s; long = long ∙ short; read = by (lies s n); waits = waiting (lies s n) });
}
  where
    file : journal.size ≡ size (sealed_part n h)
    file = agrees.size_is

    by : InFile s n ⊎ Behind s n → IsWaiting h n place.at ⊎ IsThere m.reads place bytes
    by (inl in_it) = (let ends = in_it.ends in inr (λ f e. read (omega arith) f e ∙ ap (λ k. take k (drop place.at f)) short))
    by (inr behind) = inl behind.starts

    waiting : InFile s n ⊎ Behind s n → IsWaiting h n place.at → sha256 bytes ≡ x
    waiting (inl in_it) starts = absurd (let ends = in_it.ends in omega arith)
    waiting (inr behind) starts =
        let is : bytes ≡ take place.length (drop (place.at - size (sealed_part n h)) journal.pending.bytes) = waits (omega arith) ∙ (λ i. take (short i) (drop (place.at - file i) journal.pending.bytes)) in
        ap (λ b. sha256 b) is ∙ (waiting_content s n journal.pending.bytes behind agrees.waits).0

-- a content's own bytes, on an honest disk
pub single_honest : (opening : Opening) (h : List Entry) (n : ℕ) {reach : ℕ} (m : Meaning) (x : Id) (place : Place) (bytes : List ℕ) (parts : List Part) → IsSound opening h n reach m → disk.IsSound m → StandsAt h x place → IsReadFor m h n x bytes parts → IsTrue m.honest → sha256 bytes ≡ x
single_honest opening h n m x place bytes parts sound told s there honest = by there.read
  where
    by : IsSingle m h n x bytes parts ⊎ IsOfParts m h n x bytes parts → sha256 bytes ≡ x
    by (inr (is, read)) = absurd (true≢false (sym is ∙ ap (λ g. is_whole g x) s.history_is ∙ content_single opening.header s.before s.later s.who x place.length (subst (IsLegal opening.header) s.history_is sound.legal)))
    by (inl (none, place, at)) = elim at.read as (λ _. sha256 bytes ≡ x) [
      | inl waiting ↦ at.waits waiting
      | inr read ↦ elim (lies at.stands n) as (λ _. sha256 bytes ≡ x) [
        | inl in_it ↦ (honest_content opening at.stands n m bytes in_it sound told honest (read m.state.reads (told.reads honest))).0
        | inr behind ↦ at.waits behind.starts
      ]
    ]

-- ---- what is required, of the values inside

pub stands_inside : {inside now : State} {x : Id} {place : Place} → inside ≡ now → StandsAt now.history x place → StandsAt inside.history x place
stands_inside {inside} {now} {x} {place} same s = subst (λ (s : State). StandsAt s.history x place) (sym same) s

pub stored_inside : {inside now : State} {n : ℕ} → inside ≡ now → (x : Id) → content_len now.history x ≡ Some n → content_len inside.history x ≡ Some n
stored_inside {inside} {now} {n} same x e = ap (λ (s : State). content_len s.history x) same ∙ e
