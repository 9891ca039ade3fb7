-- What stays so of a repository in a file: through a read, and when the seats are cleared.
use Rattle.std.proofs.Common.{◌≡◌, ℕ, ◌+◌, ◌≤◌, ◌<◌, Bool, true, false, List, [], ◌∷◌, ◌++◌, length, map, refl, sym, ap, subst, ◌∙◌, arith}
use Rattle.std.specs.Prelude.{cond, IsTrue, Option, None, Some, MatchOption, IsSome}
use mathlib.Core.Logic.{inl, inr}
use Rattle.ports.specs.Faults.{Counts, Rose}
use Rattle.disk_model.specs.Images.{IsImage}
use Rattle.disk_model.specs.Meaning.{Meaning, IsLong}
use Rattle.disk_model.specs.Calls.{Kept, LeavesOnly, Looked}
use Rattle.history_model.specs.History.{Body, Fault, Entry, bodies, is_stored}
use Rattle.std.specs.List.{AllByRecursion}
use Rattle.history_model.specs.Journal.{Header, HoldsParts, IsPayload, Keeps, record_len, size}
use Rattle.reply_model.specs.Legal.{MayFollow, IsLegal}
use Rattle.reply_model.proofs.Histories.{IsLegal-push, size-push}
use Rattle.repo_journal.specs.Sealing.{AllClosed}
use Rattle.repo_journal.specs.Groups.{with_group}
use Rattle.repo_journal.specs.View.{JournalView}
use Rattle.repo_journal.specs.declared.left.Left as lefts
use Rattle.repo_journal.proofs.Histories.{shape_of}
use Rattle.opening_laws.proofs.Made.{is_made}
use Rattle.bookmark_lock.specs.Opening.{Opening}
use Rattle.repo_machine.specs.Held.{Room}
use Rattle.repo_state.specs.Groups.{left_of, reach_of}
use Rattle.repo_state.specs.Images.{IsPending}
use Rattle.repo_state.specs.State.{IsQuiet, faults_in, Covers, IsSound, Agrees, HasFaultRoom, opening_of, unseated}
use Rattle.blob_disk.proofs.Clients.{kept_none, kept_then}
use Rattle.repo_state.proofs.GroupParts.{part_same, pending_same}
use Rattle.repo_state.proofs.Leaving.{leaves_read, leaves_read_failed, leaves_cleared}
use Rattle.repo_state.proofs.Going.{Goes, HasLength, goes_looked, goes_same, length_same}
use Rattle.repo_state.proofs.LeftOver.{left_journal, left_looked}
use Rattle.repo_state.proofs.Stands.{bodies-fault, faults-fault, size-same, bodies-cleared, is_down-cleared, faults-cleared, no_fault-cleared}
use Rattle.landing_core.proofs.Down.{down-fault as is_down-fault}
use Rattle.repo_machine.proofs.MadeReady.{payload_length}

-- ---- counts of faults

pub covers_on : (f first before after : ℕ) → before ≤ after → Covers f first before → Covers f first after
covers_on f first before after grows (inl few) = inl (omega arith)
covers_on f first before after grows (inr last) = inr (omega arith)

pub covers_one : (f first before after : ℕ) → before ≤ after → Covers f first before → Rose before after → Covers (f + 1) first after
covers_one f first before after grows (inr last) rose = inr (omega arith)
covers_one f first before after grows (inl few) (inl more) = inl (omega arith)
covers_one f first before after grows (inl few) (inr is) = inr (omega arith)

-- ---- the room of a record

pub fits : (header : Header) (h : List Entry) (body : Body) (payload : List ℕ) → is_stored body ≡ true → MayFollow header h body → IsPayload body payload → size h + 5 + length payload ≤ header.capacity
fits header h body payload s follows is = let len = payload_length body payload is in let room = (is_made header h body s follows).fits in omega arith

-- with the entry the file is longer by its record
pub size_with : (h : List Entry) (entry : Entry) (payload : List ℕ) → is_stored entry.body ≡ true → IsPayload entry.body payload → size h + 5 + length payload ≡ size (h ++ entry ∷ [])
size_with h entry payload s is =
    let len = payload_length entry.body payload is in
    let more = size-push h entry ∙ ap (λ b. size h + cond b (record_len entry.body) 0) s in
    omega arith

pub all_closed : (header : Header) (h : List Entry) (m : Meaning) → Keeps header (IsImage m.state) h → AllClosed (size h) m.state
all_closed header h m keeps image is = (shape_of header h image (keeps image is)).closed

pub was_honest : (m new : Meaning) → Kept m new → IsTrue new.honest → IsTrue m.honest
was_honest m new kept honest = sym kept.honest ∙ honest

-- ---- of all fields

abbrev pub Holds : Meaning → Meaning → Header → List Entry → ℕ → ℕ → JournalView → Type 0
Holds first m header h n upto journal = IsSound (opening_of header journal.opening first) h n (reach_of n (left_of upto journal.left)) m × Agrees header h n upto journal m

-- at other names of the same values
pub holds_at : (first m : Meaning) (header header1 : Header) (h h1 : List Entry) (n upto : ℕ) (journal : JournalView) → header1 ≡ header → h1 ≡ h → Holds first m header h n upto journal → Holds first m header1 h1 n upto journal
holds_at first m header header1 h h1 n upto journal eh e holds = subst (λ x. Holds first m x h1 n upto journal) (sym eh) (subst (λ x. Holds first m header x n upto journal) (sym e) holds)

-- with more room for what waits
pub holds_reserved : (first m : Meaning) (header : Header) (h : List Entry) (n upto : ℕ) (journal after : JournalView) → after ≡ record journal { pending = after.pending } → after.pending.bytes ≡ journal.pending.bytes → Holds first m header h n upto journal → Holds first m header h n upto after
holds_reserved first m header h n upto journal after same bytes holds = (
  subst (λ (j : JournalView). IsSound (opening_of header j.opening first) h n (reach_of n (left_of upto j.left)) m) (sym same) holds.0,
  (let size_is = ap (λ (j : JournalView). j.size) same in
      let left_is = ap (λ (j : JournalView). j.left) same in
      record {
        capacity_is = ap (λ (j : JournalView). j.capacity) same ∙ holds.1.capacity_is;
        fits = holds.1.fits;
        size_is = size_is ∙ holds.1.size_is;
        left = left_journal header h n upto journal after m bytes left_is holds.1.left;
        long = subst (λ k. IsLong m.reads k) (sym size_is) holds.1.long;
        waits = subst (λ b. IsPending h n b) (sym bytes) holds.1.waits;
        group = subst (λ (o : Option lefts.Left). HasLength o h n upto) (sym left_is) holds.1.group;
        going = subst (λ (o : Option lefts.Left). Goes header h n upto after.size after.pending.bytes m o) (sym left_is)
            (subst (λ k. Goes header h n upto k after.pending.bytes m journal.left) (sym size_is) (subst (λ b. Goes header h n upto journal.size b m journal.left) (sym bytes) holds.1.going));
        holds = λ honest. subst (λ f. AllByRecursion (HoldsParts f (bodies h)) (bodies h)) (λ i. with_group (sym size_is i) (sym bytes i) m.state.reads) (holds.1.holds honest);
        stable = λ honest none. holds.1.stable honest (sym left_is ∙ none);
      }),
)

-- with more room
pub room_kept : (h h1 : List Entry) (n : ℕ) (room room1 : Room) → h1 ≡ h → room.entries ≤ room1.entries → HasFaultRoom h n room → HasFaultRoom h1 n room1
room_kept h h1 n room room1 e more has = subst (λ g. HasFaultRoom g n room1) (sym e) (λ up some. (let one = has up some in omega arith))

-- ---- a read

pub record Read (fails : Bool) (m new : Meaning) : Type 0 where
  pub kept : Kept m new
  pub counts : Counts m.faults new.faults fails
  pub calm : IsSome m.quiet → fails ≡ false
  pub looked : Looked m new
  pub only : IsTrue m.honest → LeavesOnly (IsImage new.state) m new

pub sound_read : (opening : Opening) (h : List Entry) (n reach : ℕ) (m new : Meaning) → Read false m new → IsSound opening h n reach m → IsSound opening h n reach new
sound_read opening h n reach m new done sound = record {
  legal = sound.legal;
  begins = sound.begins;
  reaches = sound.reaches;
  within = sound.within;
  calm = sound.calm;
  honest = sound.honest ∙ sym done.kept.honest;
  quiet = sound.quiet ∙ sym done.kept.quiet;
  begun = sound.begun;
  kept = kept_then opening.disk m new sound.kept done.kept;
  covers = covers_on (faults_in h) opening.faults m.faults new.faults done.counts.grows sound.covers;
  most = done.counts.most sound.most;
  leaves = λ honest. (let was = was_honest m new done.kept honest in leaves_read opening.header opening.length opening.moment h n reach opening.disk m new sound.begun sound.kept sound.begins (done.looked was) (done.only was) (sound.leaves was));
}

pub some_quiet : (opening : Opening) (m : Meaning) → opening.quiet ≡ m.quiet → IsQuiet opening → IsSome m.quiet
some_quiet opening m same quiet = subst (λ q. IsSome q) same (by opening.quiet quiet)
  where
    by : (q : Option ℕ) → MatchOption q ⊥ (λ n. opening.header.capacity ≤ n) → IsSome q
    by None e = absurd e
    by (Some n) e = search

pub sound_read_failed : (opening : Opening) (h : List Entry) (n reach who : ℕ) (m new : Meaning) → Read true m new → IsSound opening h n reach m → IsSound opening (h ++ record { who = who; body = Fault false } ∷ []) n reach new
sound_read_failed opening h n reach who m new done sound =
    let fault : Entry = record { who = who; body = Fault false } in
    record {
      legal = (IsLegal-push opening.header h fault).1 (sound.legal, refl);
      begins = sound.begins;
      reaches = sound.reaches;
      within = subst (λ (bs : List Body). reach ≤ length bs) (sym (bodies-fault h who false)) sound.within;
      calm = λ quiet. absurd (let none : true ≡ false = done.calm (some_quiet opening m sound.quiet quiet) in absurd cc);
      honest = sound.honest ∙ sym done.kept.honest;
      quiet = sound.quiet ∙ sym done.kept.quiet;
      begun = sound.begun;
      kept = kept_then opening.disk m new sound.kept done.kept;
      covers = subst (λ f. Covers f opening.faults new.faults) (sym (faults-fault h who false)) (covers_one (faults_in h) opening.faults m.faults new.faults done.counts.grows sound.covers (done.counts.cause refl));
      most = done.counts.most sound.most;
      leaves = λ honest. (let was = was_honest m new done.kept honest in leaves_read_failed opening.header opening.length opening.moment h n reach who opening.disk m new sound.begun sound.kept sound.begins (done.looked was) (done.only was) (sound.leaves was));
    }

-- ---- when the seats are cleared

pub sound_cleared : (opening : Opening) (h : List Entry) (n reach : ℕ) (m : Meaning) → IsLegal opening.header (map unseated h) → IsSound opening h n reach m → IsSound opening (map unseated h) n reach m
sound_cleared opening h n reach m legal sound = record {
  legal = legal;
  begins = sound.begins;
  reaches = sound.reaches;
  within = subst (λ (bs : List Body). reach ≤ length bs) (sym (bodies-cleared h)) sound.within;
  calm = λ quiet. no_fault-cleared h (sound.calm quiet);
  honest = sound.honest;
  quiet = sound.quiet;
  begun = sound.begun;
  kept = sound.kept;
  covers = subst (λ f. Covers f opening.faults m.faults) (sym (faults-cleared h)) sound.covers;
  most = sound.most;
  leaves = λ honest. leaves_cleared opening.header opening.length opening.moment h n reach opening.disk m (sound.leaves honest);
}

pub room_cleared : (h h1 : List Entry) (n : ℕ) (room room1 : Room) → h1 ≡ map unseated h → room1 ≡ room → HasFaultRoom h n room → HasFaultRoom h1 n room1
room_cleared h h1 n room room1 e same has =
    subst (λ g. HasFaultRoom g n room1) (sym e)
    (subst (λ r. HasFaultRoom (map unseated h) n r) (sym same) (λ up some. has (sym (is_down-cleared h) ∙ up) (subst (λ bs. n < length bs) (bodies-cleared h) some)))

-- ---- the journal

abbrev AllHold : JournalView → List Body → Meaning → Type 0
AllHold journal bs m = AllByRecursion (HoldsParts (with_group journal.size journal.pending.bytes m.state.reads) bs) bs

holds_looked : (journal : JournalView) (bs cs : List Body) (m new : Meaning) → bs ≡ cs → Kept m new → Looked m new → (IsTrue m.honest → AllHold journal bs m) → IsTrue new.honest → AllHold journal cs new
holds_looked journal bs cs m new same kept looked holds honest =
    let was = was_honest m new kept honest in
    subst (λ d. AllByRecursion (HoldsParts (with_group journal.size journal.pending.bytes d.reads) cs) cs) (sym (looked was)) (subst (λ bs. AllHold journal bs m) same (holds was))

stable_looked : (none : Type 0) (m new : Meaning) → Kept m new → Looked m new → (IsTrue m.honest → none → (image : List ℕ) → IsImage m.state image → image ≡ m.state.reads) → IsTrue new.honest → none → (image : List ℕ) → IsImage new.state image → image ≡ new.state.reads
stable_looked none m new kept looked stable honest up image left =
    let was = was_honest m new kept honest in
    let same = looked was in
    stable was up image (subst (λ d. IsImage d image) same left) ∙ ap (λ d. d.reads) (sym same)

pub agrees_read : (header : Header) (h : List Entry) (n upto : ℕ) (journal : JournalView) (m new : Meaning) → Kept m new → Looked m new → (IsTrue m.honest → LeavesOnly (IsImage new.state) m new) → Agrees header h n upto journal m → Agrees header h n upto journal new
agrees_read header h n upto journal m new kept looked only agrees = record {
  capacity_is = agrees.capacity_is;
  fits = agrees.fits;
  size_is = agrees.size_is;
  left = left_looked header h h n journal.pending.bytes (left_of upto journal.left) m new refl refl kept looked agrees.left;
  long = kept.no_shorter journal.size agrees.long;
  waits = agrees.waits;
  group = agrees.group;
  going = goes_looked header h n upto journal.size journal.pending.bytes m new journal.left kept looked only agrees.going;
  holds = holds_looked journal (bodies h) (bodies h) m new refl kept looked agrees.holds;
  stable = stable_looked (journal.left ≡ None) m new kept looked agrees.stable;
}

pub agrees_read_failed : (header : Header) (h : List Entry) (n upto who : ℕ) (journal : JournalView) (m new : Meaning) → Kept m new → Looked m new → (IsTrue m.honest → LeavesOnly (IsImage new.state) m new) → Agrees header h n upto journal m → Agrees header (h ++ record { who = who; body = Fault false } ∷ []) n upto journal new
agrees_read_failed header h n upto who journal m new kept looked only agrees =
    let more : List Entry = h ++ record { who = who; body = Fault false } ∷ [] in
    let same = sym (bodies-fault h who false) in
    record {
      capacity_is = agrees.capacity_is;
      fits = subst (λ s. s ≤ header.capacity) (size-same h more same) agrees.fits;
      size_is = agrees.size_is ∙ ap (λ (g : List Entry). size g) (part_same n h more same);
      left = left_looked header h more n journal.pending.bytes (left_of upto journal.left) m new same (is_down-fault h who) kept looked agrees.left;
      long = kept.no_shorter journal.size agrees.long;
      waits = pending_same h more n journal.pending.bytes same agrees.waits;
      group = length_same journal.left h more n upto same agrees.group;
      going = goes_same header h more n upto journal.size journal.pending.bytes new journal.left same (goes_looked header h n upto journal.size journal.pending.bytes m new journal.left kept looked only agrees.going);
      holds = holds_looked journal (bodies h) (bodies more) m new same kept looked agrees.holds;
      stable = stable_looked (journal.left ≡ None) m new kept looked agrees.stable;
    }

pub agrees_cleared : (header : Header) (h : List Entry) (n upto : ℕ) (journal : JournalView) (m : Meaning) → Agrees header h n upto journal m → Agrees header (map unseated h) n upto journal m
agrees_cleared header h n upto journal m agrees =
    let same = sym (bodies-cleared h) in
    record {
      capacity_is = agrees.capacity_is;
      fits = subst (λ s. s ≤ header.capacity) (size-same h (map unseated h) same) agrees.fits;
      size_is = agrees.size_is ∙ ap (λ (g : List Entry). size g) (part_same n h (map unseated h) same);
      left = left_looked header h (map unseated h) n journal.pending.bytes (left_of upto journal.left) m m same (is_down-cleared h) (kept_none m) (λ _. refl) agrees.left;
      long = agrees.long;
      waits = pending_same h (map unseated h) n journal.pending.bytes same agrees.waits;
      group = length_same journal.left h (map unseated h) n upto same agrees.group;
      going = goes_same header h (map unseated h) n upto journal.size journal.pending.bytes m journal.left same agrees.going;
      holds = λ honest. subst (λ bs. AllHold journal bs m) same (agrees.holds honest);
      stable = agrees.stable;
    }
