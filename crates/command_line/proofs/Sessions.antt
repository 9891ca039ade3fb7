-- A session on an opened repository, told of the file that the opener gave.
use Rattle.std.proofs.Common.{◌≡◌, ℕ, ◌-◌, ◌^◌, ◌≤◌, false, List, ◌++◌, length, refl, sym, ap, subst, ◌∙◌, arith}
use Rattle.std.proofs.lemmas.List.{take_all}
use Rattle.std.specs.Prelude.{Option, None, Some, MatchOption, IsTrue}
use Rattle.std.specs.Option.{ForSome}
use mathlib.Core.Logic.{inl, inr}
use mathlib.Core.List.{IsPrefix}
use Rattle.ports.specs.Faults.{Rose}
use Rattle.ports.specs.Openers.{Shelf}
use Rattle.disk_model.specs.Meaning.{Meaning}
use Rattle.disk_model.specs.Meaning as disks
use Rattle.disk_model.specs.Calls.{Kept, LeavesOnly}
use Rattle.history_model.specs.History.{Entry, bodies, is_down, stored}
use Rattle.history_model.specs.Journal.{Header, Stands}
use Rattle.repo_journal.specs.View.{JournalView}
use Rattle.http_front.specs.declared.ended.Ended.{Ended}
use Rattle.http_front.specs.declared.ended.Ended.TheVariants as ends
use Rattle.http_front.specs.Serving.{Finished}
use Rattle.repo_calls.specs.Replying.{Honestly}
use Rattle.http_front.specs.Dating.{DatedBy}
use Rattle.repo_state.specs.Alone.{SealedAlone}
use Rattle.repo_state.specs.Images.{Leaves, sealed_part}
use Rattle.repo_state.specs.State.{State, Covers, HasNoFault, IsAllSealed, IsSealedAlone, IsSound, faults_in, opening_of, reach}
use Rattle.repo_state.proofs.Chains.{leaves_map, leaves_then}
use Rattle.blob_disk.proofs.Clients.{kept_then}
use Rattle.repo_state.proofs.GroupParts.{bodies_part, part_grows}
use Rattle.repo_state.proofs.Leaving.{keeps_up}
use Rattle.repo_state.proofs.Opening.{stored_count}
use Rattle.repo_state.proofs.Stands.{stands-same}
use Rattle.repo_state.proofs.Wider.{sound_alone}
use Rattle.command_line.specs.Opening.{IsSettled, Opens, OpensIn}
use Rattle.command_line.specs.declared.came.Came.{Came}
use Rattle.command_line.specs.Outside.{Told}
use Rattle.command_line.specs.declared.status.Status.{Status}
use Rattle.command_line.specs.Sessions.{EntersNone, IsCalm, LeavesFile, Serves, ServesFile, session_status}
use Rattle.command_line.specs.Serving.{ClosesFile}
use Rattle.command_line.proofs.Entries.{session_adds, adds_prefix, adds_own, of_seat-stored, down_has_fault}

covers_since : (f early late count : ℕ) → early ≤ late → Covers f late count → Covers f early count
covers_since f early late count first (inl few) = inl (omega arith)
covers_since f early late count first (inr last) = inr last

covered_rose : (f before after : ℕ) → 1 ≤ f → after ≤ 2 ^ 64 - 1 → Covers f before after → Rose before after
covered_rose f before after some most (inl few) = inl (omega arith)
covered_rose f before after some most (inr last) = inr (omega arith)

calm_of : (header : Header) (h : List Entry) (quiet : Option ℕ) → (MatchOption quiet ⊥ (λ n. header.capacity ≤ n) → HasNoFault h) → ForSome quiet (λ most. header.capacity ≤ most → HasNoFault h)
calm_of header h None calm = λ most is. absurd cc
calm_of header h (Some n) calm = λ most is. subst (λ (o : Option ℕ). MatchOption o ⊥ (λ n. header.capacity ≤ n) → HasNoFault h) is calm

is_calm : (header : Header) (h : List Entry) (first read : Meaning) → read.quiet ≡ first.quiet → (MatchOption read.quiet ⊥ (λ n. header.capacity ≤ n) → HasNoFault h) → IsCalm header h first
is_calm header h first read same calm = calm_of header h first.quiet (subst (λ q. MatchOption q ⊥ (λ n. header.capacity ≤ n) → HasNoFault h) same calm)

-- where as many are sealed, the sealed part is all of the history
pub stands_whole : (header : Header) (h : List Entry) (n : ℕ) (image : List ℕ) → length (bodies h) ≤ n → Stands header image (sealed_part n h) → Stands header image h
stands_whole header h n image all stands = stands-same header image (sealed_part n h) h (bodies_part n h ∙ take_all n (bodies h) all) stands

-- what the file was opened with is the first of what is sealed
stands_opened : (header : Header) (opened h : List Entry) (image : List ℕ) → opened ≡ stored opened → IsPrefix opened h → Stands header image opened → Stands header image (sealed_part (length opened) h)
stands_opened header opened h image is begins stands =
    let count : length opened ≡ length (bodies opened) = ap (λ (g : List Entry). length g) is ∙ stored_count opened in
    let part : sealed_part (length opened) (opened ++ begins.0) ≡ sealed_part (length opened) opened = part_grows (length opened) opened begins.0 (omega arith) in
    let same : bodies opened ≡ bodies (sealed_part (length opened) h) =
    sym (take_all (length opened) (bodies opened) (omega arith)) ∙ sym (bodies_part (length opened) opened) ∙ ap bodies (sym part) ∙ ap (λ g. bodies (sealed_part (length opened) g)) begins.1 in
    stands-same header image opened (sealed_part (length opened) h) same stands

-- where nothing waits, a crash leaves no more than what is sealed
pub reach_sealed : (h : List Entry) (n upto : ℕ) → length (bodies h) ≤ n → n ≤ upto → upto ≤ length (bodies h) → upto ≡ n
reach_sealed h n upto all least most = omega arith

file_stands : (header : Header) (k moment : ℕ) (h : List Entry) (n upto : ℕ) (read m : Meaning) → disks.IsSound m → IsTrue m.honest → IsAllSealed h n → n ≤ upto → upto ≤ length (bodies h) → is_down h ≡ false → Leaves header k moment h n upto read m → ForSome m.reads (λ bytes. Stands header bytes h)
file_stands header k moment h n upto read m whole honest sealed least most up leaves bytes is =
    let here : Some m.state.reads ≡ Some bytes = sym (whole.reads honest) ∙ is in
    let same : m.state.reads ≡ bytes = cc in
    subst (λ bytes. Stands header bytes h) same (stands_whole header h n m.state.reads (sealed up) (keeps_up header k moment h n read m alone m.state.reads (whole.image honest)))
  where
    alone : Leaves header k moment h n n read m
    alone = subst (λ i. Leaves header k moment h n i read m) (reach_sealed h n upto (sealed up) least most) leaves

file_left : (header : Header) (opened h : List Entry) (n upto moment : ℕ) (first read m : Meaning) → Kept first read → opened ≡ stored opened → IsPrefix opened h → length opened ≤ n
    → (IsSettled first → LeavesOnly (λ image. Stands header image opened) first read)
    → Leaves header (length opened) moment h n upto read m → LeavesFile header opened h n upto moment first m
file_left header opened h n upto moment first read m kept is begins few settled leaves = record {
  now = leaves.now;
  since = leaves.since;
  all = λ was. leaves_then first read m kept
      (leaves_map first read (λ image stands. inl (length opened, omega arith, few, stands_opened header opened h image is begins stands)) (settled was))
      leaves.only;
}

pub closes_file : (header : Header) (opened h : List Entry) (n upto : ℕ) (journal : JournalView) (first read m : Meaning) → disks.IsSound m
    → Opens header opened journal first read → IsPrefix opened h → IsAllSealed h n → IsSound (opening_of header journal.opening read) h n upto m
    → ClosesFile header opened journal first h n upto m
closes_file header opened h n upto journal first read m whole opens begins sealed sound =
    let kept = kept_then first read m opens.unharmed.kept sound.kept in
    let covers = covers_since (faults_in h) first.faults journal.opening.faults m.faults (let same = opens.synced.1 in omega arith) sound.covers in
    let few = subst (λ k. k ≤ n) opens.opened.length_is sound.begins in
    record {
      legal = sound.legal;
      begins = begins;
      calm = is_calm header h first read opens.unharmed.kept.quiet sound.calm;
      covers = covers;
      disk_fault = λ down. covered_rose (faults_in h) first.faults m.faults (down_has_fault h down) sound.most covers;
      sealed_first = few;
      reaches = sound.reaches;
      within = sound.within;
      kept = kept;
      stands = λ honest up. file_stands header journal.opening.length journal.opening.moment h n upto read m whole honest sealed sound.reaches sound.within up (sound.leaves honest);
      leaves = λ honest. file_left header opened h n upto journal.opening.moment first read m opens.unharmed.kept opens.stored_is begins few (λ settled. opens.settled (sym kept.honest ∙ honest) settled)
          (subst (λ k. Leaves header k journal.opening.moment h n upto read m) opens.opened.length_is (sound.leaves honest));
    }

-- a repository that is served alone, from its opening to the end of its session
pub session_serves : {D : Type 0} (meaning : D → Meaning) (tells : ℕ → Type 0) (header : Header) (opened : List Entry) (journal : JournalView) (read : Meaning) (old new : Told) (first seat after last : State) (end : Ended) (disk : D) (status : Status)
    → first.header ≡ header → first.history ≡ opened → first.opening ≡ opening_of header journal.opening read → seat ≡ first
    → Finished (DatedBy tells (Honestly seat.opening.honest (SealedAlone after.sealed)) EntersNone) (record { header = seat.header; who = 0; history = seat.history; rest = old.rest; written = old.written }) after.history new.rest new.written end
    → after.opening ≡ seat.opening → last ≡ after → (end ≡ ends.LinkFault → Rose old.faults new.faults)
    → status ≡ session_status (is_down last.history) end → IsSealedAlone last.history last.sealed
    → meaning disk ≡ last.disk → IsSound last.opening last.history last.sealed (reach last) last.disk
    → Serves meaning tells header opened journal read old new (record { status = status; disk = Some disk })
session_serves meaning tells header opened journal read old new first seat after last end disk status header_is history_is opening_is seat_is finished home last_is link_fault status_is sealed disk_is sound =
    let began = ap (λ (s : State). s.opening) seat_is ∙ opening_is in
    let ended : last.opening ≡ opening_of header journal.opening read = ap (λ (s : State). s.opening) last_is ∙ home ∙ began in
    let honest : seat.opening.honest ≡ read.honest = (λ i. (began i).honest) in
    record {
      disk = disk;
      disk_is = refl;
      history = last.history;
      end = end;
      session = subst (λ (s : State). Finished (DatedBy tells (Honestly read.honest (SealedAlone s.sealed)) EntersNone) (record { header = header; who = 0; history = opened; rest = old.rest; written = old.written }) s.history new.rest new.written end) (sym last_is)
          (subst (λ b. Finished (DatedBy tells (Honestly b (SealedAlone after.sealed)) EntersNone) (record { header = header; who = 0; history = opened; rest = old.rest; written = old.written }) after.history new.rest new.written end) honest
          (subst (λ (h : List Entry). Finished (DatedBy tells (Honestly seat.opening.honest (SealedAlone after.sealed)) EntersNone) (record { header = header; who = 0; history = h; rest = old.rest; written = old.written }) after.history new.rest new.written end) (ap (λ (s : State). s.history) seat_is ∙ history_is)
          (subst (λ (x : Header). Finished (DatedBy tells (Honestly seat.opening.honest (SealedAlone after.sealed)) EntersNone) (record { header = x; who = 0; history = seat.history; rest = old.rest; written = old.written }) after.history new.rest new.written end) (ap (λ (s : State). s.header) seat_is ∙ header_is) finished)));
      status_is = status_is;
      link_fault = link_fault;
      sealed = last.sealed;
      all_sealed = sealed;
      sound = sound_alone (opening_of header journal.opening read) last.history last.sealed (reach last) (meaning disk) sealed
          (subst (λ m. IsSound (opening_of header journal.opening read) last.history last.sealed (reach last) m) (sym disk_is) (subst (λ o. IsSound o last.history last.sealed (reach last) last.disk) ended sound));
    }

pub serves_file : {D : Type 0} (meaning : D → Meaning) (tells : ℕ → Type 0) → ((disk : D) → disks.IsSound (meaning disk)) → (file : List ℕ) (shelf : Option (Shelf D)) (old new : Told) (ran : Came D) (header : Header) (opened : List Entry) (journal : JournalView) (disk : D)
    → OpensIn meaning file shelf header opened journal disk
    → Serves meaning tells header opened journal (meaning disk) old new ran
    → ServesFile meaning tells file shelf old new ran
serves_file meaning tells whole file shelf old new ran header opened journal disk opens serves =
    let adds = session_adds tells (meaning disk).honest serves.sealed (record { header = header; who = 0; history = opened; rest = old.rest; written = old.written }) serves.history new.rest new.written serves.end serves.session in
    let closes = closes_file header opened serves.history serves.sealed (length (bodies serves.history)) journal (meaning opens.first) (meaning disk) (meaning serves.disk) (whole serves.disk) opens.opens (adds_prefix 0 opened serves.history adds) serves.all_sealed.0 serves.sound in
    record {
      disk = serves.disk;
      disk_is = serves.disk_is;
      first = opens.first;
      gives = opens.gives;
      read = meaning disk;
      header = header;
      opened = opened;
      journal = journal;
      opens = opens.opens;
      history = serves.history;
      end = serves.end;
      session = subst (λ honest. Finished (DatedBy tells (Honestly honest (SealedAlone serves.sealed)) EntersNone) (record { header = header; who = 0; history = opened; rest = old.rest; written = old.written }) serves.history new.rest new.written serves.end) opens.opens.unharmed.kept.honest serves.session;
      status_is = serves.status_is;
      link_fault = serves.link_fault;
      legal = closes.legal;
      begins = closes.begins;
      alone = adds_own 0 opened serves.history adds (of_seat-stored opened opens.opens.stored_is);
      sealed = serves.sealed;
      all_sealed = serves.all_sealed;
      sealed_first = closes.sealed_first;
      calm = closes.calm;
      covers = closes.covers;
      disk_fault = closes.disk_fault;
      kept = closes.kept;
      stands = closes.stands;
      leaves = closes.leaves;
    }
