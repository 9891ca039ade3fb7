-- A file that was read.
use Rattle.std.proofs.Common.{◌≡◌, ℕ, zero, suc, ◌<◌, ◌≤◌, Bool, false, List, [], ◌∷◌, length, refl, sym, ap, subst, ◌∙◌, inl, inr, arith}
use Rattle.std.specs.Prelude.{Option, Some, Result, Ok, Err, IsTrue, MatchResult, IfOk, IfErr, Contains, slice_index_or}
use Rattle.byte_fields.specs.Bytes.{IsBytes}
use Rattle.disk_model.specs.Images.{Disk, IsImage}
use Rattle.disk_model.specs.Meaning.{Meaning, IsSound, LeftSince}
use Rattle.disk_model.specs.Calls.{LeavesOnly, Looked, next_moment}
use Rattle.blob_disk.proofs.Clients.{leaves_weaker}
use Rattle.history_model.specs.History.{Entry, stored}
use Rattle.changeset_model.specs.Version.{Version, First, Second}
use Rattle.history_model.specs.Journal.{Header, Stands, mark}
use Rattle.reply_model.specs.Legal.{IsLegal}
use Rattle.reply_model.specs.Opening.{opens, version_in}
use Rattle.reply_model.specs.Opening as model
use Rattle.repo_journal.specs.Opened.{IsOpened}
use Rattle.repo_journal.specs.View.{JournalView}
use Rattle.opening_laws.proofs.Opening.{opens_exactly, one_header, stands_opens}
use Rattle.recovery.specs.Answers.{IsRefused, OpensAs, TellsNothing, is_disk_fault}
use Rattle.recovery.specs.Headers.{IsHeaded}
use Rattle.recovery.specs.Reading.{IsRead, journal_of}
use Rattle.recovery.specs.Settling.{HasBegun, Spares}
use Rattle.recovery.specs.declared.fault.OpenFault.{OpenFault}
use Rattle.recovery.specs.declared.fault.OpenFault.TheVariants.{NotARepository, Damaged, DiskFault, Memory}
use Rattle.opening_laws.proofs.Opening.{header_read as told_by}

version_at : (v : Version) → version_in (mark v) ≡ Some v
version_at First = refl
version_at Second = refl

-- the version that the mark of a file tells
version_told : (header : Header) (h : List Entry) (file : List ℕ) → Stands header file h → version_in file ≡ Some header.version
version_told header h file stands = ap version_in stands.2 ∙ version_at header.version

same_version : (v w : Version) → ◌≡◌ {A = Option Version} (Some v) (Some w) → v ≡ w
same_version v w e = cc

pub opens_as : (header : Header) (h : List Entry) (file : List ℕ) → IsBytes file → IsHeaded header file → opens file ≡ Ok h → OpensAs header h file
opens_as header h file fits headed is =
    let exact = (opens_exactly file h fits).0 is in
    let other = exact.0 in
    let same : other ≡ header =
    (let e : other.capacity ≡ header.capacity = sym (told_by other file h exact.1) ∙ headed.told in
    let v = same_version other.version header.version (sym (version_told other h file exact.1) ∙ headed.marked) in
    λ i. record { capacity = e i; version = v i }) in
    record { opens_is = is; stands = subst (λ hd. Stands hd file h) same exact.1 }

same_history : (g h : List Entry) → ◌≡◌ {A = Result (List Entry) model.OpenFault} (Ok g) (Ok h) → g ≡ h
same_history g h e = cc

not_both : (h : List Entry) (fault : model.OpenFault) → ◌≡◌ {A = Result (List Entry) model.OpenFault} (Ok h) (Err fault) → ⊥
not_both h fault e = absurd cc

-- what it opens as is what it stands for
pub same_as : (header other : Header) (h g : List Entry) (file : List ℕ) → IsBytes file → OpensAs header h file → Stands other file g → IsLegal other (stored g) → (header ≡ other) × (h ≡ stored g)
same_as header other h g file fits is stands legal =
    (one_header header other file h g is.stands stands, same_history h (stored g) (sym is.opens_is ∙ stands_opens other file g fits stands legal))

-- a file that stands for a legal history isn't refused
pub not_refused : (header : Header) (h : List Entry) (file : List ℕ) (fault : OpenFault) → IsBytes file → Stands header file h → IsLegal header (stored h) → IsRefused file fault → TellsNothing fault
not_refused header h file NotARepository fits stands legal is = not_both (stored h) model.NotARepository (sym (stands_opens header file h fits stands legal) ∙ is)
not_refused header h file (Damaged at) fits stands legal is = not_both (stored h) (model.Damaged at) (sym (stands_opens header file h fits stands legal) ∙ is)
not_refused header h file DiskFault fits stands legal is = tt
not_refused header h file Memory fits stands legal is = tt

-- ---- the disk

-- what a crash may leave at this moment
left_now : (m : Meaning) (image : List ℕ) → IsSound m → LeftSince m m.moment image → IsImage m.state image
left_now m image sound left =
    let now = sound.timed left.0 left.1 in
    let one = subst (λ ds. Contains ds left.2.0) now left.2.1 in
    subst (λ d. IsImage d image) (only m.state left.2.0 one.0 one.1 one.2) left.2.2
  where
    only : (d e : Disk) (k : ℕ) → k < length (d ∷ []) → slice_index_or (d ∷ []) k e ≡ e → e ≡ d
    only d e zero inside is = sym is
    only d e (suc k) inside is = absurd (omega arith)

-- The file was stable once opening had begun, and only read from then on.
module _ (a b c : Meaning) (size moment faults : ℕ) (begun : HasBegun size moment faults a b) (spares : Spares a b false) (sound : IsSound b) (looked : Looked b c) (after : Spares b c false) where
  same_reads : IsTrue a.honest → b.state.reads ≡ a.state.reads
  same_reads honest = (spares.reads honest).reads

  was : IsTrue c.honest → IsTrue a.honest
  was honest = sym spares.kept.honest ∙ sym after.kept.honest ∙ honest

  stands_before : (header : Header) (h : List Entry) → OpensAs header h a.state.reads → IsTrue a.honest → (image : List ℕ) → IsImage b.state image → Stands header image h
  stands_before header h is honest image left = subst (λ i. Stands header i h) (sym (begun.stable honest image left)) is.stands

  stands_since : (header : Header) (h : List Entry) → OpensAs header h a.state.reads → IsTrue a.honest → (image : List ℕ) → LeftSince c moment image → Stands header image h
  stands_since header h is honest image left =
      let early : moment ≤ b.moment = (let e = begun.moment_is in omega arith) in
      elim ((after.crash (spares.kept.honest ∙ honest)).since moment image early left) [
        | inl before ↦ stands_before header h is honest image (left_now b image sound (subst (λ t. LeftSince b t image) begun.moment_is before))
        | inr now ↦ stands_before header h is honest image now
      ]

  pub is_opened : (header : Header) (h : List Entry) → IsRead c header h → (IsTrue a.honest → OpensAs header h a.state.reads) → IsOpened header h (journal_of header h moment faults) c
  is_opened header h read is = record {
    capacity_is = refl;
    size_is = refl;
    whole = refl;
    settled = refl;
    length_is = refl;
    begun = (let e = begun.moment_is in let l = after.kept.later in omega arith);
    counted = (let e = begun.faults_is in let l = after.faults.grows in omega arith);
    most = after.faults.most begun.most;
    long = read.long;
    now = λ honest image left. stands_before header h (is (was honest)) (was honest) image ((after.reads (spares.kept.honest ∙ was honest)).images image left);
    since = λ honest image left. stands_since header h (is (was honest)) (was honest) image left;
    stable = λ honest image left. begun.stable (was honest) image ((after.reads (spares.kept.honest ∙ was honest)).images image left) ∙ sym ((after.reads (spares.kept.honest ∙ was honest)).reads ∙ same_reads (was honest));
  }

-- where nothing but what reads give could be left, it stands for the history all along
pub settled : (a c : Meaning) (header : Header) (h : List Entry) → (IsTrue a.honest → LeavesOnly (IsImage a.state) a c) → (IsTrue a.honest → OpensAs header h a.state.reads) → IsTrue a.honest
    → ((image : List ℕ) → IsImage a.state image → image ≡ a.state.reads) → LeavesOnly (λ image. Stands header image h) a c
settled a c header h crash is honest only =
    leaves_weaker (IsImage a.state) (λ image. Stands header image h) a c (λ image left. subst (λ i. Stands header i h) (sym (only image left)) (is honest).stands) (crash honest)

-- ---- by what opening answers

module _ {T : Type 0} (header_in : T → Header) (history_in : T → List Entry) (journal_in : T → JournalView) where
  abbrev Opens : Meaning → T → Type 0
  Opens m o = IsTrue m.honest → OpensAs (header_in o) (history_in o) m.state.reads

  -- the same was so before the file was stable
  pub opens_before : (a b : Meaning) (failed : Bool) → Spares a b failed → (r : Result T OpenFault) → IfOk r (Opens b) → IfOk r (Opens a)
  opens_before a b failed spares (Ok o) is = λ honest. subst (λ f. OpensAs (header_in o) (history_in o) f) (spares.reads honest).reads (is (spares.kept.honest ∙ honest))
  opens_before a b failed spares (Err e) is = tt

  pub opened_result : (a b c : Meaning) (size moment faults : ℕ) → HasBegun size moment faults a b → Spares a b false → IsSound b → Looked b c → (r : Result T OpenFault) → Spares b c (is_disk_fault r)
      → IfOk r (λ o. IsRead c (header_in o) (history_in o)) → IfOk r (λ o. journal_in o ≡ journal_of (header_in o) (history_in o) moment faults) → IfOk r (Opens a) → IfOk r (λ o. IsOpened (header_in o) (history_in o) (journal_in o) c)
  opened_result a b c size moment faults begun spares sound looked (Ok o) after read journal is =
      subst (λ j. IsOpened (header_in o) (history_in o) j c) (sym journal) (is_opened a b c size moment faults begun spares sound looked after (header_in o) (history_in o) read is)
  opened_result a b c size moment faults begun spares sound looked (Err e) after read journal is = tt

  pub never_damaged : (a : Meaning) → IsSound a → (r : Result T OpenFault) → IfOk r (Opens a) → IfErr r (λ e. IsTrue a.honest → IsRefused a.state.reads e) → IsTrue a.honest → (header : Header) (h : List Entry)
      → Stands header a.state.reads h → IsLegal header (stored h) → MatchResult r (λ o. (header_in o ≡ header) × (history_in o ≡ stored h)) TellsNothing
  never_damaged a sound (Ok o) is refused honest header h stands legal = same_as (header_in o) header (history_in o) h a.state.reads (sound.image honest).are_bytes (is honest) stands legal
  never_damaged a sound (Err e) is refused honest header h stands legal = not_refused header h a.state.reads e (sound.image honest).are_bytes stands legal (refused honest)

  pub settled_result : (a c : Meaning) → (IsTrue a.honest → LeavesOnly (IsImage a.state) a c) → (r : Result T OpenFault) → IfOk r (Opens a)
      → IfOk r (λ o. IsTrue a.honest → ((image : List ℕ) → IsImage a.state image → image ≡ a.state.reads) → LeavesOnly (λ image. Stands (header_in o) image (history_in o)) a c)
  settled_result a c crash (Ok o) is = λ honest only. settled a c (header_in o) (history_in o) crash is honest only
  settled_result a c crash (Err e) is = tt

pub refused_before : {T : Type 0} (a b : Meaning) (failed : Bool) → Spares a b failed → (r : Result T OpenFault) → IfErr r (λ e. IsTrue b.honest → IsRefused b.state.reads e) → IfErr r (λ e. IsTrue a.honest → IsRefused a.state.reads e)
refused_before a b failed spares (Ok o) is = tt
refused_before a b failed spares (Err e) is = λ honest. subst (λ f. IsRefused f e) (spares.reads honest).reads (is (spares.kept.honest ∙ honest))

-- the opening's moment and its count of faults aren't before the call
pub during : {T : Type 0} (header_in : T → Header) (history_in : T → List Entry) (journal_in : T → JournalView) (a b : Meaning) (size moment faults : ℕ) → HasBegun size moment faults a b → Spares a b false → (r : Result T OpenFault)
    → IfOk r (λ o. journal_in o ≡ journal_of (header_in o) (history_in o) moment faults) → IfOk r (λ o. (a.moment ≤ (journal_in o).opening.moment) × (a.faults ≤ (journal_in o).opening.faults))
during header_in history_in journal_in a b size moment faults begun spares (Ok o) journal =
    let is = ap (λ (j : JournalView). j.opening) journal in
    let moment_is : (journal_in o).opening.moment ≡ moment = ap (λ o. o.moment) is in
    let faults_is : (journal_in o).opening.faults ≡ faults = ap (λ o. o.faults) is in
    let m = begun.moment_is in
    let f = begun.faults_is in
    let later = spares.kept.later in
    let more = spares.faults.grows in
    (omega arith, omega arith)
during header_in history_in journal_in a b size moment faults begun spares (Err e) journal = tt

-- they are those right after the sync
pub synced : {T : Type 0} (header_in : T → Header) (history_in : T → List Entry) (journal_in : T → JournalView) (a b : Meaning) (size moment faults : ℕ) → HasBegun size moment faults a b → (r : Result T OpenFault)
    → IfOk r (λ o. journal_in o ≡ journal_of (header_in o) (history_in o) moment faults) → IfOk r (λ o. ((journal_in o).opening.moment ≡ next_moment a) × ((journal_in o).opening.faults ≡ a.faults))
synced header_in history_in journal_in a b size moment faults begun (Ok o) journal =
    let is = ap (λ (j : JournalView). j.opening) journal in
    (ap (λ o. o.moment) is ∙ begun.moment_is ∙ begun.next.moment_is, ap (λ o. o.faults) is ∙ begun.faults_is ∙ begun.next.faults_is)
synced header_in history_in journal_in a b size moment faults begun (Err e) journal = tt
