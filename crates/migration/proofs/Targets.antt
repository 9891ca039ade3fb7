-- Copying to the file of a name: what is left of the repository's own disk, and what is so of the copy.
use Rattle.std.proofs.Common.{◌≡◌, ℕ, ◌-◌, ◌^◌, ◌≤◌, false, List, [], length, refl, sym, ap, subst, ◌∙◌, inl, inr, arith}
use Rattle.std.specs.Prelude.{IsSome, IsTrue, IfErr, OnOk, Result, Ok, Err}
use Rattle.std.specs.Option.{ForSome}
use Rattle.ports.specs.Faults.{Counts}
use Rattle.disk_model.specs.Images.{IsImage}
use Rattle.disk_model.specs.Meaning.{Meaning, IsLong, IsSound}
use Rattle.disk_model.specs.Calls.{Kept, LeavesOnly, Looked}
use Rattle.history_model.specs.History.{Entry}
use Rattle.history_model.specs.Journal.{Header, Keeps, Stands, size}
use Rattle.reply_model.specs.Legal.{IsLegal}
use Rattle.repo_journal.specs.Opened.{IsOpened}
use Rattle.repo_journal.specs.View.{JournalView}
use Rattle.migration.specs.Answers.{TellsBytes, is_exists_answer, is_new_fault, is_old_fault}
use Rattle.migration.specs.Copying.{IsUnfinished, LeavesEach, copied, in_second, records_in}
use Rattle.migration.specs.Files.{Copies, IsCopied, OnlyRead, Tells}
use Rattle.migration.specs.declared.fault.MigrateFault.{MigrateFault}
use Rattle.migration.specs.declared.fault.MigrateFault.TheVariants.{Exists, OldFault, NewFault}
use Rattle.migration.proofs.Copies.{stays_legal}

-- each image of it was one before
pub image_before : (m n : Meaning) → OnlyRead m n → IsTrue m.honest → (image : List ℕ) → IsImage n.state image → IsImage m.state image
image_before m n read honest image h = subst (λ d. IsImage d image) (read.looked honest) h

pub still_opened : (header : Header) (h : List Entry) (journal : JournalView) (m n : Meaning) → IsOpened header h journal m → OnlyRead m n → (m.faults ≤ 2 ^ 64 - 1 → n.faults ≤ 2 ^ 64 - 1) → IsOpened header h journal n
still_opened header h journal m n opened read most = record {
  capacity_is = opened.capacity_is;
  size_is = opened.size_is;
  whole = opened.whole;
  settled = opened.settled;
  length_is = opened.length_is;
  begun = (let a = opened.begun in let b = read.kept.later in omega arith);
  counted = (let a = opened.counted in let b = read.grows in omega arith);
  most = most opened.most;
  long = read.kept.no_shorter journal.size opened.long;
  now = λ honest image is. (let was = sym read.kept.honest ∙ honest in opened.now was image (image_before m n read was image is));
  stable = λ honest image is. (let was = sym read.kept.honest ∙ honest in opened.stable was image (image_before m n read was image is) ∙ ap (λ d. d.reads) (sym (read.looked was)));
  since = λ honest image left. (
      let was = sym read.kept.honest ∙ honest in
      elim ((read.time was).since journal.opening.moment image opened.begun left) [
        | inl before ↦ opened.since was image before
        | inr now ↦ opened.now was image (image_before m n read was image now)
      ]);
}

-- ---- the copy

module _ (header : Header) (h : List Entry) (journal : JournalView) (m n old new : Meaning) (opened : IsOpened header h journal m) (read : OnlyRead m n) where
  abbrev Stood : Type 0
  Stood = IsTrue m.honest → IsTrue old.honest → (made : Header) (g : List Entry) → made.capacity ≡ journal.capacity → size g ≡ journal.size → Stands made m.state.reads g → Keeps (in_second made.capacity) (IsImage new.state) g

  is_copied : IsSound m → IsLegal header h → ForSome old.reads (λ file. length file ≡ 0) → Stood → IsLong new.reads journal.size → IsCopied header h n old new
  is_copied sound legal empty stands long = record {
    empty = empty;
    legal = stays_legal header.capacity header.version h legal;
    stands = λ honest honest_old. (
        let was = sym read.kept.honest ∙ honest in
        stands was honest_old header h (sym opened.capacity_is) (sym opened.size_is) (opened.now was m.state.reads (sound.image was)));
    long = subst (IsLong new.reads) opened.size_is long;
  }

  pub tells : {T : Type 0} (result : Result T MigrateFault) → IsSound m → IsLegal header h → OnOk result (ForSome old.reads (λ file. length file ≡ 0)) → OnOk result Stood → OnOk result (IsLong new.reads journal.size)
      → IfErr result (TellsBytes old) → (IsTrue (is_exists_answer result) → Looked old new) → (IsTrue (is_exists_answer result) → LeavesOnly (IsImage new.state) old new)
      → Counts old.faults new.faults (is_new_fault result) → Counts m.faults n.faults (is_old_fault result) → Tells header h m n old new result
  tells (Ok x) sound legal empty stands long bytes looked time counts from = is_copied sound legal empty stands long
  tells (Err (Exists size)) sound legal empty stands long bytes looked time counts from = record { some = bytes.0; bytes_is = bytes.1; looked = looked refl; time = time refl }
  tells (Err OldFault) sound legal empty stands long bytes looked time counts from = from.cause refl
  tells (Err NewFault) sound legal empty stands long bytes looked time counts from = counts.cause refl

  abbrev Crashes : Type 0
  Crashes = IsTrue m.honest → IsTrue old.honest → old.state.reads ≡ [] → LeavesEach (IsUnfinished (copied journal.capacity (records_in journal.size m.state.reads))) old new

  pub copies : {T : Type 0} (result : Result T MigrateFault) → Tells header h m n old new result → ForSome old.quiet (λ most. journal.size ≤ most → is_new_fault result ≡ false) → (IsSome m.quiet → is_old_fault result ≡ false)
      → Crashes → Kept old new → old.faults ≤ new.faults → Copies header h m n old new result
  copies result told quiet source_quiet crash kept grows = record {
    tells = told;
    quiet = λ most is le. quiet most is (let same = opened.size_is in omega arith);
    source_quiet = λ some. source_quiet (subst (λ q. IsSome q) read.kept.quiet some);
    crash = λ honest honest_old empty. (
        let was = sym read.kept.honest ∙ honest in
        let same : copied journal.capacity (records_in journal.size m.state.reads) ≡ copied header.capacity (records_in (size h) n.state.reads) =
        ap (λ c. copied c (records_in journal.size m.state.reads)) opened.capacity_is
        ∙ ap (λ k. copied header.capacity (records_in k m.state.reads)) opened.size_is
        ∙ ap (λ d. copied header.capacity (records_in (size h) d.reads)) (sym (read.looked was)) in
        subst (λ file. LeavesEach (IsUnfinished file) old new) same (crash was honest_old empty));
    kept = kept;
    grows = grows;
  }
