-- A repository that is copied: what is left of its own disk, and what is so of the copy.
use Rattle.std.proofs.Common.{◌≡◌, ℕ, ◌≤◌, false, List, sym, subst, ◌∙◌, inl, inr, arith}
use Rattle.std.specs.Prelude.{Option, None, Some, MatchOption, Result, Ok, Err}
use Rattle.std.specs.Option.{option_map}
use Rattle.ports.specs.Faults.{Rose}
use Rattle.ports.specs.Openers.{Shelf, left}
use Rattle.disk_model.specs.Images.{IsImage}
use Rattle.disk_model.specs.Meaning.{Meaning}
use Rattle.disk_model.specs.Calls.{Within}
use Rattle.blob_disk.proofs.Clients.{kept_then, leaves_then, leaves_weaker}
use Rattle.history_model.specs.History.{Entry}
use Rattle.history_model.specs.Journal.{Header, Stands}
use Rattle.repo_journal.specs.Opened.{IsOpened}
use Rattle.repo_journal.specs.View.{JournalView}
use Rattle.migration.specs.Files.{Copies, CopiesTo, OnlyRead, Tells}
use Rattle.migration.specs.declared.fault.MigrateFault.{MigrateFault}
use Rattle.migration.specs.declared.fault.MigrateFault.TheVariants as faults
use Rattle.migration.proofs.Targets.{image_before}
use Rattle.command_line.specs.declared.came.Came.{Came}
use Rattle.command_line.specs.declared.migrate.Migration.{Migration}
use Rattle.command_line.specs.Making.{Unopened}
use Rattle.command_line.specs.Migrating.{CopiesOpened, CopiesSource, Migrates, ReportsCopy}
use Rattle.command_line.specs.Opening.{Opens, OpensIn, Unharmed}
use Rattle.command_line.specs.Outside.{Outside}
use Rattle.command_line.specs.Running.{RunsMigrate, Writes}

still_unharmed : (first m n : Meaning) → Unharmed first m → OnlyRead m n → Unharmed first n
still_unharmed first m n unharmed read = record {
  within = λ honest. subst (λ d. Within d first.state) (sym (read.looked (unharmed.kept.honest ∙ honest))) (unharmed.within honest);
  crash = λ honest. (
      let here = unharmed.kept.honest ∙ honest in
      leaves_then (IsImage first.state) first m n unharmed.kept (unharmed.crash honest)
      (leaves_weaker (IsImage n.state) (IsImage first.state) m n (λ image is. (unharmed.within honest).images image (image_before m n read here image is)) (read.time here)));
  kept = kept_then first m n unharmed.kept read.kept;
  grows = (let a = unharmed.grows in let b = read.grows in omega arith);
}

still_opens : (header : Header) (h : List Entry) (journal : JournalView) (first m n : Meaning) → Opens header h journal first m → OnlyRead m n → IsOpened header h journal n → Opens header h journal first n
still_opens header h journal first m n opens read opened = record {
  opened = opened;
  legal = opens.legal;
  stored_is = opens.stored_is;
  file = opens.file;
  only = opens.only;
  settled = λ honest was. (
      let here = opens.unharmed.kept.honest ∙ honest in
      leaves_then (λ image. Stands header image h) first m n opens.unharmed.kept (opens.settled honest was)
      (leaves_weaker (IsImage n.state) (λ image. Stands header image h) m n (λ image is. opens.opened.now here image (image_before m n read here image is)) (read.time here)));
  synced = opens.synced;
  unharmed = still_unharmed first m n opens.unharmed read;
}

-- of the disk that the opener gave
still_opens_in : {D : Type 0} (meaning : D → Meaning) (name : List ℕ) (shelf : Option (Shelf D)) (header : Header) (h : List Entry) (journal : JournalView) (disk other : D) → OpensIn meaning name shelf header h journal disk → OnlyRead (meaning disk) (meaning other) → IsOpened header h journal (meaning other) → OpensIn meaning name shelf header h journal other
still_opens_in meaning name shelf header h journal disk other opens read opened = record {
  first = opens.first;
  gives = opens.gives;
  opens = still_opens header h journal (meaning opens.first) (meaning disk) (meaning other) opens.opens read opened;
}

-- ---- by the names

rose_before : (a b c : ℕ) → a ≤ b → Rose b c → Rose a c
rose_before a b c le (inl more) = inl (omega arith)
rose_before a b c le (inr last) = inr last

tells_first : {T : Type 0} (header : Header) (h : List Entry) (first m n old new : Meaning) (result : Result T MigrateFault) → first.faults ≤ m.faults → Tells header h m n old new result → Tells header h first n old new result
tells_first header h first m n old new (Ok x) le told = told
tells_first header h first m n old new (Err (faults.Exists bytes)) le told = told
tells_first header h first m n old new (Err faults.OldFault) le told = rose_before first.faults m.faults n.faults le told
tells_first header h first m n old new (Err faults.NewFault) le told = told

copies_first : {T : Type 0} (header : Header) (h : List Entry) (first m n old new : Meaning) (result : Result T MigrateFault) → first.faults ≤ m.faults → Copies header h m n old new result → Copies header h first n old new result
copies_first header h first m n old new result le copies = record {
  tells = tells_first header h first m n old new result le copies.tells;
  quiet = copies.quiet;
  source_quiet = copies.source_quiet;
  crash = copies.crash;
  kept = copies.kept;
  grows = copies.grows;
}

by_option : {D : Type 0} (o : Option D) (U V : Type 0) (P Q : D → Type 0) → (U → V) → ((d : D) → P d → Q d) → MatchOption o U P → MatchOption o V Q
by_option None U V P Q none some is = none is
by_option (Some d) U V P Q none some is = some d is

pub copies_source : {D : Type 0} (meaning : D → Meaning) (source target : List ℕ) (shelf rest : Option (Shelf D)) (before middle after : ℕ) (came : Migration D) (header : Header) (h : List Entry) (journal : JournalView) (disk : D)
    → OpensIn meaning source shelf header h journal disk → rest ≡ option_map (left source false) shelf → before ≤ middle
    → CopiesOpened meaning target rest header h journal (meaning disk) middle after came → CopiesSource meaning source target shelf before after came
unfolding still_opens_in
copies_source {D} meaning source target shelf rest before middle after came header h journal disk opens rest_is grows copies = record {
  header = header;
  history = h;
  journal = journal;
  disk = copies.source;
  disk_is = copies.source_is;
  opens = still_opens_in meaning source shelf header h journal disk copies.source opens copies.only_read copies.opened;
  of = by_option came.disk (Unopened came.report middle after) (Unopened came.report before after)
      (ReportsCopy meaning target rest header h (meaning disk) (meaning copies.source) came.report)
      (ReportsCopy meaning target (option_map (left source false) shelf) header h (meaning opens.first) (meaning copies.source) came.report)
      (λ unopened. (unopened.0, rose_before before middle after grows unopened.1))
      (λ copy to. record {
        result = to.result;
        report_is = to.report_is;
        copies = subst (λ s. CopiesTo meaning target s header h (meaning opens.first) (meaning copies.source) to.result copy) rest_is (record {
          given_disk = to.copies.given_disk;
          gives = to.copies.gives;
          copies = copies_first header h (meaning opens.first) (meaning disk) (meaning copies.source) (meaning to.copies.given_disk) (meaning copy) to.result opens.opens.unharmed.grows to.copies.copies;
        });
      }) copies.of;
}

pub runs_migrate : {D : Type 0} (meaning : D → Meaning) (source target : List ℕ) (old new : Outside D) (came : Migration D) (ran : Came D) (other : Option D) → ran.disk ≡ came.disk → other ≡ came.other → Writes came.report ran.status old.link new.link
    → Migrates meaning source target old.shelf old.unopened new.unopened came → RunsMigrate meaning source target old new ran other
runs_migrate {D} meaning source target old new came ran other disk_is other_is writes migrates = record {
  report = came.report;
  writes = writes;
  migrates = subst (λ (m : Migration D). Migrates meaning source target old.shelf old.unopened new.unopened m)
      (λ i. record { report = came.report; disk = sym disk_is i; other = sym other_is i }) migrates;
}
