-- What a command came to, by whether the file was opened.
use Rattle.std.proofs.Common.{◌≡◌, ℕ, false, List, refl, ap, subst, sym, ◌∙◌}
use Rattle.std.specs.Prelude.{Option, None, Some, IfSome, MatchOption}
use mathlib.Core.Logic.{inl, inr}
use Rattle.disk_model.specs.Meaning.{Meaning}
use Rattle.blob_disk.specs.declared.mem_disk.MemDisk.{MemDisk}
use Rattle.program_words.specs.Words.{Request, session}
use Rattle.command_line.specs.declared.report.Report.{Report}
use Rattle.command_line.specs.declared.status.Status.{Status}
use Rattle.command_line.specs.declared.status.Outcome.{Outcome}
use Rattle.command_line.specs.Making.{Unopened}
use Rattle.command_line.specs.declared.came.Came.{Came}
use Rattle.command_line.specs.Outside.{Links, Outside, Peer}
use Rattle.command_line.specs.Opening.{RefusesIn}
use Rattle.command_line.specs.Reports.{status_of}
use Rattle.command_line.specs.Running.{OpensOnly, Runs, RunsOn, RunsSession, Writes}

pub by_disk : {D : Type 0} (o : Option D) (U : Type 0) (P : D → Type 0) → (o ≡ None → U) → IfSome o P → MatchOption o U P
by_disk None U P none some = none refl
by_disk (Some disk) U P none some = some

pub runs_on : {D : Type 0} (Of : D → Report → Type 0) (old new : Outside D) (came : Outcome D) (ran : Came D) → ran.disk ≡ came.disk → Writes came.report ran.status old.link new.link
    → (came.disk ≡ None → Unopened came.report old.unopened new.unopened) → IfSome came.disk (λ disk. Of disk came.report) → RunsOn Of old new ran
runs_on {D} Of old new came ran same writes unopened opened = record {
  report = came.report;
  writes = writes;
  of = subst (λ (o : Option D). MatchOption o (Unopened came.report old.unopened new.unopened) (λ disk. Of disk came.report)) (sym same)
      (by_disk came.disk (Unopened came.report old.unopened new.unopened) (λ disk. Of disk came.report) unopened opened);
}

-- no file was opened, or no repository in it, and nothing is written
pub session_unserved : {D : Type 0} (meaning : D → Meaning) (tells : ℕ → Type 0) (file : List ℕ) (old new : Outside D) (report : Report) (status : Status) (disk : Option D) → new.link ≡ old.link → status ≡ status_of report
    → (disk ≡ None → Unopened report old.unopened new.unopened) → IfSome disk (λ disk. RefusesIn meaning file old.shelf disk report) → RunsSession meaning tells file old new (record { status = status; disk = disk })
session_unserved meaning tells file old new report status None silent is unopened refuses = inl (record {
  none = refl;
  status_is = is ∙ ap status_of (unopened refl).0;
  rose = (unopened refl).1;
  silent = silent;
})
session_unserved meaning tells file old new report status (Some disk) silent is unopened refuses =
    inr (inl (record { disk = disk; disk_is = refl; report = report; refuses = refuses; status_is = is; silent = silent }))

abbrev came_as : {D : Type 0} → Status → Option D → Came D
came_as status disk = record { status = status; disk = disk }

same_came : {D : Type 0} (came ran : Came D) → ran.status ≡ came.status → ran.disk ≡ came.disk → came ≡ ran
same_came {D} came ran status disk = sym (ap (λ (s : Status). came_as s ran.disk) status ∙ ap (λ (d : Option D). came_as came.status d) disk)

pub runs_as : {D K : Type 0} (meaning : D → Meaning) (tells : ℕ → Type 0) (request wanted : Option Request) (old new : Outside D) (links : Links) (peer : Peer K) (ran : Came D) (load : Option MemDisk) (other : Option D)
    → request ≡ wanted → Runs meaning tells wanted old new links peer ran load other → Runs meaning tells request old new links peer ran load other
runs_as {D} {K} meaning tells request wanted old new links peer ran load other is runs = subst (λ (q : Option Request). Runs meaning tells q old new links peer ran load other) (sym is) runs

pub runs_session : {D K : Type 0} (meaning : D → Meaning) (tells : ℕ → Type 0) (request : Option Request) (file : List ℕ) (old new : Outside D) (links : Links) (peer : Peer K) (came ran : Came D) (load : Option MemDisk) (other : Option D) → request ≡ Some (session file)
    → RunsSession meaning tells file old new came → OpensOnly file false old new came.disk → ran.status ≡ came.status → ran.disk ≡ came.disk → Runs meaning tells request old new links peer ran load other
runs_session {D} {K} meaning tells request file old new links peer came ran load other is runs only status disk = subst (λ (q : Option Request). Runs meaning tells q old new links peer ran load other) (sym is)
    (subst (λ (r : Came D). RunsSession meaning tells file old new r × OpensOnly file false old new r.disk) (same_came came ran status disk) (runs, only))
