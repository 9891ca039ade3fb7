-- Connections that were served on an opened repository, told of the file that the opener gave.
use Rattle.std.proofs.Common.{◌≡◌, ◌⊎◌, ℕ, ◌+◌, ◌≤◌, arith, length, Bool, true, false, List, [], ◌∷◌, refl, ap, subst, sym, ◌∙◌}
use Rattle.std.specs.Prelude.{All, if◌then◌else◌, Option, None, Some, IfSome}
use mathlib.Core.Logic.{inl, inr}
use mathlib.Core.List.{IsPrefix}
use Rattle.ports.specs.Openers.{Shelf}
use Rattle.disk_model.specs.Meaning.{Meaning}
use Rattle.disk_model.specs.Meaning as disks
use Rattle.history_model.specs.History.{Body, Entry, bodies, entries_by, is_down, unnumbered}
use Rattle.bookmark_lock.specs.Lasting.{AreLast}
use Rattle.bookmark_lock.specs.Opening.{Opening}
use Rattle.history_model.specs.Journal.{Header}
use Rattle.repo_journal.specs.View.{JournalView}
use Rattle.repo_machine.specs.Counting.{counts_of}
use Rattle.repo_machine.specs.Seats.{cleared}
use Rattle.server_lanes.specs.Serving.{IsThrough}
use Rattle.repo_state.specs.State.{IsAllSealed, IsSound, State, opening_of, reach}
use Rattle.command_line.specs.declared.report.Report.{Report}
use Rattle.command_line.specs.declared.status.Outcome.{Outcome}
use Rattle.command_line.specs.Making.{Unopened}
use Rattle.command_line.specs.declared.report.Report.TheVariants.{NoMemory}
use Rattle.command_line.specs.declared.status.Status.{Status}
use Rattle.command_line.specs.Opening.{OpensIn, RefusesIn, Unharmed}
use Rattle.command_line.specs.declared.came.Came.{Came}
use Rattle.http_front.specs.LinkEnd.{ServedView}
use Rattle.command_line.specs.Outside.{Links, Outside, TakesNone, Told, incoming, links, none_served}
use Rattle.command_line.specs.Running.{OpensNone, RunsOpened, RunsServe, Writes}
use Rattle.command_line.specs.Sessions.{IsOfSeat}
use Rattle.command_line.specs.Serving.{ServesOpened, ServesRepository, TakesLinks, served_report}
use Rattle.command_line.proofs.Entries.{of_seat-stored}
use Rattle.command_line.proofs.Lasts.{few_waiting}
use Rattle.command_line.proofs.Sessions.{closes_file}
use Rattle.command_line.proofs.Unserved.{runs_on}

-- where no call of the accept failed, it is over or all were given
pub through_calm : (given most : ℕ) (over : Bool) (before after : ℕ) → IsThrough given most over before after → after ≡ 0 → (given ≡ most) ⊎ (over ≡ true)
through_calm given most over before after (inl all) none = inl all
through_calm given most over before after (inr (inl last)) none = inr last
through_calm given most over before after (inr (inr (inl more))) none = absurd (omega arith)
through_calm given most over before after (inr (inr (inr full))) none = absurd (omega arith)

-- entries of the seat 0 are as they are without a number
abbrev entry_of : ℕ → Body → Entry
entry_of who body = record { who = who; body = body }

unseated : (e : Entry) → e.who ≡ 0 → unnumbered e.body ≡ e
unseated e own = ap (λ who. entry_of who e.body) (sym own)

cleared_own : (h : List Entry) → IsOfSeat 0 h → cleared h ≡ h
cleared_own [] own = refl
cleared_own (e ∷ h) own = ap (λ (f : Entry). f ∷ cleared h) (unseated e own.0) ∙ ap (λ l. e ∷ l) (cleared_own h own.1)

pub serves_opened : {D : Type 0} (meaning : D → Meaning) (header : Header) (opened : List Entry) (journal : JournalView) (read : Meaning) (lanes connections : ℕ) (links : Links) (faulted : Bool) (report : Report) (disk : D) (first state : State)
    → first.history ≡ opened → first.opening ≡ opening_of header journal.opening read
    → state.opening ≡ first.opening → IsPrefix (cleared first.history) state.history → All (λ (e : Entry). e.who ≤ lanes) state.history
    → TakesLinks connections faulted links → IsAllSealed state.history state.sealed → links.sealed ≤ state.sealed
    → AreLast state.history state.sealed → length (bodies state.history) ≤ state.sealed + lanes
    → disks.IsSound (meaning disk) → meaning disk ≡ state.disk → IsSound state.opening state.history state.sealed (reach state) state.disk
    → report ≡ served_report (is_down state.history) faulted links.served (counts_of state.history).entries
    → ServesOpened meaning header opened journal read lanes connections links report (Some disk)
serves_opened meaning header opened journal read lanes connections links faulted report disk first state history_is opening_is opening begins seats takes sealed told last few whole disk_is sound report_is = record {
  disk = disk;
  disk_is = refl;
  whole = whole;
  history = state.history;
  begins = subst (λ h. IsPrefix (cleared h) state.history) history_is begins;
  seats = seats;
  sealed = state.sealed;
  all_sealed = sealed;
  reach = reach state;
  sound = subst (λ m. IsSound (opening_of header journal.opening read) state.history state.sealed (reach state) m) (sym disk_is)
      (subst (λ o. IsSound o state.history state.sealed (reach state) state.disk) (opening ∙ opening_is) sound);
  faulted = faulted;
  takes = takes;
  told = told;
  last = last;
  few = few;
  report_is = report_is;
}

cleared_length : (h : List Entry) → length (cleared h) ≡ length h
cleared_length [] = refl
cleared_length (e ∷ h) = (let same = cleared_length h in omega arith)

abbrev end_report : (began : Bool) → (faulted : Bool) → ℕ → List Entry → Report
end_report began faulted served h = if began then served_report (is_down h) faulted served (counts_of h).entries else NoMemory

-- also where there was no memory to begin, and the state is given back
pub runs_opened : {D : Type 0} (meaning : D → Meaning) (header : Header) (opened : List Entry) (journal : JournalView) (read : Meaning) (lanes connections : ℕ) (old new : Told) (links : Links) (began faulted : Bool) (report : Report) (status : Status) (disk : D) (first state : State)
    → first.history ≡ opened → first.opening ≡ opening_of header journal.opening read → first.disk ≡ read
    → (began ≡ true → state.opening ≡ first.opening) → (began ≡ true → IsPrefix (cleared first.history) state.history) → (began ≡ true → All (λ (e : Entry). e.who ≤ lanes) state.history)
    → (began ≡ true → TakesLinks connections faulted links) → (began ≡ true → IsAllSealed state.history state.sealed) → (began ≡ true → links.sealed ≤ state.sealed)
    → (began ≡ true → AreLast state.history state.sealed) → (began ≡ true → entries_by 0 state.history ≡ entries_by 0 (cleared first.history)) → journal.opening.length ≡ length opened
    → (began ≡ false → TakesNone links) → (began ≡ false → state.disk ≡ first.disk)
    → disks.IsSound (meaning disk) → meaning disk ≡ state.disk → IsSound state.opening state.history state.sealed (reach state) state.disk
    → report ≡ end_report began faulted links.served state.history → Writes report status old new
    → RunsOpened meaning header opened journal read lanes connections old new links (record { status = status; disk = Some disk })
runs_opened meaning header opened journal read lanes connections old new links true faulted report status disk first state history_is opening_is read_is opening begins seats takes sealed told last own length_is none back whole disk_is sound report_is writes = inr (record {
  report = report;
  writes = writes;
  ends = serves_opened meaning header opened journal read lanes connections links faulted report disk first state history_is opening_is
      (opening refl) (begins refl) (seats refl) (takes refl) (sealed refl) (told refl) (last refl)
      (few_waiting (cleared first.history) state.history state.sealed lanes (begins refl) (own refl) (subst (λ (h : List Entry). length (cleared h) ≤ state.sealed) (sym history_is) (let same = cleared_length opened in let began_at = ap (λ (o : Opening). o.length) (opening refl ∙ opening_is) in let first_sealed = sound.begins in omega arith)) (seats refl) (last refl)) whole disk_is sound report_is;
})
runs_opened meaning header opened journal read lanes connections old new links false faulted report status disk first state history_is opening_is read_is opening begins seats takes sealed told last own length_is none back whole disk_is sound report_is writes = inl (record {
  writes = subst (λ (r : Report). Writes r status old new) report_is writes;
  disk = disk;
  disk_is = refl;
  still = disk_is ∙ back refl ∙ read_is;
  untaken = none refl;
})

pub serves_repository : {D : Type 0} (meaning : D → Meaning) (file : List ℕ) (shelf : Option (Shelf D)) (lanes connections : ℕ) (links : Links) (report : Report) (left : Option D) (header : Header) (opened : List Entry) (journal : JournalView) (disk : D)
    → OpensIn meaning file shelf header opened journal disk
    → ServesOpened meaning header opened journal (meaning disk) lanes connections links report left
    → ServesRepository meaning file shelf lanes connections links report left
serves_repository meaning file shelf lanes connections links report left header opened journal disk opens serves =
    let as_read = cleared_own opened (of_seat-stored opened opens.opens.stored_is) in
    record {
      disk = serves.disk;
      disk_is = serves.disk_is;
      first = opens.first;
      gives = opens.gives;
      read = meaning disk;
      header = header;
      opened = opened;
      journal = journal;
      opens = opens.opens;
      history = serves.history;
      sealed = serves.sealed;
      all_sealed = serves.all_sealed;
      reach = serves.reach;
      closes = closes_file header opened serves.history serves.sealed serves.reach journal (meaning opens.first) (meaning disk) (meaning serves.disk) serves.whole opens.opens (subst (λ h. IsPrefix h serves.history) as_read serves.begins) serves.all_sealed serves.sound;
      seats = serves.seats;
      faulted = serves.faulted;
      takes = serves.takes;
      told = serves.told;
      last = serves.last;
      few = serves.few;
      report_is = serves.report_is;
    }

pub runs_serve : {D : Type 0} (meaning : D → Meaning) (file : List ℕ) (lanes connections : ℕ) (old new : Outside D) (links : Links) (ran : Came D) (header : Header) (opened : List Entry) (journal : JournalView) (disk : D)
    → OpensIn meaning file old.shelf header opened journal disk
    → RunsOpened meaning header opened journal (meaning disk) lanes connections old.link new.link links ran
    → RunsServe meaning file lanes connections old new links ran
runs_serve meaning file lanes connections old new links ran header opened journal disk opens (inl lacks) = inr (inl (record {
  writes = lacks.writes;
  disk = lacks.disk;
  disk_is = lacks.disk_is;
  first = opens.first;
  gives = opens.gives;
  unharmed = subst (λ (m : Meaning). Unharmed (meaning opens.first) m) (sym lacks.still) opens.opens.unharmed;
  untaken = lacks.untaken;
}))
runs_serve meaning file lanes connections old new links ran header opened journal disk opens (inr ends) = inr (inr (record {
  report = ends.report;
  writes = ends.writes;
  ends = serves_repository meaning file old.shelf lanes connections links ends.report ran.disk header opened journal disk opens ends.ends;
}))

-- the accept is as it was
pub none_taken : {A : Type 0} (given : A → ℕ) (over : A → Bool) (faults : A → ℕ) (before after : A) (served : ServedView) → after ≡ before → served ≡ none_served → TakesNone (links given over faults before after served)
none_taken {A} given over faults before after served same none =
    record { same = ap (λ (a : A). incoming given over faults a) same; none = ap (λ (s : ServedView). s.count) none; unsealed = ap (λ (s : ServedView). s.sealed) none }

pub opens_none : {D : Type 0} (meaning : D → Meaning) (file : List ℕ) (old new : Outside D) (links : Links) (came : Outcome D) (ran : Came D) → ran.disk ≡ came.disk → Writes came.report ran.status old.link new.link → TakesNone links
    → (came.disk ≡ None → Unopened came.report old.unopened new.unopened) → IfSome came.disk (λ disk. RefusesIn meaning file old.shelf disk came.report) → OpensNone meaning file old new links ran
opens_none meaning file old new links came ran same writes none unopened refuses = record {
  on = runs_on (λ disk report. RefusesIn meaning file old.shelf disk report) old new came ran same writes unopened refuses;
  untaken = none;
}
