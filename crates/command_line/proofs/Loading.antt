-- The disk that a load left, told of its history.
use Rattle.std.proofs.Common.{◌≡◌, ℕ, Bool, true, false, List, refl, subst, sym, arith}
use Rattle.std.specs.Prelude.{IfSome, Option, None, Some, Result, Ok, Err}
use Rattle.blob_disk.specs.MemDisk.{memory_of, told_of}
use Rattle.blob_disk.specs.declared.mem_disk.MemDisk.{MemDisk}
use Rattle.history_model.specs.History.{Entry, is_down}
use Rattle.history_model.specs.Journal.{Header, Keeps}
use Rattle.disk_model.specs.Images.{IsImage}
use Rattle.repo_state.specs.Images.{Leaves}
use Rattle.repo_state.specs.State.{HasNoFault, IsAllSealed, IsQuiet, IsSound, State, faults_in, reach}
use Rattle.repo_state.proofs.Leaving.{keeps_up}
use Rattle.repo_state.proofs.Stands.{no_faults}
use Rattle.run_gen.specs.declared.fault.LoadFault.{LoadFault}
use Rattle.run_gen.specs.declared.fault.LoadFault.TheVariants.{Refused, Memory}
use Rattle.run_gen.specs.Begun.{load_header}
use Rattle.run_gen.specs.Loading as loads
use Rattle.run_gen.specs.declared.summary.Summary.{Summary}
use Rattle.command_line.specs.Loading.{Closes, HoldsAll, IsClosed, LeavesLoad, Loads, report_of}
use Rattle.command_line.proofs.Entries.{down_has_fault}
use Rattle.command_line.proofs.Sessions.{reach_sealed, stands_whole}

by_faults : (h : List Entry) → faults_in h ≡ 0 → (down : Bool) → is_down h ≡ down → is_down h ≡ false
by_faults h none true is = (let some = down_has_fault h is in absurd (omega arith))
by_faults h none false is = is

is_up : (h : List Entry) → HasNoFault h → is_down h ≡ false
is_up h calm = by_faults h (no_faults h calm) (is_down h) refl

holds_all : (s : State) (disk : MemDisk) → IsQuiet s.opening → IsAllSealed s.history s.sealed → IsClosed s disk → HoldsAll s.opening.header s.history disk
holds_all s disk quiet sealed closed =
    let sound : IsSound s.opening s.history s.sealed (reach s) (told_of disk) = subst (IsSound s.opening s.history s.sealed (reach s)) (sym closed.disk_is) closed.sound in
    let calm = sound.calm quiet in
    let up = is_up s.history calm in
    let end = reach_sealed s.history s.sealed (reach s) (sealed up) sound.reaches sound.within in
    let part = keeps_up s.opening.header s.opening.length s.opening.moment s.history s.sealed s.opening.disk (told_of disk)
    (subst (λ upto. Leaves s.opening.header s.opening.length s.opening.moment s.history s.sealed upto s.opening.disk (told_of disk)) end (sound.leaves refl)) in
    let keeps : Keeps s.opening.header (IsImage (told_of disk).state) s.history = λ image is. stands_whole s.opening.header s.history s.sealed image (sealed up) (part image is) in
    record {
      legal = sound.legal;
      calm = calm;
      stands = keeps (memory_of disk).reads (closed.whole.image refl);
      keeps = keeps;
    }

leaves_load : (Is : Header → List Entry → Type 0) (s : State) (disk : MemDisk) → IsQuiet s.opening → IsAllSealed s.history s.sealed → s.opening.header ≡ load_header → IsClosed s disk → Is s.opening.header s.history → LeavesLoad Is (Some disk)
leaves_load Is s disk quiet sealed header closed is =
    record { disk = disk; disk_is = refl; header = s.opening.header; header_is = header; history = s.history; holds = holds_all s disk quiet sealed closed; is = is }

pub loads_of : (seed stacks clients : ℕ) (outcome : Result Summary LoadFault) (left : Option State) (load : Option MemDisk)
    → loads.Tells seed stacks clients outcome left → IfSome left (λ s. IsQuiet s.opening) → IfSome left (λ s. IsAllSealed s.history s.sealed) → IfSome left (λ s. s.opening.header ≡ load_header) → Closes left load → Loads seed stacks clients (report_of outcome) load
loads_of seed stacks clients (Ok summary) (Some s) (Some disk) tells quiet sealed header closed = leaves_load _ s disk quiet sealed header closed (record { loaded = tells.0; sums = tells.1 })
loads_of seed stacks clients (Err Refused) (Some s) (Some disk) tells quiet sealed header closed = leaves_load _ s disk quiet sealed header closed tells
loads_of seed stacks clients (Err Memory) None None tells quiet sealed header closed = refl
loads_of seed stacks clients (Ok summary) (Some s) None tells quiet sealed header closed = absurd closed
loads_of seed stacks clients (Err Refused) (Some s) None tells quiet sealed header closed = absurd closed
loads_of seed stacks clients (Err Memory) None (Some disk) tells quiet sealed header closed = absurd closed
loads_of seed stacks clients (Ok summary) None load tells quiet sealed header closed = absurd tells
loads_of seed stacks clients (Err Refused) None load tells quiet sealed header closed = absurd tells
loads_of seed stacks clients (Err Memory) (Some s) load tells quiet sealed header closed = absurd tells
