-- A change of a repository that is served alone, in two steps: it is stored, and then its entry is sealed.
--     IsStored before call stored after      of the state before, in which all was sealed, the change that the call asks for is answered so, and leaves this state, in which its entry waits
--     IsSealedFor before call between result after      then this is answered, once what waited in the state between is sealed
use Rattle.std.specs.Prelude.{◌≡◌, ◌≤◌, false, IsTrue, Result, length}
use Rattle.ports.specs.Faults.{Counts}
use Rattle.history_model.specs.History.{bodies, is_down}
use Rattle.reply_model.specs.After.{Call, Replies}
use Rattle.repo_calls.specs.Asking.{stored_answer, is_disk_fault}
use Rattle.repo_calls.specs.declared.ask.Granted.{Granted}
use Rattle.repo_calls.specs.declared.calls.ChangeFault.{ChangeFault}
use Rattle.repo_state.specs.Alone.{RepliesAlone}
use Rattle.repo_state.specs.Cores.{StoresCall, StoresCallAlone}
use Rattle.repo_state.specs.Groups.{is_cut_off, is_under_way}
use Rattle.repo_state.specs.Images.{LeavesChange}
use Rattle.repo_state.specs.State.{State, IsSealedAlone}

pub record IsStored (before : State) (call : Call) (stored : Result Granted ChangeFault) (after : State) : Type 0 where
  pub all : IsSealedAlone before.history before.sealed
  pub most : before.sealed ≤ length (bodies before.history)
  pub undone : is_disk_fault stored ≡ false
  pub header : after.header ≡ before.header
  pub sealed : after.sealed ≡ before.sealed
  pub left : after.left ≡ before.left
  -- between calls no group is under way
  pub idle : is_under_way before.left ≡ false
  pub broken : is_cut_off before.left ≡ is_down before.history
  pub replies : Replies before.header before.history 0 call (stored_answer stored) after.history
  pub core : StoresCall before.header before.history before.sealed 0 call (stored_answer stored) after.history

pub record IsSealedFor (before : State) (call : Call) (between : State) (result : Result Granted ChangeFault) (after : State) : Type 0 where
  pub all : IsSealedAlone after.history after.sealed
  pub replies : RepliesAlone before.header before.history 0 call (stored_answer result) after.history
  -- a change that made no entry asks nothing of the disk
  pub same : is_disk_fault result ≡ false → after.history ≡ before.history → after.disk ≡ between.disk
  pub leaves : IsTrue between.disk.honest → LeavesChange before.header before.history after.history between.disk after.disk
  pub faults : Counts between.disk.faults after.disk.faults (is_disk_fault result)
  pub core : StoresCallAlone before.header before.history before.sealed before.left call (stored_answer result) after.history after.sealed after.left
