-- How a load begins.
--     load_header      the header of its repository, which is in memory
--     IsFresh m      an empty disk in memory with room for all of the repository
--     IsMade m      the same with an empty repository
--     IsNew s, IsLed s      the state of an empty repository, and with what the lead stores
--     Enters header h ask body      the change is granted, and makes this entry;  MayBe answer      the answer to a change that is granted, unless there is no memory
use Rattle.std.specs.Prelude.{◌≡◌, ℕ, true, List, [], Some, Result, Ok, Err}
use Rattle.disk_model.specs.Meaning.{Meaning}
use Rattle.changeset_model.specs.Version.{Second}
use Rattle.history_model.specs.Journal.{Header, Stands}
use Rattle.run_gen.specs.Loads.{lead_entries}
use Rattle.run_gen.specs.declared.fault.LoadFault.TheVariants.{Memory}
use Rattle.history_model.specs.History.{Body, Entry}
use Rattle.reply_model.specs.Reply.{Ask, Granted, judge}
use Rattle.repo_calls.specs.declared.ask.Granted as own
use Rattle.repo_state.specs.State.{IsQuiet, IsSealedAlone, State}
use Rattle.repo_calls.specs.declared.calls.ChangeFault.{ChangeFault}
use Rattle.repo_calls.specs.declared.calls.ChangeFault.TheVariants.{Refused, DiskFault, ReadFault, BadBytes}
use Rattle.run_gen.specs.Outcomes.{fault_of}

abbrev pub load_capacity : ℕ
load_capacity = 16_777_216

abbrev pub load_header : Header
load_header = record { capacity = load_capacity; version = Second }

pub record IsFresh (m : Meaning) : Type 0 where
  pub honest : m.honest ≡ true
  pub quiet : m.quiet ≡ Some load_capacity
  pub reads : m.reads ≡ Some []
  pub empty : m.state.reads ≡ []

pub record IsMade (m : Meaning) : Type 0 where
  pub honest : m.honest ≡ true
  pub quiet : m.quiet ≡ Some load_capacity
  pub stands : Stands load_header m.state.reads []

pub record IsNew (s : State) : Type 0 where
  pub header : s.header ≡ load_header
  pub opened : s.opening.header ≡ load_header
  pub quiet : IsQuiet s.opening
  pub none : s.history ≡ []
  pub sealed : IsSealedAlone s.history s.sealed

pub record IsLed (s : State) : Type 0 where
  pub header : s.opening.header ≡ load_header
  pub quiet : IsQuiet s.opening
  pub history : s.history ≡ lead_entries

abbrev pub MayBe : Result own.Granted ChangeFault → Type 0
MayBe (Ok granted) = Unit {0}
MayBe (Err (Refused refusal)) = fault_of refusal ≡ Memory
MayBe (Err DiskFault) = ⊥
MayBe (Err ReadFault) = ⊥
MayBe (Err (BadBytes wanted found)) = ⊥

-- the change is granted there, and makes this entry
pub record Enters (header : Header) (h : List Entry) (ask : Ask) (body : Body) : Type 0 where
  pub granted : Granted
  pub judged : judge header h ask ≡ Ok (record { granted = granted; made = Some body })
