-- What a load tells, and the history that it leaves.
--     Leaves seed stacks clients outcome state      the state that the clients left: each landed so many stacks, or a call of one was refused
--     Tells seed stacks clients answer state      the answer of a load, and the state that is handed back, but where memory ran out
use Rattle.std.specs.Prelude.{ℕ, Option, None, Some, Result, Ok, Err}
use Rattle.run_gen.specs.Loads.{IsLoaded, IsStopped}
use Rattle.run_gen.specs.declared.fault.LoadFault.{LoadFault}
use Rattle.run_gen.specs.declared.fault.LoadFault.TheVariants.{Refused, Memory}
use Rattle.repo_state.specs.State.{State}
use Rattle.run_gen.specs.Sums.{SumsUp}
use Rattle.run_gen.specs.declared.summary.Summary.{Summary}

abbrev pub Leaves : ℕ → ℕ → ℕ → Result (Unit {0}) LoadFault → State → Type 0
Leaves seed stacks clients (Ok done) state = IsLoaded state.opening.header seed stacks clients state.history
Leaves seed stacks clients (Err Refused) state = IsStopped state.opening.header seed stacks clients state.history
Leaves seed stacks clients (Err Memory) state = Unit {0}

abbrev pub Tells : ℕ → ℕ → ℕ → Result Summary LoadFault → Option State → Type 0
Tells seed stacks clients (Ok summary) (Some state) = IsLoaded state.opening.header seed stacks clients state.history × SumsUp state.history summary
Tells seed stacks clients (Ok summary) None = ⊥
Tells seed stacks clients (Err Refused) (Some state) = IsStopped state.opening.header seed stacks clients state.history
Tells seed stacks clients (Err Refused) None = ⊥
Tells seed stacks clients (Err Memory) (Some state) = ⊥
Tells seed stacks clients (Err Memory) None = Unit {0}
