-- Changes that are made one after another.
--     calls_seen asks      the calls
--     IsChained answering header who h calls result new      they were granted up to the place where they ended, and were answered so there
use Rattle.std.specs.Prelude.{ℕ, List, map, Result, Ok, Err}
use Rattle.history_model.specs.History.{Entry}
use Rattle.history_model.specs.Journal.{Header}
use Rattle.reply_model.specs.After.{Call, Grants}
use Rattle.repo_calls.specs.declared.ask.Ask.{Ask}
use Rattle.repo_calls.specs.declared.ask.Granted.{Granted}
use Rattle.repo_calls.specs.Calls.{call_seen, granted_seen}
use Rattle.repo_calls.specs.Asking.{stored_answer}
use Rattle.stacked_calls.specs.Chain.{Answering, Chained}
use Rattle.stacked_calls.specs.declared.seat.StackFault.{StackFault}

abbrev pub calls_seen : List Ask → List Call
calls_seen asks = map call_seen asks

abbrev pub IsChained : Answering → Header → ℕ → List Entry → List Call → Result Granted StackFault → List Entry → Type 0
IsChained answering header who h calls (Ok granted) new = (at : ℕ) × Chained answering header who h calls at (Grants (granted_seen granted)) new
IsChained answering header who h calls (Err fault) new = Chained answering header who h calls fault.at (stored_answer (Err fault.fault)) new
