-- How a list of asks of one seat was answered.
--     EndsBy header who calls reached asks outcome to      these calls were granted, up to this front, and then all had been asked, or the next was refused, or there was no memory
--     Answered header who from asks heads outcome to      so it was from this front on, and the landings that were granted left these heads
use Rattle.std.specs.Prelude.{◌≡◌, ℕ, List, [], ◌∷◌, ◌++◌, Result, Ok, Err}
use mathlib.Core.List.{IsPrefix}
use Rattle.byte_fields.specs.Bytes.{Id}
use Rattle.history_model.specs.History.{Entry}
use Rattle.history_model.specs.Journal.{Header}
use Rattle.reply_model.specs.Reply.{Ask, Refusal}
use Rattle.reply_model.specs.After.{After, Asks, Refuses, SeesMore}
use Rattle.run_gen.specs.Calls.{Call, Went, asks_of, heads_of}
use Rattle.run_gen.specs.declared.fault.LoadFault.{LoadFault}
use Rattle.run_gen.specs.declared.fault.LoadFault.TheVariants.{Refused, Memory}

-- the next ask is one that the repository of one thread refuses, at the seat's new front
pub record IsRefused (header : Header) (who : ℕ) (calls : List Call) (reached : List Entry) (asks : List Ask) (to : List Entry) : Type 0 where
  pub ask : Ask
  pub next : IsPrefix (asks_of calls ++ ask ∷ []) asks
  pub refusal : Refusal
  pub after : After header reached who (Asks ask) (Refuses refusal) to

abbrev pub EndsBy : {X : Type 0} → Header → ℕ → List Call → List Entry → List Ask → Result X LoadFault → List Entry → Type 0
EndsBy header who calls reached asks (Ok x) to = (asks_of calls ≡ asks) × (to ≡ reached)
EndsBy header who calls reached asks (Err Refused) to = IsRefused header who calls reached asks to
EndsBy header who calls reached asks (Err Memory) to = IsPrefix (asks_of calls) asks × SeesMore reached who to

pub record Answered {X : Type 0} (header : Header) (who : ℕ) (from : List Entry) (asks : List Ask) (heads : List Id) (outcome : Result X LoadFault) (to : List Entry) : Type 0 where
  pub calls : List Call
  pub reached : List Entry
  pub went : Went header who from calls reached
  pub heads_are : heads_of calls ≡ heads
  pub ends : EndsBy header who calls reached asks outcome to
