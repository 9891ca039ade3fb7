-- The history that a load leaves.
--     base_entry, main_entry, lead_entries      what it begins with: the base, and the bookmark at it
--     HasClient header seed stacks h c outcome      of client c, whose seat has the number c + 1, the history has just the entries of its calls
--     IsBegun clients h      it begins with the lead's entries, and has no others but those of so many clients
--     IsLoaded header seed stacks clients h      every client landed so many stacks
--     IsStopped header seed stacks clients h      a call of some client was refused
use Rattle.std.specs.Prelude.{◌≡◌, ℕ, ◌+◌, ◌<◌, ◌≤◌, All, List, [], ◌∷◌, map, None, Some, Result, Ok, Err}
use mathlib.Core.List.{IsPrefix}
use Rattle.history_model.specs.History.{Change, Book, Entry, entries_by, unnumbered}
use Rattle.history_model.specs.Journal.{Header}
use Rattle.reply_model.specs.After.{entry_by}
use Rattle.run_gen.specs.Stacks.{base, base_id, main}
use Rattle.run_gen.specs.Calls.{bodies_of, landings_in}
use Rattle.run_gen.specs.Clients.{Ran}
use Rattle.run_gen.specs.declared.fault.LoadFault.{LoadFault}
use Rattle.run_gen.specs.declared.fault.LoadFault.TheVariants.{Refused}

abbrev pub base_entry : Entry
base_entry = unnumbered (Change base)

abbrev pub main_entry : Entry
main_entry = unnumbered (Book (record { name = main; from = None; to = Some base_id; caller = None }))

abbrev pub lead_entries : List Entry
lead_entries = base_entry ∷ main_entry ∷ []

pub record HasClient (header : Header) (seed stacks : ℕ) (h : List Entry) (c : ℕ) (outcome : Result (Unit {0}) LoadFault) : Type 0 where
  -- what its seat had seen in the end
  pub front : List Entry
  pub begins : IsPrefix front h
  pub ran : Ran header (c + 1) lead_entries c seed stacks outcome front
  -- at most one of each call, in their order
  pub own : entries_by (c + 1) h ≡ map (entry_by (c + 1)) (bodies_of ran.answered.calls)

pub record IsBegun (clients : ℕ) (h : List Entry) : Type 0 where
  pub begins : IsPrefix lead_entries h
  pub lead : entries_by 0 h ≡ lead_entries
  pub numbers : All (λ (e : Entry). e.who ≤ clients) h

pub record IsLoaded (header : Header) (seed stacks clients : ℕ) (h : List Entry) : Type 0 where
  pub begun : IsBegun clients h
  pub each : (c : ℕ) → c < clients → HasClient header seed stacks h c (Ok tt)
  pub landings : (c : ℕ) → c < clients → landings_in (map (λ (e : Entry). e.body) (entries_by (c + 1) h)) ≡ stacks

pub record IsStopped (header : Header) (seed stacks clients : ℕ) (h : List Entry) : Type 0 where
  pub begun : IsBegun clients h
  pub each : (c : ℕ) → c < clients → (outcome : Result (Unit {0}) LoadFault) × HasClient header seed stacks h c outcome
  pub client : ℕ
  pub is_client : client < clients
  pub refused : HasClient header seed stacks h client (Err Refused)
