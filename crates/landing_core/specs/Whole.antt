-- What the core keeps, whole.
--     LeavesAll at after      what a crash leaves: all that is sealed, each entry at its number, and the whole group or nothing of it
--     Crashed header h before kept s      so did a crash among the steps
--     Keeps header h steps s      what is so after any steps from an opened history
use Rattle.std.specs.Prelude.{◌≡◌, ◌⊎◌, ◌<◌, ℕ, Bool, true, IsTrue, List, Contains, ◌∷◌, ◌++◌, Some}
use Rattle.std.specs.List.{AllByRecursion}
use mathlib.Core.List.{IsPrefix}
use Rattle.history_model.specs.History.{Body, Entry, bodies, stored, known, is_known}
use Rattle.history_model.specs.Journal.{Header}
use Rattle.manifest_model.specs.Manifests.{manifests_of}
use Rattle.reply_model.specs.Legal.{IsLegal}
use Rattle.core_model.specs.Core.{State, Step, Crash, Once, may_be_kept, group_of, are_apart, nodes_among, opened, after_step, after_steps}
use Rattle.landing_core.specs.Gained.{StandsAt, MadeAt, sealed_log, gains_of}

abbrev pub AllStand : List Entry → List (ℕ × Body) → Type 0
AllStand h acknowledged = AllByRecursion (λ a. StandsAt h a.0 a.1) acknowledged

-- the group is left too, whose gate was to be opened, and nothing of what was entered behind it
abbrev pub HasGroup : State → State → Type 0
HasGroup at after = IsTrue (may_be_kept at.sealing) × (bodies after.history ≡ sealed_log at ++ group_of at)

pub record LeavesAll (at after : State) : Type 0 where
  pub log : (bodies after.history ≡ sealed_log at) ⊎ HasGroup at after
  -- all of it is sealed
  pub sealed : sealed_log after ≡ bodies after.history
  -- what was acknowledged is so still, and stands
  pub acknowledged : after.acknowledged ≡ at.acknowledged
  pub stand : AllStand after.history at.acknowledged
  -- so does what a seat made and was sealed, and wasn't answered yet
  pub waiting : (who number : ℕ) → Contains (at.waiting who) number → number < at.sealed → (body : Body) × MadeAt at.history number who body × StandsAt after.history number body
  -- no entry has a seat's number
  pub unseated : after.history ≡ stored after.history

-- What was sealed at a crash is the log of the first history, and then what was sealed since and what earlier crashes left, in their order. What the crash leaves is a prefix of what is sealed at the end.
pub record Crashed (header : Header) (h : List Entry) (before : List Step) (kept : Bool) (s : State) : Type 0 where
  pub at : State
  pub after : State
  pub reached : after_steps header (opened h) before ≡ Some at
  pub crashes : after_step header at (Crash kept) ≡ Some after
  pub log : sealed_log at ≡ bodies h ++ gains_of header (opened h) before
  pub leaves : LeavesAll at after
  pub stays : IsPrefix (bodies after.history) (sealed_log s)

pub record Keeps (header : Header) (h : List Entry) (steps : List Step) (s : State) : Type 0 where
  pub legal : IsLegal header s.history
  pub log : sealed_log s ≡ bodies h ++ gains_of header (opened h) steps
  pub acknowledged : AllStand s.history s.acknowledged
  -- what is acknowledged is sealed
  pub first : AllByRecursion (λ (a : ℕ × Body). a.0 < s.sealed) s.acknowledged
  pub once : Once s.acknowledged
  pub crashed : (before later : List Step) (kept : Bool) → steps ≡ before ++ Crash kept ∷ later → Crashed header h before kept s
  -- what is in the table are the manifests from scratch, of known changesets, and no two different nodes have one digest
  pub manifests : AllByRecursion (λ m. (is_known (known s.history) m.id ≡ true) × (m ≡ manifests_of (known s.history) m.id)) s.table
  pub apart : are_apart (nodes_among s.table) ≡ true
