-- Calls of one seat that are made in their order, until one isn't granted.
--     Answering      how calls of a seat are answered, and how a change is granted of which the seal may fail later
--     IsNoGrant answer      the answer grants nothing
--     OnWay answering end      how a call before the last is granted: as all calls are, or, where the disk then failed the last, as one that may not be sealed
--     AreGranted on header who h calls new      each of these calls is granted, one after another, from the history that the seat has seen to another one
--     SeesOn replies header who h new      the seat has seen no more, or as much as where a read of it finds no memory
--     Chained answering header who h calls at answer new      the calls before this place are granted, and the one at it is answered so, with which they end. The seat may have seen more meanwhile
use Rattle.std.specs.Prelude.{◌≡◌, ◌≢◌, ◌⊎◌, ℕ, List, [], ◌∷◌, ◌++◌, length}
use Rattle.history_model.specs.History.{Entry}
use Rattle.history_model.specs.Journal.{Header}
use Rattle.reply_model.specs.Reply.{Granted, LogFrom}
use Rattle.reply_model.specs.After.{Relation, Call, Looks, Answer, Grants, DiskFault, Memory}

pub record Answering : Type 1 where
  pub replies : Relation
  pub enters : Relation

abbrev pub IsNoGrant : Answer → Type 0
IsNoGrant answer = (granted : Granted) → answer ≢ Grants granted

-- what was entered before the disk failed stands, sealed or not
abbrev pub OnWay : Answering → Answer → Relation
OnWay answering end header h who call answer new = answering.replies header h who call answer new ⊎ ((end ≡ DiskFault) × answering.enters header h who call answer new)

abbrev pub AreGranted : Relation → Header → ℕ → List Entry → List Call → List Entry → Type 0
AreGranted on header who h [] new = new ≡ h
AreGranted on header who h (call ∷ calls) new = (granted : Granted) × (next : List Entry) × on header h who call (Grants granted) next × AreGranted on header who next calls new

abbrev pub SeesOn : Relation → Header → ℕ → List Entry → List Entry → Type 0
SeesOn replies header who h new = (new ≡ h) ⊎ replies header h who (Looks (LogFrom 0)) Memory new

pub record Chained (answering : Answering) (header : Header) (who : ℕ) (h : List Entry) (calls : List Call) (at : ℕ) (answer : Answer) (new : List Entry) : Type 0 where
  pub earlier : List Call
  pub call : Call
  pub later : List Call
  pub calls_are : calls ≡ earlier ++ call ∷ later
  pub at_is : at ≡ length earlier
  pub between : List Entry
  pub granted : AreGranted (OnWay answering answer) header who h earlier between
  pub then : List Entry
  pub answered : answering.replies header between who call answer then
  -- only what isn't granted ends them early
  pub ends : (later ≡ []) ⊎ IsNoGrant answer
  pub sees : SeesOn answering.replies header who then new
