-- What a client takes the answer to a change for.
--     fault_of refusal      why it stops;  outcome_of answer      the same of an answer, where no disk failed
--     heads_left outcome      the heads that the landings left, of one ask
--     heads_given outcome      the same of a landing, where the head is told
use Rattle.std.specs.Prelude.{List, [], ◌∷◌, Result, Ok, Err}
use Rattle.byte_fields.specs.Bytes.{Id}
use Rattle.repo_calls.specs.declared.ask.Granted.{Granted}
use Rattle.repo_calls.specs.declared.refusal.Refusal.{Refusal}
use Rattle.repo_calls.specs.declared.refusal.Refusal.TheVariants as refusals
use Rattle.repo_calls.specs.Calls.{granted_seen}
use Rattle.run_gen.specs.Calls.{heads_in}
use Rattle.run_gen.specs.declared.fault.LoadFault.{LoadFault}
use Rattle.run_gen.specs.declared.fault.LoadFault.TheVariants.{Refused, Memory}

abbrev pub fault_of : Refusal → LoadFault
fault_of refusals.Down = Refused
fault_of (refusals.TooLong length) = Refused
fault_of (refusals.BadEncoding at) = Refused
fault_of (refusals.SelfConflict short long) = Refused
fault_of (refusals.BadParts length) = Refused
fault_of refusals.OldFormat = Refused
fault_of (refusals.NoPiece id) = Refused
fault_of (refusals.NotAPiece id) = Refused
fault_of (refusals.NoParent id) = Refused
fault_of (refusals.NoContent path id) = Refused
fault_of (refusals.WrongSize path wanted found) = Refused
fault_of (refusals.Unresolved path) = Refused
fault_of (refusals.Collision id) = Refused
fault_of (refusals.NoChangeset id) = Refused
fault_of (refusals.Moved found) = Refused
fault_of refusals.NoBookmark = Refused
fault_of refusals.NoRoot = Refused
fault_of (refusals.TooFarBehind distance) = Refused
fault_of refusals.AlreadyIn = Refused
fault_of (refusals.StackTooLong count) = Refused
fault_of (refusals.MergeInStack id) = Refused
fault_of (refusals.MergeInRange id) = Refused
fault_of (refusals.Denied place rule) = Refused
fault_of (refusals.Clash left right) = Refused
fault_of (refusals.TooLarge length) = Refused
fault_of (refusals.BadPolicy line) = Refused
fault_of (refusals.Full size length) = Refused
fault_of refusals.Memory = Memory

abbrev pub heads_left : Result Granted LoadFault → List Id
heads_left (Ok granted) = heads_in (granted_seen granted)
heads_left (Err fault) = []

abbrev pub heads_given : Result Id LoadFault → List Id
heads_given (Ok head) = head ∷ []
heads_given (Err fault) = []
