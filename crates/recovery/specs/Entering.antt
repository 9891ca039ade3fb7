-- What entering a payload gives.
--     asked_entry header h bytes ask      the entry that the payload stands for, if it is one of this change
--     Enters h next result after      the next entry is entered, or there is none, or the disk failed, or memory ran out
--     Tells m payload file      the file is the one that is read, as far as it matters
--     Comes m header h payload next      what the payload stands for where this disk is read
--     Replays m header h payload result after      it is entered, or there is none, or the disk failed, or memory ran out
use Rattle.std.specs.Prelude.{◌≡◌, ℕ, true, IsTrue, List, [], ◌∷◌, ◌++◌, length, take, Option, None, Some, Result, Ok, Err}
use Rattle.std.specs.Option.{option_and_then}
use Rattle.byte_fields.specs.Reading.{keeping}
use Rattle.disk_model.specs.Meaning.{Meaning}
use Rattle.history_model.specs.History.{Body, Entry, is_stored, unnumbered}
use Rattle.history_model.specs.Journal.{Header, payload_len}
use Rattle.reply_model.specs.Opening.{made_by, next_entry}
use Rattle.reply_model.specs.Reply.{Ask, is_ask}
use Rattle.recovery.specs.declared.replay_fault.ReplayFault.{ReplayFault}
use Rattle.recovery.specs.declared.replay_fault.ReplayFault.TheVariants.{BadPayload, DiskFault, Memory}

abbrev pub asked_entry : Header → List Entry → List ℕ → Ask → Option Body
asked_entry header h bytes ask = option_and_then (made_by header h bytes) (keeping (is_ask h) ask)

abbrev pub Enters : List Entry → Option Body → Result (Unit {0}) ReplayFault → List Entry → Type 0
Enters h next (Ok done) after = (body : Body) × (next ≡ Some body) × (is_stored body ≡ true) × (after ≡ h ++ unnumbered body ∷ [])
Enters h next (Err BadPayload) after = (next ≡ None) × (after ≡ h)
Enters h next (Err DiskFault) after = after ≡ h
Enters h next (Err Memory) after = after ≡ h

-- Only of a whole, which has the mark `W`, it matters what the file holds. It is known where the disk is honest
abbrev pub Tells : Meaning → List ℕ → List ℕ → Type 0
Tells m payload file = take 1 payload ≡ 0x57 ∷ [] → IsTrue m.honest × (file ≡ m.state.reads)

abbrev pub Comes : Meaning → Header → List Entry → List ℕ → Option Body → Type 0
Comes m header h payload next = (file : List ℕ) → Tells m payload file → next_entry file header h payload ≡ next

abbrev pub Replays : Meaning → Header → List Entry → List ℕ → Result (Unit {0}) ReplayFault → List Entry → Type 0
Replays m header h payload (Ok done) after = (body : Body) × Comes m header h payload (Some body) × (is_stored body ≡ true) × (payload_len body ≡ length payload) × (after ≡ h ++ unnumbered body ∷ [])
Replays m header h payload (Err BadPayload) after = Comes m header h payload None × (after ≡ h)
Replays m header h payload (Err DiskFault) after = after ≡ h
Replays m header h payload (Err Memory) after = after ≡ h
