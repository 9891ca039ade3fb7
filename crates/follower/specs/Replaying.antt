-- How an entry is replayed.
--     IsReplayed opening h line fetched after sealed replayed      what became of the entry of which a page tells this
--     replayed_of fault      so where nothing was made
use Rattle.std.specs.Prelude.{◌≡◌, ℕ, ◌+◌, List, [], ◌∷◌, ◌++◌}
use Rattle.history_model.specs.History.{Body, Entry}
use Rattle.bookmark_lock.specs.Opening.{Opening}
use Rattle.reply_model.specs.Log.{LogLine}
use Rattle.reply_model.specs.After.{entry_by}
use Rattle.repo_calls.specs.declared.calls.ChangeFault.{ChangeFault}
use Rattle.repo_calls.specs.declared.calls.ChangeFault.TheVariants as faults
use Rattle.repo_calls.specs.declared.refusal.Refusal.TheVariants as refusals
use Rattle.follower.specs.declared.replayed.Replayed.{Replayed}
use Rattle.follower.specs.declared.replayed.Replayed.TheVariants.{Same, Differs, Full, DiskFault, Memory}
use Rattle.follower.specs.Making.{Makes, MadeFor, IsOther, IsFull, Remains, count}

-- the disk failed to seal the entry, or before it was made
abbrev pub IsAtMost : Opening → List Entry → LogLine → List ℕ → List Body → Type 0
IsAtMost opening h line fetched [] = Unit {0}
IsAtMost opening h line fetched (body ∷ []) = Makes opening.header h line fetched body
IsAtMost opening h line fetched (body ∷ next ∷ later) = ⊥

-- what became of an entry that wasn't made
abbrev pub replayed_of : ChangeFault → Replayed
replayed_of (faults.Refused (refusals.Full size length)) = Full
replayed_of (faults.Refused refusals.Memory) = Memory
replayed_of (faults.Refused refusal) = Differs
replayed_of faults.DiskFault = DiskFault
replayed_of faults.ReadFault = DiskFault
replayed_of (faults.BadBytes wanted found) = Differs

abbrev pub IsReplayed : Opening → List Entry → LogLine → List ℕ → List Entry → ℕ → Replayed → Type 0
IsReplayed opening h line fetched after sealed Same = (body : Body) × Makes opening.header h line fetched body × (after ≡ h ++ entry_by 0 body ∷ []) × (sealed ≡ count h + 1)
IsReplayed opening h line fetched after sealed Differs = (extra : List Body) × IsOther opening h line fetched extra × Remains extra h [] after sealed
IsReplayed opening h line fetched after sealed Full = IsFull opening.header h line fetched × Remains [] h [] after sealed
IsReplayed opening h line fetched after sealed DiskFault = (done : List Body) × IsAtMost opening h line fetched done × Remains [] h done after sealed
IsReplayed opening h line fetched after sealed Memory = (extra : List Body) × MadeFor opening.header h line fetched extra × Remains extra h [] after sealed
