-- Replies over a disk that may be honest.
use Rattle.std.proofs.Common.{◌≡◌, ℕ, Bool, false, IsTrue, List, Result, Ok, Err, subst}
use Rattle.byte_fields.specs.Bytes.{Id}
use Rattle.history_model.specs.History.{Entry}
use Rattle.history_model.specs.Journal.{Header}
use Rattle.reply_model.specs.After.{Relation, Call, Answer, BadBytes}
use Rattle.repo_calls.specs.declared.ask.Granted.{Granted}
use Rattle.repo_calls.specs.declared.refusal.Refusal.{Refusal}
use Rattle.repo_calls.specs.declared.refusal.Refusal.TheVariants as refusals
use Rattle.repo_calls.specs.declared.calls.ChangeFault.{ChangeFault}
use Rattle.repo_calls.specs.declared.calls.ChangeFault.TheVariants as changes
use Rattle.repo_calls.specs.declared.calls.AskFault.{AskFault}
use Rattle.repo_calls.specs.declared.calls.AskFault.TheVariants as faults
use Rattle.repo_calls.specs.declared.calls.Seen.{Seen}
use Rattle.repo_calls.specs.declared.calls.Seen.TheVariants as seen
use Rattle.repo_calls.specs.Calls.{refused}
use Rattle.repo_calls.specs.Asking.{stored_answer, fault_answer, IsAnswer, is_misread, is_bad_bytes}
use Rattle.repo_calls.specs.Replying.{IsReplying, Honestly}

pub honestly : (honest : Bool) (replies : Relation) → IsReplying replies → IsReplying (Honestly honest replies)
honestly honest replies lawful = record {
  fits = λ header h who call granted new r. lawful.fits header h who call granted new r.answered;
  shown = λ header h who question seen new r. lawful.shown header h who question seen new r.answered;
  memory = λ header h who call answer new m r. record { answered = lawful.memory header h who call answer new m r.answered; true_bytes = λ _ one other e. absurd cc };
}

-- no refusal is of bytes
refused_true : (refusal : Refusal) (one other : Id) → refused refusal ≡ BadBytes one other → ⊥
refused_true refusals.Down one other e = cc
refused_true (refusals.TooLong n) one other e = cc
refused_true (refusals.BadEncoding at) one other e = cc
refused_true (refusals.SelfConflict short long) one other e = cc
refused_true (refusals.BadParts n) one other e = cc
refused_true refusals.OldFormat one other e = cc
refused_true (refusals.NoPiece x) one other e = cc
refused_true (refusals.NotAPiece x) one other e = cc
refused_true (refusals.NoParent x) one other e = cc
refused_true (refusals.NoContent p x) one other e = cc
refused_true (refusals.WrongSize p w f) one other e = cc
refused_true (refusals.Unresolved p) one other e = cc
refused_true (refusals.Collision x) one other e = cc
refused_true (refusals.NoChangeset x) one other e = cc
refused_true (refusals.Moved found) one other e = cc
refused_true refusals.NoBookmark one other e = cc
refused_true refusals.NoRoot one other e = cc
refused_true (refusals.TooFarBehind n) one other e = cc
refused_true refusals.AlreadyIn one other e = cc
refused_true (refusals.StackTooLong n) one other e = cc
refused_true (refusals.MergeInStack x) one other e = cc
refused_true (refusals.MergeInRange x) one other e = cc
refused_true (refusals.Denied place rule) one other e = cc
refused_true (refusals.Clash left right) one other e = cc
refused_true (refusals.TooLarge n) one other e = cc
refused_true (refusals.BadPolicy line) one other e = cc
refused_true (refusals.Full size n) one other e = cc
refused_true refusals.Memory one other e = cc

-- no change is answered by bytes of another id but where it says so
change_true : (result : Result Granted ChangeFault) → is_misread result ≡ false → (one other : Id) → stored_answer result ≡ BadBytes one other → ⊥
change_true (Ok granted) fine one other e = cc
change_true (Err (changes.Refused refusal)) fine one other e = refused_true refusal one other e
change_true (Err changes.DiskFault) fine one other e = cc
change_true (Err changes.ReadFault) fine one other e = cc
change_true (Err (changes.BadBytes w f)) fine one other e = cc

fault_true : (fault : AskFault) → is_bad_bytes {T = Seen} (Err fault) ≡ false → (one other : Id) → fault_answer fault ≡ BadBytes one other → ⊥
fault_true (faults.NoContent x) fine one other e = cc
fault_true (faults.NoChangeset x) fine one other e = cc
fault_true faults.NoPath fine one other e = cc
fault_true faults.NotADir fine one other e = cc
fault_true faults.NotAFile fine one other e = cc
fault_true faults.NoPolicy fine one other e = cc
fault_true (faults.Collision x) fine one other e = cc
fault_true faults.ReadFault fine one other e = cc
fault_true faults.Memory fine one other e = cc
fault_true (faults.BadBytes w f) fine one other e = cc

-- no read is answered by bytes of another id but where it says so
look_true : (result : Result Seen AskFault) (answer : Answer) → IsAnswer result answer → is_bad_bytes result ≡ false → (one other : Id) → answer ≡ BadBytes one other → ⊥
look_true (Ok (seen.Head head)) answer is fine one other e = cc
look_true (Ok (seen.Bytes bytes)) answer is fine one other e = cc
look_true (Ok (seen.Log page)) answer is fine one other e = let this = is.1 in cc
look_true (Ok (seen.Ids ids)) answer is fine one other e = cc
look_true (Ok (seen.Copies copies)) answer is fine one other e = cc
look_true (Err fault) answer is fine one other e = fault_true fault fine one other (subst (λ a. a ≡ BadBytes one other) is e)

module _ (honest : Bool) (replies : Relation) (header : Header) (h : List Entry) (who : ℕ) where
  -- what a seat's changes and reads owe, from what its repository says of them
  pub honest_change : (call : Call) (result : Result Granted ChangeFault) (new : List Entry) → replies header h who call (stored_answer result) new
      → (IsTrue honest → is_misread result ≡ false) → Honestly honest replies header h who call (stored_answer result) new
  honest_change call result new r fine = record { answered = r; true_bytes = λ told one other. change_true result (fine told) one other }

  pub honest_look : (call : Call) (result : Result Seen AskFault) (new : List Entry) → (answer : Answer) × IsAnswer result answer × replies header h who call answer new
      → (IsTrue honest → is_bad_bytes result ≡ false) → (answer : Answer) × IsAnswer result answer × Honestly honest replies header h who call answer new
  honest_look call result new r fine = (r.0, r.1, record { answered = r.2; true_bytes = λ told one other. look_true result r.0 r.1 (fine told) one other })
