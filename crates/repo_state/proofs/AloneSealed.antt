-- What a repository that is served alone owes its seat for a change and a read, from what it says of them.
use Rattle.std.proofs.Common.{◌≡◌, ◌≤◌, ℕ, Bool, false, IsTrue, List, length, Result, Ok, Err}
use Rattle.std.specs.Prelude.{IfOk}
use Rattle.history_model.specs.History.{Entry, bodies}
use Rattle.history_model.specs.Journal.{Header}
use Rattle.reply_model.specs.Reply.{Granted, Question}
use Rattle.reply_model.specs.After.{Answer, Call, Grants, Looks, Memory, Replies}
use Rattle.repo_calls.specs.declared.ask.Granted as calls
use Rattle.repo_calls.specs.declared.calls.AskFault.{AskFault}
use Rattle.repo_calls.specs.declared.calls.ChangeFault.{ChangeFault}
use Rattle.repo_calls.specs.declared.calls.ChangeFault.TheVariants as changes
use Rattle.repo_calls.specs.declared.calls.Seen.{Seen}
use Rattle.repo_calls.specs.Asking.{IsAnswer, is_bad_bytes, is_misread, stored_answer}
use Rattle.repo_calls.specs.Replying.{Honestly}
use Rattle.repo_calls.proofs.Honest.{honest_change, honest_look}
use Rattle.repo_calls.proofs.Sealing.{read_ungranted}
use Rattle.repo_state.specs.Alone.{RepliesAlone, SealedAlone}
use Rattle.repo_state.proofs.Answered.{refused_by}
use Rattle.repo_state.proofs.AloneSteps.{alone_memory}
use Rattle.repo_state.proofs.Served.{look_alone}

granted_to : (result : Result calls.Granted ChangeFault) (m n : ℕ) → IfOk result (λ granted. m ≤ n) → (granted : Granted) → stored_answer result ≡ Grants granted → m ≤ n
granted_to (Ok made) m n le granted is = le
granted_to (Err (changes.Refused refusal)) m n le granted is = absurd (refused_by (λ answer. answer ≡ Grants granted → ⊥) (λ r e. cc) (λ e. cc) refusal is)
granted_to (Err changes.DiskFault) m n le granted is = absurd (cc is)
granted_to (Err changes.ReadFault) m n le granted is = absurd (cc is)
granted_to (Err (changes.BadBytes wanted found)) m n le granted is = absurd (cc is)

module _ (honest : Bool) (header : Header) (h : List Entry) where
  pub change_owed : (who : ℕ) (call : Call) (result : Result calls.Granted ChangeFault) (new : List Entry) (n : ℕ) → RepliesAlone header h who call (stored_answer result) new → IfOk result (λ granted. length (bodies new) ≤ n)
      → (IsTrue honest → is_misread result ≡ false) → Honestly honest (SealedAlone n) header h who call (stored_answer result) new
  change_owed who call result new n r sealed fine = honest_change honest (SealedAlone n) header h who call result new (record { replies = r; sealed_to = granted_to result (length (bodies new)) n sealed }) fine

  pub memory_owed : (who : ℕ) (call : Call) (n : ℕ) → Honestly honest (SealedAlone n) header h who call Memory h
  memory_owed who call n = record {
    answered = record { replies = alone_memory header h who call; sealed_to = λ granted is. absurd (cc is) };
    true_bytes = λ told wanted found e. absurd cc;
  }

  pub look_owed : (question : Question) (result : Result Seen AskFault) (new : List Entry) → (answer : Answer) × IsAnswer result answer × Replies header h 0 (Looks question) answer new
      → (IsTrue honest → is_bad_bytes result ≡ false) → (answer : Answer) × IsAnswer result answer × Honestly honest (SealedAlone 0) header h 0 (Looks question) answer new
  look_owed question result new r fine =
      honest_look honest (SealedAlone 0) header h 0 (Looks question) result new (r.0, r.1, record { replies = look_alone r.2; sealed_to = λ granted is. absurd (read_ungranted result r.0 granted r.1 is) }) fine
