-- A seat may be answered so where it is told how much is sealed, and what is sealed stays so.
use Rattle.std.proofs.Common.{◌≡◌, ◌≤◌, false, ℕ, Bool, IsTrue, List, Result, Ok, Err, subst, arith}
use Rattle.history_model.specs.History.{Entry}
use Rattle.history_model.specs.Journal.{Header}
use Rattle.reply_model.specs.Reply.{Granted}
use Rattle.reply_model.specs.After.{After, Answer, Call, Grants, Relation}
use Rattle.repo_calls.specs.declared.ask.Granted as calls
use Rattle.repo_calls.specs.declared.calls.AskFault.{AskFault}
use Rattle.repo_calls.specs.declared.calls.AskFault.TheVariants as faults
use Rattle.repo_calls.specs.declared.calls.ChangeFault.{ChangeFault}
use Rattle.repo_calls.specs.declared.calls.Seen.{Seen}
use Rattle.repo_calls.specs.declared.calls.Seen.TheVariants as seen
use Rattle.repo_calls.specs.Asking.{stored_answer, fault_answer, IsAnswer, is_bad_bytes, is_misread}
use Rattle.repo_calls.specs.Replying.{IsReplying, Honestly}
use Rattle.repo_calls.specs.Sealing.{SealedAfter}
use Rattle.repo_calls.specs.Widening.{Widens}
use Rattle.repo_calls.proofs.Honest.{honestly, honest_change, honest_look}
use Rattle.repo_calls.proofs.Lawful.{shared}

sealed_lawful : (n : ℕ) → IsReplying (SealedAfter n)
sealed_lawful n = record {
  fits = λ header h who call granted new r. shared.fits header h who call granted new r.after;
  shown = λ header h who question seen new r. shared.shown header h who question seen new r.after;
  memory = λ header h who call answer new m r. record { after = shared.memory header h who call answer new m r.after; sealed_to = λ granted is. absurd (cc is) };
}

pub lawful : (honest : Bool) (n : ℕ) → IsReplying (Honestly honest (SealedAfter n))
lawful honest n = honestly honest (SealedAfter n) (sealed_lawful n)

-- what is wider stays so over a disk that may be honest
pub honestly_wider : (honest : Bool) (narrow wide : Relation) → Widens narrow wide → Widens (Honestly honest narrow) (Honestly honest wide)
honestly_wider honest narrow wide wider = record {
  each = λ header h who call answer new r. record { answered = wider.each header h who call answer new r.answered; true_bytes = r.true_bytes };
}

sealed_wider : (m n : ℕ) → m ≤ n → Widens (SealedAfter m) (SealedAfter n)
sealed_wider m n le = record {
  each = λ header h who call answer new r. record { after = r.after; sealed_to = λ granted is. (let below = r.sealed_to granted is in omega arith) };
}

pub widens : (honest : Bool) (m n : ℕ) → m ≤ n → Widens (Honestly honest (SealedAfter m)) (Honestly honest (SealedAfter n))
widens honest m n le = honestly_wider honest (SealedAfter m) (SealedAfter n) (sealed_wider m n le)

ungranted : (fault : AskFault) (granted : Granted) → fault_answer fault ≡ Grants granted → ⊥
ungranted (faults.NoContent x) g e = cc
ungranted (faults.NoChangeset x) g e = cc
ungranted faults.NoPath g e = cc
ungranted faults.NotADir g e = cc
ungranted faults.NotAFile g e = cc
ungranted faults.NoPolicy g e = cc
ungranted (faults.Collision x) g e = cc
ungranted faults.ReadFault g e = cc
ungranted faults.Memory g e = cc
ungranted (faults.BadBytes w f) g e = cc

-- no read is granted
pub read_ungranted : (result : Result Seen AskFault) (answer : Answer) (granted : Granted) → IsAnswer result answer → answer ≡ Grants granted → ⊥
read_ungranted (Ok (seen.Head head)) answer g is e = cc
read_ungranted (Ok (seen.Bytes bytes)) answer g is e = cc
read_ungranted (Ok (seen.Log page)) answer g is e = let this = is.1 in cc
read_ungranted (Ok (seen.Ids ids)) answer g is e = cc
read_ungranted (Ok (seen.Copies copies)) answer g is e = cc
read_ungranted (Err fault) answer g is e = ungranted fault g (subst (λ a. a ≡ Grants g) is e)

-- what a seat's changes and reads owe, from what its repository says of them
pub change_sealed : (honest : Bool) (header : Header) (h : List Entry) (who : ℕ) (call : Call) (result : Result calls.Granted ChangeFault) (new : List Entry) (n : ℕ) → SealedAfter n header h who call (stored_answer result) new
    → (IsTrue honest → is_misread result ≡ false) → Honestly honest (SealedAfter n) header h who call (stored_answer result) new
change_sealed honest header h who call result new n s fine = honest_change honest (SealedAfter n) header h who call result new s fine

pub look_sealed : (honest : Bool) (header : Header) (h : List Entry) (who : ℕ) (call : Call) (result : Result Seen AskFault) (new : List Entry) → (answer : Answer) × IsAnswer result answer × After header h who call answer new
    → (IsTrue honest → is_bad_bytes result ≡ false) → (answer : Answer) × IsAnswer result answer × Honestly honest (SealedAfter 0) header h who call answer new
look_sealed honest header h who call result new r fine =
    honest_look honest (SealedAfter 0) header h who call result new (r.0, r.1, record { after = r.2; sealed_to = λ granted is. absurd (read_ungranted result r.0 granted r.1 is) }) fine
