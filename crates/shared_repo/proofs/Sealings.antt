-- From the turns of a change to its answer.
use Rattle.std.proofs.Common.{◌≡◌, ℕ, ◌≤◌, List, ◌++◌, None, Result, Ok, Err, true, sym, ap, subst, ◌∙◌, arith}
use mathlib.Core.List.{IsPrefix}
use Rattle.history_model.specs.History.{Entry, is_breaking, is_down}
use Rattle.history_model.specs.Journal.{Header}
use Rattle.std.specs.Prelude.{IfErr, IfOk, filter, not}
use Rattle.reply_model.specs.Reply as reply
use Rattle.reply_model.specs.After.{After, Answer, Answers, Call, DiskFault, Grants, Made, Memory, SeesMore, calm_by, entries_of, nothing}
use Rattle.reply_model.proofs.Fronts.{replies_after, failed_after}
use Rattle.repo_calls.specs.declared.ask.Granted.{Granted}
use Rattle.repo_calls.specs.declared.refusal.Refusal.{Refusal}
use Rattle.repo_calls.specs.declared.calls.ChangeFault.{ChangeFault}
use Rattle.repo_calls.specs.declared.calls.ChangeFault.TheVariants as faults
use Rattle.repo_calls.specs.Asking.{stored_answer}
use Rattle.repo_calls.specs.Calls.{granted_seen, refused}
use Rattle.bookmark_lock.specs.Place.{Place}
use Rattle.bookmark_lock.specs.Turns.{stored_length}
use Rattle.shared_repo.specs.declared.turns.Placed.{Placed}
use Rattle.shared_repo.specs.Sealed.{IsEntered, IsSeen}
use Rattle.repo_calls.specs.Sealing.{SealedAfter}
use Rattle.shared_repo.proofs.Fronts.{after_memory, after_more, after_nothing, sees_twice}
use Rattle.shared_repo.proofs.Made.{granted_calm, not_granted}

-- ---- what isn't granted

pub memory_sealed : (header : Header) (h : List Entry) (who : ℕ) (call : Call) (sealed : ℕ) → SealedAfter sealed header h who call Memory h
memory_sealed header h who call sealed = record { after = after_memory header h who call; sealed_to = λ granted is. absurd (cc is) }

-- a plan that was refused, in a turn of the seat `number`
pub plan_refused : (header : Header) (old between new : List Entry) (who number : ℕ) (call : Call) (r : Refusal) (sealed : ℕ) → SeesMore old who between → number ≡ who → SeesMore between number new → Answers header new call (refused r) nothing → SealedAfter sealed header old who call (refused r) new
plan_refused header old between new who number call r sealed s n t a = record {
  after = after_nothing header old new who call (refused r) (sees_twice old between new who s (subst (λ (w : ℕ). SeesMore between w new) n t)) a;
  sealed_to = λ granted is. absurd (not_granted (faults.Refused r) granted is);
}

-- what isn't granted is answered at once
pub fault_sealed : (header : Header) (old : Place) (call : Call) (fault : ChangeFault) (new : List Entry) (sealed : ℕ) → IsEntered header old call (Err fault) new → SealedAfter sealed header old.front old.number call (stored_answer (Err fault)) new
fault_sealed header old call fault new sealed e = record {
  after = replies_after header old.front e.before old.number call (stored_answer (Err fault)) new e.sees e.replies;
  sealed_to = λ granted is. absurd (not_granted fault granted is);
}

-- ---- a turn without an entry before

sealed_more : (header : Header) (old between new : List Entry) (who : ℕ) (call : Call) (answer : Answer) (sealed : ℕ) → SeesMore old who between → SealedAfter sealed header between who call answer new → SealedAfter sealed header old who call answer new
sealed_more header old between new who call answer sealed sees s = record { after = after_more header old between new who call answer sees s.after; sealed_to = s.sealed_to }

-- two turns of the seat, and then the call, all under its number and for what was asked
pub sealed_later : (header : Header) (old between mid new : List Entry) (who number third : ℕ) (call called : Call) (answer : Answer) (sealed : ℕ) → SeesMore old who between → number ≡ who → SeesMore between number mid → third ≡ number → called ≡ call
    → SealedAfter sealed header mid third called answer new → SealedAfter sealed header old who call answer new
sealed_later header old between mid new who number third call called answer sealed first one second other is s =
    sealed_more header old mid new who call answer sealed (sees_twice old between mid who first (subst (λ (n : ℕ). SeesMore between n mid) one second))
    (subst (λ (n : ℕ). SealedAfter sealed header mid n call answer new) (other ∙ one) (subst (λ (a : Call). SealedAfter sealed header mid third a answer new) is s))

-- ---- and the turn in which it is sealed, or not

module _ (header : Header) (old : Place) (call : Call) (placed : Placed) (mid new : Place) (same : old.number ≡ mid.number) (e : IsEntered header old call (Ok placed) mid.front) (seen : IsSeen mid new) where
  abbrev granted : reply.Granted
  granted = granted_seen placed.granted

  abbrev made : Made
  made = record { entry = e.replies.made.entry; fault = None }

  made_is : e.replies.made ≡ made
  made_is = (λ i. record { entry = e.replies.made.entry; fault = granted_calm header e.before call granted e.replies.made e.replies.answers i })

  mid_is : mid.front ≡ e.before ++ entries_of old.number made
  mid_is = e.replies.new_is ∙ ap (λ (m : Made). e.before ++ entries_of old.number m) made_is

  own : calm_by old.number new.front ≡ calm_by old.number mid.front
  own = subst (λ (who : ℕ). calm_by who new.front ≡ calm_by who mid.front) (sym same) seen.own

  done : After header old.front old.number call (Grants granted) new.front
  done = record {
    before = e.before;
    made = made;
    grows = record {
      begins = e.sees.begins;
      own = ap (filter (λ (x : Entry). not (is_breaking x.body))) e.sees.own;
      stands = subst (λ (h : List Entry). IsPrefix h new.front) mid_is seen.begins;
      only = own ∙ ap (calm_by old.number) mid_is;
      last = λ no. absurd cc;
      failed = λ no. absurd cc;
    };
    answers = subst (Answers header e.before call (Grants granted)) made_is e.replies.answers;
    at_once = λ now. absurd now;
  }

  granted_sealed : stored_length mid.front ≤ new.sealed → SealedAfter new.sealed header old.front old.number call (Grants granted) new.front
  unfolding done
  granted_sealed le = record { after = done; sealed_to = λ g is. (let long = ap stored_length mid_is in omega arith) }

  failed_sealed : is_down new.front ≡ true → SealedAfter new.sealed header old.front old.number call DiskFault new.front
  failed_sealed down = record {
    after = failed_after header old.front e.before mid.front new.front old.number call granted e.sees e.replies seen.begins own down;
    sealed_to = λ g is. absurd (cc is);
  }

  pub answered_sealed : (result : Result Granted ChangeFault) → IfOk result (λ g. (g ≡ placed.granted) × (stored_length mid.front ≤ new.sealed)) → IfErr result (λ fault. (fault ≡ faults.DiskFault) × (is_down new.front ≡ true))
      → SealedAfter new.sealed header old.front old.number call (stored_answer result) new.front
  answered_sealed (Ok g) ok err = subst (λ (x : Granted). SealedAfter new.sealed header old.front old.number call (Grants (granted_seen x)) new.front) (sym ok.0) (granted_sealed ok.1)
  answered_sealed (Err fault) ok err = subst (λ (x : ChangeFault). SealedAfter new.sealed header old.front old.number call (stored_answer (Err x)) new.front) (sym err.0) (failed_sealed err.1)
