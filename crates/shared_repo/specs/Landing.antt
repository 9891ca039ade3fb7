-- What a seat knows between the turns of a landing.
--     IsEarlier h caller name draft earlier      the plan of an attempt before, if there is one, is of this landing, and was one at a history with which h begins
--     RefusesLanding header h caller name draft refusal      this landing is refused so at any moment
--     outcome_of exchanged      the answer to a planned landing, unless the bookmark's head has moved
use Rattle.std.specs.Prelude.{◌≡◌, ℕ, List, Option, None, Some, Result, Ok, Err, IfSome}
use Rattle.byte_fields.specs.Bytes.{Id}
use Rattle.history_model.specs.History.{Entry}
use Rattle.history_model.specs.Journal.{Header}
use Rattle.reply_model.specs.Reply.{LandDraft}
use Rattle.reply_model.specs.After.{Answers, Asks, nothing}
use Rattle.repo_calls.specs.Calls.{refused}
use Rattle.repo_calls.specs.declared.ask.Granted.{Granted}
use Rattle.repo_calls.specs.declared.ask.Granted.TheVariants.{Landing}
use Rattle.repo_calls.specs.declared.calls.ChangeFault.{ChangeFault}
use Rattle.repo_calls.specs.declared.calls.ChangeFault.TheVariants as faults
use Rattle.repo_machine.specs.Again.{WasPlan}
use Rattle.repo_machine.specs.Plans.{PlannedLanding}
use Rattle.repo_state.specs.declared.exchanged.Exchanged.{Exchanged}
use Rattle.repo_state.specs.declared.exchanged.Exchanged.TheVariants.{Landed, HeadMoved, Refused}
use Rattle.repo_calls.specs.declared.refusal.Refusal.{Refusal}

pub record IsMadeBefore (h : List Entry) (caller name : List ℕ) (draft : Id) (plan : PlannedLanding) : Type 0 where
  pub planned : WasPlan h plan
  pub callers : plan.caller ≡ caller
  pub names : plan.name ≡ name
  pub drafts : plan.draft ≡ draft

abbrev pub IsEarlier : List Entry → (caller name : List ℕ) → Id → Option PlannedLanding → Type 0
IsEarlier h caller name draft earlier = IfSome earlier (IsMadeBefore h caller name draft)

abbrev pub RefusesLanding : Header → List Entry → (caller name : List ℕ) → Id → Refusal → Type 0
RefusesLanding header h caller name draft refusal = (moment : ℕ) → Answers header h (Asks (LandDraft caller name draft moment)) (refused refusal) nothing

abbrev pub outcome_of : Exchanged → Option (Result Granted ChangeFault)
outcome_of (Landed landed) = Some (Ok (Landing landed))
outcome_of (HeadMoved found) = None
outcome_of (Refused refusal) = Some (Err (faults.Refused refusal))
