-- What an exchange answers.
use Rattle.std.proofs.Common.{◌≡◌, ℕ, false, List, Option, None, Some, Result, Ok, Err, refl, sym, subst, inl, inr, ◌∙◌}
use Rattle.std.proofs.lemmas.List.{append-nil}
use Rattle.std.specs.Prelude.{IsSome, MatchOption, OnOk}
use Rattle.std.specs.Result.{is_err, IfErr}
use Rattle.byte_fields.specs.Bytes.{Id}
use Rattle.history_model.specs.Bookmark.{head}
use Rattle.history_model.specs.History.{Entry}
use Rattle.history_model.specs.Journal.{Header}
use Rattle.reply_model.specs.Reply.{Ask, LandDraft, judge}
use Rattle.reply_model.specs.After.{Answer, Answers, Asks, Call, Replies, nothing}
use Rattle.repo_calls.specs.declared.ask.Granted.{Granted}
use Rattle.repo_calls.specs.declared.calls.ChangeFault.{ChangeFault}
use Rattle.repo_calls.specs.declared.refusal.Refusal.{Refusal}
use Rattle.repo_calls.specs.Asking.{stored_answer}
use Rattle.repo_calls.specs.Calls.{refused}
use Rattle.repo_calls.specs.Refusing.{IsRefusal}
use Rattle.repo_machine.specs.Landings.{IsLandingRefusal}
use Rattle.repo_machine.specs.Plans.{PlannedLanding, RebasedLanding, IsPlan}
use Rattle.repo_state.specs.Exchanging.{Exchanges}
use Rattle.repo_state.specs.declared.exchanged.Exchanged.{Exchanged}
use Rattle.repo_state.specs.declared.exchanged.Exchanged.TheVariants.{Landed, HeadMoved, Refused}
use Rattle.shared_repo.specs.Landing.{IsMadeBefore, RefusesLanding, outcome_of}

pub outcome_replies : (header : Header) (h new : List Entry) (who : ℕ) (r : RebasedLanding) (x : Exchanged) → Exchanges header h who r x new
    → MatchOption (outcome_of x) (new ≡ h) (λ entered. Replies header h who (Asks (LandDraft r.caller r.name r.draft r.asked)) (stored_answer entered) new)
outcome_replies header h new who r (Landed landed) e = e.1
outcome_replies header h new who r (HeadMoved found) e = e.3
outcome_replies header h new who r (Refused refusal) e = e.2

-- where nothing came of it the history is as it was
pub none_same : (header : Header) (h new : List Entry) (who : ℕ) (r : RebasedLanding) (x : Exchanged) → Exchanges header h who r x new → outcome_of x ≡ None → new ≡ h
none_same header h new who r (Landed landed) e none = absurd cc
none_same header h new who r (HeadMoved found) e none = e.3
none_same header h new who r (Refused refusal) e none = absurd cc

pub counted_replies : (header opened : Header) (h before new : List Entry) (who : ℕ) (r : RebasedLanding) (x : Exchanged) (granted : Result Granted ChangeFault) (answer : Answer) → Exchanges header h who r x new → header ≡ opened → h ≡ before → outcome_of x ≡ Some granted → answer ≡ stored_answer granted
    → Replies opened before who (Asks (LandDraft r.caller r.name r.draft r.asked)) answer new
counted_replies header opened h before new who r x granted answer e heads same some is =
    let ask = Asks (LandDraft r.caller r.name r.draft r.asked) in
    let told : Replies header h who ask (stored_answer granted) new =
    subst (λ (o : Option (Result Granted ChangeFault)). MatchOption o (new ≡ h) (λ entered. Replies header h who ask (stored_answer entered) new)) some (outcome_replies header h new who r x e) in
    subst (λ (a : Answer). Replies opened before who ask a new) (sym is)
    (subst (λ (b : List Entry). Replies opened b who ask (stored_answer granted) new) same (subst (λ (o : Header). Replies o h who ask (stored_answer granted) new) heads told))

-- where the head is the planned one, it hasn't moved
pub outcome_there : (header : Header) (h new : List Entry) (who : ℕ) (r : RebasedLanding) (x : Exchanged) → Exchanges header h who r x new → head h r.name ≡ Some r.old → IsSome (outcome_of x)
outcome_there header h new who r (Landed landed) e at = refl
outcome_there header h new who r (HeadMoved found) e at = absurd (e.2 (e.1 ∙ at))
outcome_there header h new who r (Refused refusal) e at = refl

-- a refusal of a plan is an answer that makes nothing
refused_so : (header : Header) (h : List Entry) (ask : Ask) (e : Refusal) → IsRefusal (judge header h ask) e → Answers header h (Asks ask) (refused e) nothing
refused_so header h ask e (inl memory) = subst (λ (x : Refusal). Answers header h (Asks ask) (refused x) nothing) (sym memory) refl
refused_so header h ask e (inr told) = subst (λ (a : Answer). Answers header h (Asks ask) a nothing) (sym told.2) (refl, told.1)

pub refused_plan : (header : Header) (h : List Entry) (caller name : List ℕ) (draft : Id) (e : Refusal) → IsLandingRefusal header h caller name draft e → RefusesLanding header h caller name draft e
refused_plan header h caller name draft e always = λ moment. refused_so header h (LandDraft caller name draft moment) e (always moment)

pub refused_plan_in : {A : Type 0} (header opened : Header) (h : List Entry) (caller name : List ℕ) (draft : Id) (result : Result A Refusal) → header ≡ opened → IfErr result (IsLandingRefusal header h caller name draft)
    → IfErr result (RefusesLanding opened h caller name draft)
refused_plan_in header opened h caller name draft (Ok x) same told = tt
refused_plan_in header opened h caller name draft (Err e) same told = subst (λ (o : Header). RefusesLanding o h caller name draft e) same (refused_plan header h caller name draft e told)

-- a change that is refused makes nothing
pub refused_alone : (header : Header) (h new : List Entry) (who : ℕ) (call : Call) (e : Refusal) → Answers header h call (refused e) nothing → new ≡ h → Replies header h who call (refused e) new
refused_alone header h new who call e told same = record { made = nothing; answers = told; new_is = same ∙ sym (append-nil h) }

-- what is told of a plan that was made again is told of the landing
pub planned_again : (h : List Entry) (caller name : List ℕ) (draft : Id) (before plan : PlannedLanding) → IsMadeBefore h caller name draft before → IsPlan h before.caller before.name before.draft plan → IsPlan h caller name draft plan
planned_again h caller name draft before plan m p = subst (λ (t : List ℕ × (List ℕ × Id)). IsPlan h t.0 t.1.0 t.1.1 plan) (λ i. (m.callers i, (m.names i, m.drafts i))) p

pub refused_again : (header : Header) (h : List Entry) (caller name : List ℕ) (draft : Id) (before : PlannedLanding) (e : Refusal) → IsMadeBefore h caller name draft before → RefusesLanding header h before.caller before.name before.draft e → RefusesLanding header h caller name draft e
refused_again header h caller name draft before e m always = λ moment. subst (λ (ask : Ask). Answers header h (Asks ask) (refused e) nothing) (λ i. LandDraft (m.callers i) (m.names i) (m.drafts i) moment) (always moment)

-- what holds where a call was done
pub where_ok : {A E P : Type 0} (result : Result A E) → is_err result ≡ false → OnOk result P → P
where_ok (Ok x) done holds = holds
where_ok (Err e) done holds = absurd cc
