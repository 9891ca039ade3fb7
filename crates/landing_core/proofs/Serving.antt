-- A change and the device calls that seal what it made, where all is sealed between calls.
use Rattle.std.proofs.Common.{◌≡◌, ℕ, ◌<◌, true, false, List, [], ◌∷◌, ◌++◌, length, refl, sym, ap, subst, ◌∙◌, arith}
use Rattle.std.specs.Prelude.{Option, None, Some, Ok}
use mathlib.Core.Logic.{inl, inr}
use Rattle.std.proofs.lemmas.List.{append-nil, append_assoc}
use Rattle.history_model.specs.History.{Body, Fault, Entry, is_stored, bodies, is_down}
use Rattle.history_model.specs.Journal.{Header}
use Rattle.reply_model.specs.Reply.{Ask, Granted, judge}
use Rattle.reply_model.specs.After.{Answer, Grants, Refuses, Shows as Sees, Lacks, Roots, DiskFault, ReadFault, BadBytes, NodeCollision, Memory, Asks, Replies, entry_by, entries_of}
use Rattle.reply_model.proofs.Granted.{MakesStored, judge_stored}
use Rattle.reply_model.proofs.Histories.{bodies-append}
use Rattle.reply_model.proofs.Stored.{granted_is_up}
use Rattle.core_model.specs.Core.{State, Step}
use Rattle.core_model.proofs.Cores.{one_more}
use Rattle.landing_core.specs.Steps.{Shows, Rests, MayAsk, asking, AtSeal, all_calls, calls_to, IsMadeFirst, AreStepsWithSeal, sealed_then, Goes}
use Rattle.landing_core.proofs.Asked.{after_then, stored_goes}
use Rattle.landing_core.proofs.Down.{down-stored}
use Rattle.landing_core.proofs.Sealed.{seal_goes, cut_goes}
use Rattle.landing_core.proofs.Resting.{rests_too}

pub goes_then : (header : Header) (s : State) (first rest : List Step) (P Q : State → Type 0) → Goes header s first P → ((t : State) → P t → Goes header t rest Q) → Goes header s (first ++ rest) Q
goes_then header s first rest P Q goes later =
    let more = later goes.state goes.meets in
    record { state = more.state; taken = after_then header s goes.state first rest goes.taken ∙ more.taken; meets = more.meets }

-- a fault is no stored entry
no_more : (h : List Entry) (who : ℕ) → length (bodies (h ++ entry_by who (Fault true) ∷ [])) ≡ length (bodies h)
no_more h who = ap length (bodies-append h (entry_by who (Fault true) ∷ []) ∙ append-nil (bodies h))

module _ (header : Header) (h : List Entry) (n who : ℕ) (ask : Ask) (s : State) (all : is_down h ≡ false → n ≡ length (bodies h)) (rests : Rests h n s) (may : MayAsk s who ask) where
  abbrev Served : Answer → List Entry → Type 0
  Served answer new = (steps : List Step) × AreStepsWithSeal who (asking who ask) answer steps × Goes header s steps (Rests new (sealed_then n answer new))

  -- a change that is granted, until its entry is sealed
  asked : (granted : Granted) (entry : Option Body) (new : List Entry) → judge header h ask ≡ Ok (record { granted = granted; made = entry }) → new ≡ h ++ entries_of who (record { entry = entry; fault = None }) → Goes header s (asking who ask) (Rests new n)
  asked granted entry new is grows =
      let goes = stored_goes header h n who ask (Grants granted) new s (λ e. absurd cc) (record { made = record { entry = entry; fault = None }; answers = (refl, is); new_is = grows }) rests.0 may in
      rests_too header s who ask (asking who ask) new n rests.1 (inl refl) (subst (λ (steps : List Step). Goes header s steps (Shows new n)) goes.1 goes.2)

  module _ (granted : Granted) (body : Body) (is : judge header h ask ≡ Ok (record { granted = granted; made = Some body })) where
    abbrev entered : List Entry
    entered = h ++ entry_by who body ∷ []

    stored : is_stored body ≡ true
    stored = subst MakesStored is (judge_stored header h ask) body refl

    up : is_down h ≡ false
    up = granted_is_up header h ask _ is

    still_up : is_down entered ≡ false
    still_up = down-stored h (entry_by who body) stored ∙ up

    waits : n < length (bodies entered)
    waits = (let more = one_more h who body stored in let now = all up in omega arith)

    sealed_here : Goes header s (asking who ask ++ all_calls who) (Rests entered (length (bodies entered)))
    sealed_here = goes_then header s (asking who ask) (all_calls who) (Rests entered n) (Rests entered (length (bodies entered))) (asked granted (Some body) entered is refl) (λ t rests. seal_goes header entered n who t still_up waits rests)

    failed_here : Goes header s (asking who ask ++ calls_to who AtSeal) (Rests (entered ++ entry_by who (Fault true) ∷ []) n)
    failed_here = goes_then header s (asking who ask) (calls_to who AtSeal) (Rests entered n) (Rests (entered ++ entry_by who (Fault true) ∷ []) n) (asked granted (Some body) entered is refl) (λ t rests. cut_goes header entered n who t AtSeal still_up waits rests)

  granted_served : (granted : Granted) (entry : Option Body) (new : List Entry) → judge header h ask ≡ Ok (record { granted = granted; made = entry }) → new ≡ h ++ entries_of who (record { entry = entry; fault = None }) → Served (Grants granted) new
  granted_served granted None new is grows =
      let same : n ≡ length (bodies new) = all (granted_is_up header h ask _ is) ∙ ap (λ h. length (bodies h)) (sym (grows ∙ append-nil h)) in
      (asking who ask, inl refl, subst (λ m. Goes header s (asking who ask) (Rests new m)) same (asked granted None new is grows))
  granted_served granted (Some body) new is grows =
      (asking who ask ++ all_calls who, inr refl, subst (λ new. Goes header s (asking who ask ++ all_calls who) (Rests new (length (bodies new)))) (sym grows) (sealed_here granted body is))

  abbrev after_fault : Option Body → List Entry
  after_fault entry = h ++ entries_of who (record { entry = entry; fault = Some true })

  failed_served : (granted : Granted) (entry : Option Body) (new : List Entry) → length (bodies h) < length (bodies new) → judge header h ask ≡ Ok (record { granted = granted; made = entry }) → new ≡ after_fault entry → Served DiskFault new
  failed_served granted None new first is grows = absurd (let none = no_more h who in let same = ap (λ h. length (bodies h)) grows in omega arith)
  failed_served granted (Some body) new first is grows =
      let new_is : (h ++ entry_by who body ∷ []) ++ entry_by who (Fault true) ∷ [] ≡ new = append_assoc h (entry_by who body ∷ []) (entry_by who (Fault true) ∷ []) ∙ sym grows in
      (asking who ask ++ calls_to who AtSeal, (AtSeal, refl), subst (λ new. Goes header s (asking who ask ++ calls_to who AtSeal) (Rests new n)) new_is (failed_here granted body is))

  served : (answer : Answer) (new : List Entry) → Replies header h who (Asks ask) answer new → IsMadeFirst h answer new → Served answer new
  served (Grants granted) new r first = granted_served granted r.made.entry new r.answers.1 (r.new_is ∙ (λ i. h ++ entries_of who (record { entry = r.made.entry; fault = r.answers.0 i })))
  served (Refuses refusal) new r first =
      let goes = stored_goes header h n who ask (Refuses refusal) new s (λ e. absurd cc) r rests.0 may in
      (goes.0, goes.1, rests_too header s who ask goes.0 new n rests.1 (inl goes.1) goes.2)
  served (Sees seen) new r first = absurd r.answers
  served (Lacks absent) new r first = absurd r.answers
  served (Roots fsnode unode deleted) new r first = absurd r.answers
  served DiskFault new r first = failed_served r.answers.1 r.made.entry new (first refl) r.answers.2 (r.new_is ∙ (λ i. h ++ entries_of who (record { entry = r.made.entry; fault = r.answers.0 i })))
  served ReadFault new r first = absurd r.answers
  served (BadBytes wanted found) new r first = absurd r.answers
  served (NodeCollision x) new r first = absurd r.answers.1
  served Memory new r first =
      let goes = stored_goes header h n who ask Memory new s (λ e. absurd cc) r rests.0 may in
      (goes.0, goes.1, rests_too header s who ask goes.0 new n rests.1 (inr goes.1) goes.2)

pub served_goes : (header : Header) (h : List Entry) (n who : ℕ) (ask : Ask) (answer : Answer) (new : List Entry) (s : State) → Replies header h who (Asks ask) answer new → IsMadeFirst h answer new → (is_down h ≡ false → n ≡ length (bodies h)) → Rests h n s → MayAsk s who ask
    → (steps : List Step) × AreStepsWithSeal who (asking who ask) answer steps × Goes header s steps (Rests new (sealed_then n answer new))
served_goes header h n who ask answer new s r first all rests may = served header h n who ask s all rests may answer new r first
