-- The calls of a repository in a file as steps of the core, by their answers.
use Rattle.std.proofs.Common.{◌≡◌, ℕ, ◌<◌, Bool, true, false, List, length, [], ◌∷◌, ◌++◌, refl, sym, ap, subst, ◌∙◌, append-nil}
use Rattle.std.specs.Prelude.{◌⊎◌, Option, None, Some, Result, Ok, Err, IfOk}
use mathlib.Core.Logic.{inl, inr}
use Rattle.byte_fields.specs.Bytes.{Id}
use Rattle.history_model.specs.History.{Fault, Entry, bodies, is_down, stored}
use Rattle.history_model.specs.Journal.{Header}
use Rattle.history_model.specs.Pushrebase.{rewrite}
use Rattle.reply_model.specs.Reply as reply
use Rattle.reply_model.specs.Reply.{LandDraft}
use Rattle.reply_model.specs.After as answers
use Rattle.reply_model.specs.After.{Call, Asks, Replies, entries_of, entry_by}
use Rattle.reply_model.proofs.Stored.{is_down-stored}
use Rattle.repo_calls.specs.Calls.{denied_path, refused}
use Rattle.repo_calls.specs.declared.refusal.Refusal as refusal
use Rattle.repo_calls.specs.declared.refusal.Refusal.TheVariants as refusals
use Rattle.repo_machine.specs.Plans.{PlannedLanding, RebasedLanding, IsPlan, PassesPlan}
use Rattle.core_model.specs.Core.{State, Step, WriteGroup, SyncGroup, OpenGate, Seal, opened}
use Rattle.landing_core.specs.Steps.{Shows, HasPlan, all_calls, calls_to, Goes}
use Rattle.landing_core.proofs.Asked.{after_then, stored_goes}
use Rattle.landing_core.proofs.Exchanged.{landed_goes, moved_goes, refused_goes}
use Rattle.landing_core.proofs.Sealed.{write_goes, write_fails, open_goes, sync_fails, open_fails, end_goes, end_fails}
use Rattle.landing_core.proofs.Others.{plan_goes, looked_goes, fault_goes, opened_shows}
use Rattle.repo_machine.proofs.Judging.{refused_down}
use Rattle.repo_state.specs.Alone.{wanted}
use Rattle.repo_state.proofs.Answered.{refused_by}
use Rattle.repo_state.proofs.Asked.{granted_ask, refuses_ask}
use Rattle.repo_state.proofs.Storing.{refused_replies}
use Rattle.repo_state.specs.Exchanging.{Exchanges}
use Rattle.repo_journal.specs.declared.cut.Cut.{Cut}
use Rattle.repo_journal.specs.declared.cut.Cut.TheVariants as cuts
use Rattle.repo_journal.specs.declared.left.At.TheVariants as stages
use Rattle.repo_state.specs.Cores.{StoresCall, Stays, asked_landing, EndCalls, EndsSo, ExchangesSo, FailsFrom, RestSo, SealsSo, ShowsLeft, StepsSo, TurnSo, Plans, LooksSo, cut_of}
use Rattle.repo_state.specs.declared.left.Left.{Left}
use Rattle.repo_state.proofs.Opening.{stored_count}
use Rattle.repo_state.specs.declared.exchanged.Exchanged.{Exchanged}
use Rattle.repo_state.specs.declared.exchanged.Exchanged.TheVariants.{Landed, HeadMoved, Refused}

-- ---- changes

-- nothing was asked
pub stays : (header : Header) (h new : List Entry) (n : ℕ) → new ≡ h → Stays header h n new
stays header h new n same = λ s shows. record { state = s; taken = refl; meets = subst (λ g. Shows g n s) (sym same) shows }

pub wants_nothing : (header : Header) (h : List Entry) (who : ℕ) (call : Call) (new : List Entry) → Replies header h who call answers.Memory new → new ≡ h
wants_nothing header h who call new r = r.new_is ∙ ap (λ made. h ++ entries_of who made) (wanted header h call r.made r.answers) ∙ append-nil h

pub granted_call : (header : Header) (h : List Entry) (n who : ℕ) (call : Call) (granted : reply.Granted) (new : List Entry) → Replies header h who call (answers.Grants granted) new → StoresCall header h n who call (answers.Grants granted) new
granted_call header h n who call granted new r =
    let a = granted_ask header h who call granted new r in
    (a.ask, a.asks, λ s shows may. stored_goes header h n who a.ask (answers.Grants granted) new s (λ p. absurd cc) a.replies shows may)

pub refused_call : (header : Header) (h : List Entry) (n who : ℕ) (call : Call) (e : refusal.Refusal) (new : List Entry) → Replies header h who call (refused e) new → StoresCall header h n who call (refused e) new
refused_call header h n who call e new =
    refused_by (λ answer. Replies header h who call answer new → StoresCall header h n who call answer new)
    (λ refusal r. (let a = refuses_ask header h who call refusal new r in (a.ask, a.asks, λ s shows may. stored_goes header h n who a.ask (answers.Refuses refusal) new s (λ p. absurd cc) a.replies shows may)))
    (λ r. stays header h new n (wants_nothing header h who call new r))
    e

-- ---- planned landings

some_refusal : (e : refusal.Refusal) → PassesPlan e → (r : reply.Refusal) × (refused e ≡ answers.Refuses r)
some_refusal refusals.Down p = (reply.Down, refl)
some_refusal (refusals.TooLong n) p = absurd p
some_refusal (refusals.BadEncoding at) p = absurd p
some_refusal (refusals.SelfConflict short long) p = absurd p
some_refusal (refusals.BadParts n) p = absurd p
some_refusal refusals.OldFormat p = absurd p
some_refusal (refusals.NoPiece x) p = absurd p
some_refusal (refusals.NotAPiece x) p = absurd p
some_refusal (refusals.NoParent x) p = absurd p
some_refusal (refusals.NoContent path x) p = absurd p
some_refusal (refusals.WrongSize path wanted found) p = absurd p
some_refusal (refusals.Unresolved path) p = absurd p
some_refusal (refusals.Collision x) p = (reply.Collision x, refl)
some_refusal (refusals.NoChangeset x) p = absurd p
some_refusal (refusals.Moved found) p = absurd p
some_refusal refusals.NoBookmark p = absurd p
some_refusal refusals.NoRoot p = absurd p
some_refusal (refusals.TooFarBehind distance) p = absurd p
some_refusal refusals.AlreadyIn p = absurd p
some_refusal (refusals.StackTooLong count) p = absurd p
some_refusal (refusals.MergeInStack x) p = absurd p
some_refusal (refusals.MergeInRange x) p = absurd p
some_refusal (refusals.Denied place rule) p = (reply.Denied (denied_path place) rule, refl)
some_refusal (refusals.Clash left right) p = absurd p
some_refusal (refusals.TooLarge n) p = (reply.TooLarge n, refl)
some_refusal (refusals.BadPolicy line) p = absurd p
some_refusal (refusals.Full size n) p = (reply.Full size n, refl)
some_refusal refusals.Memory p = absurd p

pub exchanges : (header : Header) (h : List Entry) (n who : ℕ) (r : RebasedLanding) (result : Exchanged) (new : List Entry) → Exchanges header h who r result new → ExchangesSo header h n who r new
exchanges header h n who r (Landed landed) new x = λ s shows may plan.
    landed_goes header h n who r.caller r.name r.draft r.asked r.old r.new s shows may plan (reply.Landed landed.old landed.ids.items) new x.0 x.1
exchanges header h n who r (HeadMoved found) new x = λ s shows may plan.
    subst (λ h. Goes header s (asked_landing who r) (Shows h n)) (sym x.3) (moved_goes header h n who r.caller r.name r.draft r.asked r.old r.new s shows may plan (λ at. x.2 (x.1 ∙ at)))
exchanges header h n who r (Refused e) new x = λ s shows may plan.
    (let why = some_refusal e x.1 in
    refused_goes header h n who r.caller r.name r.draft r.asked r.old r.new s shows may plan why.0 new x.0 (subst (λ a. Replies header h who (Asks (LandDraft r.caller r.name r.draft r.asked)) a new) why.1 x.2))

-- nothing is stored any more
pub down_exchanges : (header : Header) (h : List Entry) (who : ℕ) (r : RebasedLanding) → is_down h ≡ true → Exchanges header h who r (Refused refusals.Down) h
down_exchanges header h who r down = (inl down, tt, refused_replies header h h who (LandDraft r.caller r.name r.draft r.asked) refusals.Down refl (refused_down header h (LandDraft r.caller r.name r.draft r.asked) down))

-- ---- plans and reads

with_plan : (s : State) (who moment : ℕ) (h : List Entry) (caller name : List ℕ) (draft : Id) (plan : PlannedLanding) → (p : IsPlan h caller name draft plan) → HasPlan s who name draft moment plan.old (rewrite p.fork_is.stack plan.old moment) → HasPlan s who plan.name plan.draft moment plan.old (rewrite plan.stack plan.old moment)
with_plan s who moment h caller name draft plan p has = record {
  plan = has.plan;
  plan_is = has.plan_is;
  names = has.names ∙ sym p.names;
  drafts = has.drafts ∙ sym p.drafts;
  moments = has.moments;
  old_is = has.old_is;
  new_is = has.new_is ∙ ap (λ stack. rewrite stack plan.old moment) (sym p.stack_is);
}

pub plans : (header : Header) (h : List Entry) (n : ℕ) (caller name : List ℕ) (draft : Id) (plan : PlannedLanding) → IsPlan h caller name draft plan → Plans header h n name draft plan
plans header h n caller name draft plan p = λ s who moment shows.
    (let goes = plan_goes header h n who name draft moment plan.old p.fork_is s p.head_is p.forks shows in
    record { state = goes.state; taken = goes.taken; meets = (goes.meets.0, with_plan goes.state who moment h caller name draft plan p goes.meets.1) })

pub plans_if_ok : {E : Type 0} (header : Header) (h : List Entry) (n : ℕ) (caller name : List ℕ) (draft : Id) (result : Result PlannedLanding E) → IfOk result (IsPlan h caller name draft) → IfOk result (Plans header h n name draft)
plans_if_ok header h n caller name draft (Ok plan) p = plans header h n caller name draft plan p
plans_if_ok header h n caller name draft (Err e) p = tt

pub looks_done : (header : Header) (h new : List Entry) (n who : ℕ) → new ≡ h → LooksSo header h n who true new
looks_done header h new n who same = λ s shows. looked_goes header h new n who s same shows

pub looks_fault : (header : Header) (h new : List Entry) (n who : ℕ) → new ≡ h ++ entry_by who (Fault false) ∷ [] → LooksSo header h n who false new
looks_fault header h new n who grows = λ s shows. fault_goes header h new n who s grows shows

-- ---- seals

-- nothing is asked
pub seals_nothing : (header : Header) (h : List Entry) (n : ℕ) (left : Option Left) (who : ℕ) (failed : Bool) → SealsSo header h n left who failed h n left
seals_nothing header h n left who failed = λ s shows gate. ([], inl (refl, refl), record { state = s; taken = refl; meets = (shows, gate) })

pub steps_nothing : (header : Header) (h : List Entry) (n : ℕ) (left : Option Left) (who : ℕ) (failed : Bool) → StepsSo header h n left who failed h n left
steps_nothing header h n left who failed = λ s shows gate. ([], inl (refl, refl), record { state = s; taken = refl; meets = (shows, gate) })

pub step_turn : (header : Header) (h : List Entry) (n : ℕ) (left : Option Left) (who : ℕ) (failed : Bool) (new : List Entry) (after : ℕ) (gate : Option Left) → TurnSo header h n left who failed new after gate → StepsSo header h n left who failed new after gate
step_turn header h n left who failed new after gate turn = λ s shows there. (let t = turn s shows there in (t.0, inr t.1, t.2))

-- ---- turns

abbrev broke : List Entry → ℕ → List Entry
broke h who = h ++ entry_by who (Fault true) ∷ []

pub begun_so : (header : Header) (h : List Entry) (n who : ℕ) → is_down h ≡ false → n < length (bodies h) → TurnSo header h n None who false h n (Some (record { upto = length (bodies h); at = stages.Laid }))
begun_so header h n who up some = λ s shows there. (WriteGroup who true ∷ [], refl, write_goes header h n who s up some (shows, there))

pub unbegun_so : (header : Header) (h : List Entry) (n who : ℕ) → is_down h ≡ false → n < length (bodies h) → TurnSo header h n None who true (broke h who) n (Some (record { upto = length (bodies h); at = stages.Cut cuts.Write }))
unbegun_so header h n who up some = λ s shows there. (WriteGroup who false ∷ [], (refl, refl), write_fails header h n who s up some (shows, there))

pub opened_so : (header : Header) (h : List Entry) (n who upto : ℕ) → TurnSo header h n (Some (record { upto = upto; at = stages.Laid })) who false h n (Some (record { upto = upto; at = stages.Opened }))
opened_so header h n who upto = λ s shows there. (SyncGroup who true ∷ OpenGate who true ∷ [], refl, open_goes header h n who upto s (shows, there))

pub unopened_so : (header : Header) (h : List Entry) (n who upto : ℕ) (cut : Cut) → (cut ≡ cuts.Sync) ⊎ (cut ≡ cuts.Open) → TurnSo header h n (Some (record { upto = upto; at = stages.Laid })) who true (broke h who) n (Some (record { upto = upto; at = stages.Cut cut }))
unopened_so header h n who upto cut (inl e) =
    subst (λ (c : Cut). TurnSo header h n (Some (record { upto = upto; at = stages.Laid })) who true (broke h who) n (Some (record { upto = upto; at = stages.Cut c }))) (sym e)
    (λ s shows there. (SyncGroup who false ∷ [], inl (refl, refl), sync_fails header h n who upto s (shows, there)))
unopened_so header h n who upto cut (inr e) =
    subst (λ (c : Cut). TurnSo header h n (Some (record { upto = upto; at = stages.Laid })) who true (broke h who) n (Some (record { upto = upto; at = stages.Cut c }))) (sym e)
    (λ s shows there. (SyncGroup who true ∷ OpenGate who false ∷ [], inr (refl, refl), open_fails header h n who upto s (shows, there)))

pub closed_so : (header : Header) (h : List Entry) (n who upto : ℕ) → TurnSo header h n (Some (record { upto = upto; at = stages.Opened })) who false h upto None
closed_so header h n who upto = λ s shows there. (Seal who true ∷ [], refl, end_goes header h n who upto s (shows, there))

pub unclosed_so : (header : Header) (h : List Entry) (n who upto : ℕ) (cut : Cut) → cut ≡ cuts.Seal → TurnSo header h n (Some (record { upto = upto; at = stages.Opened })) who true (broke h who) n (Some (record { upto = upto; at = stages.Cut cut }))
unclosed_so header h n who upto cut e =
    subst (λ (c : Cut). TurnSo header h n (Some (record { upto = upto; at = stages.Opened })) who true (broke h who) n (Some (record { upto = upto; at = stages.Cut c }))) (sym e)
    (λ s shows there. (Seal who false ∷ [], (refl, refl), end_fails header h n who upto s (shows, there)))

-- at other names of the same values
pub turn_at : (header : Header) (h new new1 : List Entry) (n after after1 : ℕ) (left left1 gate gate1 : Option Left) (who : ℕ) (failed : Bool) → left1 ≡ left → new1 ≡ new → after1 ≡ after → gate1 ≡ gate → TurnSo header h n left who failed new after gate → TurnSo header h n left1 who failed new1 after1 gate1
turn_at header h new new1 n after after1 left left1 gate gate1 who failed el en ea eg turn =
    subst (λ (o : Option Left). TurnSo header h n o who failed new1 after1 gate1) (sym el)
    (subst (λ (g : List Entry). TurnSo header h n left who failed g after1 gate1) (sym en)
    (subst (λ (k : ℕ). TurnSo header h n left who failed new k gate1) (sym ea)
    (subst (λ (o : Option Left). TurnSo header h n left who failed new after o) (sym eg) turn)))

-- ---- one after another

join_goes : {P Q : State → Type 0} (header : Header) (s : State) (first rest : List Step) → (a : Goes header s first P) → Goes header a.state rest Q → Goes header s (first ++ rest) Q
join_goes {P} {Q} header s first rest a b = record { state = b.state; taken = after_then header s a.state first rest a.taken ∙ b.taken; meets = b.meets }

abbrev ShownAt : List Entry → ℕ → Option Left → State → Type 0
ShownAt h n gate t = Shows h n t × ShowsLeft gate t

-- all the calls up to one that fails
pub cut_so : (header : Header) (h : List Entry) (n who : ℕ) (cut : Cut) → is_down h ≡ false → n < length (bodies h) → (s : State) → Shows h n s → ShowsLeft None s → Goes header s (calls_to who (cut_of cut)) (ShownAt (broke h who) n (Some (record { upto = length (bodies h); at = stages.Cut cut })))
cut_so header h n who cuts.Write up some s shows none = write_fails header h n who s up some (shows, none)
cut_so header h n who cuts.Sync up some s shows none =
    let a = write_goes header h n who s up some (shows, none) in
    join_goes header s (WriteGroup who true ∷ []) (SyncGroup who false ∷ []) a (sync_fails header h n who (length (bodies h)) a.state a.meets)
cut_so header h n who cuts.Open up some s shows none =
    let a = write_goes header h n who s up some (shows, none) in
    join_goes header s (WriteGroup who true ∷ []) (SyncGroup who true ∷ OpenGate who false ∷ []) a (open_fails header h n who (length (bodies h)) a.state a.meets)
cut_so header h n who cuts.Seal up some s shows none =
    let a = write_goes header h n who s up some (shows, none) in
    let b = open_goes header h n who (length (bodies h)) a.state a.meets in
    join_goes header s (WriteGroup who true ∷ []) (SyncGroup who true ∷ OpenGate who true ∷ Seal who false ∷ []) a
    (join_goes header a.state (SyncGroup who true ∷ OpenGate who true ∷ []) (Seal who false ∷ []) b (end_fails header h n who (length (bodies h)) b.state b.meets))

abbrev group_laid : ℕ → Option Left
group_laid upto = Some (record { upto = upto; at = stages.Laid })

abbrev group_opened : ℕ → Option Left
group_opened upto = Some (record { upto = upto; at = stages.Opened })

-- the gate is opened, and the group is sealed, or that fails
pub ends_both : (header : Header) (h h1 h2 : List Entry) (n n1 n2 upto who : ℕ) (failed : Bool) (mid gate : Option Left) → mid ≡ Some (record { upto = upto; at = stages.Opened }) → TurnSo header h n (Some (record { upto = upto; at = stages.Laid })) who false h1 n1 mid → TurnSo header h1 n1 mid who failed h2 n2 gate
    → EndsSo header h n (Some (record { upto = upto; at = stages.Laid })) who failed h2 n2 gate
ends_both header h h1 h2 n n1 n2 upto who failed mid gate is first second = by failed (subst (λ (o : Option Left). TurnSo header h n (Some (record { upto = upto; at = stages.Laid })) who false h1 n1 o) is first) (subst (λ (o : Option Left). TurnSo header h1 n1 o who failed h2 n2 gate) is second)
  where
    by : (failed : Bool) → TurnSo header h n (group_laid upto) who false h1 n1 (group_opened upto) → TurnSo header h1 n1 (group_opened upto) who failed h2 n2 gate → EndsSo header h n (group_laid upto) who failed h2 n2 gate
    by false first second s shows there =
        let a = first s shows there in
        let opens = subst (λ (x : List Step). Goes header s x (ShownAt h1 n1 (group_opened upto))) a.1 a.2 in
        let b = second opens.state opens.meets.0 opens.meets.1 in
        let seals = subst (λ (x : List Step). Goes header opens.state x (ShownAt h2 n2 gate)) b.1 b.2 in
        (SyncGroup who true ∷ OpenGate who true ∷ Seal who true ∷ [], refl, join_goes header s (SyncGroup who true ∷ OpenGate who true ∷ []) (Seal who true ∷ []) opens seals)
    by true first second s shows there =
        let a = first s shows there in
        let opens = subst (λ (x : List Step). Goes header s x (ShownAt h1 n1 (group_opened upto))) a.1 a.2 in
        let b = second opens.state opens.meets.0 opens.meets.1 in
        let seals = subst (λ (x : List Step). Goes header opens.state x (ShownAt h2 n2 gate)) b.1.1 b.2 in
        (SyncGroup who true ∷ OpenGate who true ∷ Seal who false ∷ [], (cuts.Seal, b.1.0, refl), join_goes header s (SyncGroup who true ∷ OpenGate who true ∷ []) (Seal who false ∷ []) opens seals)

-- it is sealed, or that fails
pub ends_last : (header : Header) (h h2 : List Entry) (n n2 upto who : ℕ) (failed : Bool) (left gate : Option Left) → left ≡ Some (record { upto = upto; at = stages.Opened }) → TurnSo header h n left who failed h2 n2 gate → EndsSo header h n left who failed h2 n2 gate
ends_last header h h2 n n2 upto who failed left gate is turn = subst (λ (o : Option Left). EndsSo header h n o who failed h2 n2 gate) (sym is) (by failed (subst (λ (o : Option Left). TurnSo header h n o who failed h2 n2 gate) is turn))
  where
    by : (failed : Bool) → TurnSo header h n (group_opened upto) who failed h2 n2 gate → EndsSo header h n (group_opened upto) who failed h2 n2 gate
    by false turn s shows there = (let b = turn s shows there in (b.0, b.1, b.2))
    by true turn s shows there = (let b = turn s shows there in (b.0, (cuts.Seal, b.1.0, b.1.1), b.2))

-- opening the gate fails
pub ends_unopened : (header : Header) (h h2 : List Entry) (n n2 upto who : ℕ) (left gate : Option Left) → left ≡ Some (record { upto = upto; at = stages.Laid }) → TurnSo header h n left who true h2 n2 gate → EndsSo header h n left who true h2 n2 gate
ends_unopened header h h2 n n2 upto who left gate is turn = subst (λ (o : Option Left). EndsSo header h n o who true h2 n2 gate) (sym is) (by (subst (λ (o : Option Left). TurnSo header h n o who true h2 n2 gate) is turn))
  where
    by : TurnSo header h n (group_laid upto) who true h2 n2 gate → EndsSo header h n (group_laid upto) who true h2 n2 gate
    by turn s shows there =
        let b = turn s shows there in
        elim b.1 as (λ _. (steps : List Step) × EndCalls who true (group_laid upto) gate steps × Goes header s steps (ShownAt h2 n2 gate)) [
          | inl sync ↦ (b.0, (cuts.Sync, sync.0, sync.1), b.2)
          | inr gate ↦ (b.0, (cuts.Open, gate.0, gate.1), b.2)
        ]

-- nothing is under way
pub ends_nothing : (header : Header) (h : List Entry) (n who : ℕ) (left : Option Left) → left ≡ None → EndsSo header h n left who false h n left
ends_nothing header h n who left none = subst (λ (o : Option Left). EndsSo header h n o who false h n o) (sym none) (λ s shows there. ([], refl, record { state = s; taken = refl; meets = (shows, there) }))

-- all that waits is written, and then sealed, or that fails
from_cut : (who : ℕ) (cut : Cut) (steps : List Step) → FailsFrom who stages.Laid cut steps → WriteGroup who true ∷ steps ≡ calls_to who (cut_of cut)
from_cut who cuts.Write steps f = absurd f
from_cut who cuts.Sync steps f = ap (λ (x : List Step). WriteGroup who true ∷ x) f
from_cut who cuts.Open steps f = ap (λ (x : List Step). WriteGroup who true ∷ x) f
from_cut who cuts.Seal steps f = ap (λ (x : List Step). WriteGroup who true ∷ x) f

pub rest_so : (header : Header) (h h1 h2 : List Entry) (n n1 n2 upto who : ℕ) (failed : Bool) (mid gate : Option Left) → mid ≡ Some (record { upto = upto; at = stages.Laid }) → TurnSo header h n None who false h1 n1 mid → EndsSo header h1 n1 mid who failed h2 n2 gate → RestSo header h n who failed h2 n2 gate
rest_so header h h1 h2 n n1 n2 upto who failed mid gate is first second = by failed (subst (λ (o : Option Left). TurnSo header h n None who false h1 n1 o) is first) (subst (λ (o : Option Left). EndsSo header h1 n1 o who failed h2 n2 gate) is second)
  where
    by : (failed : Bool) → TurnSo header h n None who false h1 n1 (group_laid upto) → EndsSo header h1 n1 (group_laid upto) who failed h2 n2 gate → RestSo header h n who failed h2 n2 gate
    by false first second s shows there =
        let a = first s shows there in
        let writes = subst (λ (x : List Step). Goes header s x (ShownAt h1 n1 (group_laid upto))) a.1 a.2 in
        let b = second writes.state writes.meets.0 writes.meets.1 in
        let seals = subst (λ (x : List Step). Goes header writes.state x (ShownAt h2 n2 gate)) b.1 b.2 in
        (all_calls who, refl, join_goes header s (WriteGroup who true ∷ []) (SyncGroup who true ∷ OpenGate who true ∷ Seal who true ∷ []) writes seals)
    by true first second s shows there =
        let a = first s shows there in
        let writes = subst (λ (x : List Step). Goes header s x (ShownAt h1 n1 (group_laid upto))) a.1 a.2 in
        let b = second writes.state writes.meets.0 writes.meets.1 in
        (WriteGroup who true ∷ b.0, (b.1.0, b.1.1, from_cut who b.1.0 b.0 b.1.2), join_goes header s (WriteGroup who true ∷ []) b.0 writes b.2)

-- writing it fails
pub rest_unbegun : (header : Header) (h h2 : List Entry) (n n2 who : ℕ) (gate : Option Left) → TurnSo header h n None who true h2 n2 gate → RestSo header h n who true h2 n2 gate
rest_unbegun header h h2 n n2 who gate turn = λ s shows there. (let a = turn s shows there in (a.0, (cuts.Write, a.1.0, a.1.1), a.2))

-- the group under way was enough, or failed
pub seals_ended : (header : Header) (h h2 : List Entry) (n n2 who : ℕ) (failed : Bool) (left gate : Option Left) → EndsSo header h n left who failed h2 n2 gate → SealsSo header h n left who failed h2 n2 gate
seals_ended header h h2 n n2 who false left gate ends = λ s shows there. (let a = ends s shows there in (a.0, inr (inl a.1), a.2))
seals_ended header h h2 n n2 who true left gate ends = λ s shows there. (let a = ends s shows there in (a.0, inr (a.1.0, a.1.1, inl a.1.2), a.2))

-- or the rest is sealed too
pub seals_rest : (header : Header) (h h1 h2 : List Entry) (n n1 n2 who : ℕ) (failed : Bool) (left mid gate : Option Left) → mid ≡ None → EndsSo header h n left who false h1 n1 mid → RestSo header h1 n1 who failed h2 n2 gate → SealsSo header h n left who failed h2 n2 gate
seals_rest header h h1 h2 n n1 n2 who failed left mid gate is first second = by failed (subst (λ (o : Option Left). EndsSo header h n left who false h1 n1 o) is first) second
  where
    by : (failed : Bool) → EndsSo header h n left who false h1 n1 None → RestSo header h1 n1 who failed h2 n2 gate → SealsSo header h n left who failed h2 n2 gate
    by false first second s shows there =
        let a = first s shows there in
        let b = second a.2.state a.2.meets.0 a.2.meets.1 in
        (a.0 ++ b.0, inr (inr (λ i. a.1 i ++ b.1 i)), join_goes header s a.0 b.0 a.2 b.2)
    by true first second s shows there =
        let a = first s shows there in
        let b = second a.2.state a.2.meets.0 a.2.meets.1 in
        (a.0 ++ b.0, inr (b.1.0, b.1.1, inr (λ i. a.1 i ++ b.1.2 i)), join_goes header s a.0 b.0 a.2 b.2)

-- ---- as it is opened

pub opened_as : (h : List Entry) (n : ℕ) → n ≡ length (stored h) → h ≡ stored h → Shows h n (opened h)
opened_as h n count alone = subst (λ k. Shows h k (opened h)) (sym (count ∙ stored_count h)) (opened_shows h (ap is_down alone ∙ is_down-stored h)).0

-- no group is under way then
pub opened_left : (h : List Entry) (left : Option Left) → left ≡ None → ShowsLeft left (opened h)
opened_left h left none = subst (λ o. ShowsLeft o (opened h)) (sym none) refl
