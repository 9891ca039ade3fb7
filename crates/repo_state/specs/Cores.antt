-- The calls of a repository in a file as steps of the core.
--     Stores header h n who ask answer new      from each state of the core that shows h with n entries sealed, the steps of a change that is answered so can be taken, and show new, with as many sealed
--     StoresCall header h n who call answer new      so it is of a change that the call asks for. Contents that can't be read are a read, done or not, and for want of memory nothing is asked
--     ExchangesSo header h n who r new      the same of a planned landing, where the seat has this plan
--     cut_of cut      the device call that failed
--     stage_of at, group_in left      how far the group has come in the core
--     ShowsLeft left s      the core's state has this group, being sealed or left over
--     leaves_gate step      it seals nothing, and is no crash
--     SealsSo header h n left who failed new after gate      a seal, after which so many are sealed, and the group is this: the further calls of a group under way, and the device calls where more waits, up to the one that failed, or none where enough is sealed or a breaking fault is held
--     TurnSo header h n left who failed new after gate      a step of a seal: the device calls of one turn, by how far the group has come, up to the one that failed
--     StepsSo header h n left who failed new after gate      so it is, or nothing was to be done
--     StoresAlone header h n left ask answer new after gate      a change of the only seat, which is sealed before it is answered
--     StoresCallAlone header h n left call answer new after gate      so it is of a change that the call asks for, as above
--     Plans header h n name draft plan      a plan is a step of any seat at any moment, which has it then
--     LooksSo header h n who done new      a read that the disk failed or not
--     Stays header h n new      no step, after which this is shown
--     ShowsTable ks t s      of these known changesets the core's state has just those settled that the table has
--     id_at ks n      the id of the changeset of a number
--     TakesJob header h n t next      the next job is a step, after which it was taken. Where there is none nothing is taken
--     SettlesSo header h sealed old n result new      what was derived of a job that was taken is settled in both, or in neither
--     CrashLeaves header s image      the image stands for the history that a crash of the state leaves
--     CrashesOf header m s      each image of the disk is left so
use Rattle.std.specs.Prelude.{◌≡◌, ◌⊎◌, ℕ, Bool, true, false, List, [], ◌∷◌, ◌++◌, Option, None, Some, option_map, Result, Ok, Err}
use Rattle.std.specs.Option.{option_map_or}
use Rattle.byte_fields.specs.Bytes.{Id}
use Rattle.history_model.specs.History.{Entry, Known, known}
use Rattle.disk_model.specs.Images.{IsImage}
use Rattle.disk_model.specs.Meaning.{Meaning}
use Rattle.history_model.specs.Journal.{Header, Stands}
use Rattle.history_model.specs.Pushrebase.{rewrite}
use Rattle.reply_model.specs.Reply.{Ask, LandDraft}
use Rattle.reply_model.specs.After.{Call, Answer, Grants, Refuses, Shows as Sees, Lacks, Roots, DiskFault, ReadFault, BadBytes, NodeCollision, Memory}
use Rattle.core_model.specs.Core.{State, LeftOver, Sealing, Stage, Written, Opened, Step, PlanLanding, Exchange, Look, LayContent, WriteGroup, SyncGroup, OpenGate, Seal, Acknowledge, TakeJob, Settle, Crash, after_step}
use Rattle.landing_core.specs.Steps.{Shows, MayAsk, HasPlan, asking, all_calls, Cut as CoreCut, AtWrite, AtSync, AtOpen, AtSeal, calls_to, AreSteps, AreStepsWithSeal, Goes}
use Rattle.landing_core.specs.Settled.{ShowsSettled, HasJob}
use Rattle.node_table.specs.Table.{Table, is_settled}
use Rattle.node_table.specs.declared.fault.TableFault.{TableFault}
use Rattle.node_table.specs.declared.fault.TableFault.TheVariants as tables
use Rattle.changeset_store.specs.Store.{number_in, known_at}
use Rattle.derive_step.specs.declared.job.Job.{Job}
use Rattle.repo_journal.specs.Cuts.{opens}
use Rattle.repo_journal.specs.declared.cut.Cut.{Cut}
use Rattle.repo_journal.specs.declared.cut.Cut.TheVariants as cuts
use Rattle.repo_journal.specs.declared.left.At.{At}
use Rattle.repo_journal.specs.declared.left.At.TheVariants as at
use Rattle.repo_machine.specs.Asked.{IsAskOf}
use Rattle.repo_machine.specs.Plans.{PlannedLanding, RebasedLanding}
use Rattle.repo_state.specs.Groups.{cut_by}
use Rattle.repo_state.specs.declared.left.Left.{Left}

abbrev pub Stores : Header → List Entry → ℕ → ℕ → Ask → Answer → List Entry → Type 0
Stores header h n who ask answer new = (s : State) → Shows h n s → MayAsk s who ask → (steps : List Step) × AreSteps (asking who ask) answer steps × Goes header s steps (Shows new n)

-- Of contents that are to be joined it is with some bytes that were read of them.
abbrev pub StoresAsked : Header → List Entry → ℕ → ℕ → Call → Answer → List Entry → Type 0
StoresAsked header h n who call answer new = (ask : Ask) × IsAskOf header h call ask × Stores header h n who ask answer new

abbrev pub LooksSo : Header → List Entry → ℕ → ℕ → Bool → List Entry → Type 0
LooksSo header h n who done new = (s : State) → Shows h n s → Goes header s (Look who done ∷ []) (Shows new n)

-- no step is taken
abbrev pub Stays : Header → List Entry → ℕ → List Entry → Type 0
Stays header h n new = (s : State) → Shows h n s → Goes header s [] (Shows new n)

abbrev pub StoresCall : Header → List Entry → ℕ → ℕ → Call → Answer → List Entry → Type 0
StoresCall header h n who call (Grants granted) new = StoresAsked header h n who call (Grants granted) new
StoresCall header h n who call (Refuses refusal) new = StoresAsked header h n who call (Refuses refusal) new
StoresCall header h n who call (Sees seen) new = ⊥
StoresCall header h n who call (Lacks absent) new = ⊥
StoresCall header h n who call (Roots fsnode unode deleted) new = ⊥
StoresCall header h n who call DiskFault new = ⊥
StoresCall header h n who call ReadFault new = LooksSo header h n who false new
StoresCall header h n who call (BadBytes wanted found) new = LooksSo header h n who true new
StoresCall header h n who call (NodeCollision x) new = ⊥
StoresCall header h n who call Memory new = Stays header h n new

abbrev pub HasRebased : State → ℕ → RebasedLanding → Type 0
HasRebased s who r = HasPlan s who r.name r.draft r.asked r.old r.new

abbrev pub asked_landing : ℕ → RebasedLanding → List Step
asked_landing who r = Exchange who (LandDraft r.caller r.name r.draft r.asked) ∷ []

abbrev pub ExchangesSo : Header → List Entry → ℕ → ℕ → RebasedLanding → List Entry → Type 0
ExchangesSo header h n who r new = (s : State) → Shows h n s → MayAsk s who (LandDraft r.caller r.name r.draft r.asked) → HasRebased s who r → Goes header s (asked_landing who r) (Shows new n)

-- ---- the group that is being sealed, or that a seal which failed leaves over

abbrev pub cut_of : Cut → CoreCut
cut_of cuts.Write = AtWrite
cut_of cuts.Sync = AtSync
cut_of cuts.Open = AtOpen
cut_of cuts.Seal = AtSeal

abbrev pub stage_of : At → Stage
stage_of at.Laid = Written
stage_of at.Opened = Opened
stage_of (at.Cut cut) = LeftOver (opens cut)

abbrev pub group_in : Option Left → Option Sealing
group_in left = option_map (λ (l : Left). record { upto = l.upto; stage = stage_of l.at }) left

abbrev pub ShowsLeft : Option Left → State → Type 0
ShowsLeft left s = s.sealing ≡ group_in left

abbrev pub leaves_gate : Step → Bool
leaves_gate (PlanLanding who name draft moment) = true
leaves_gate (Exchange who ask) = true
leaves_gate (Look who done) = true
leaves_gate (LayContent who done) = false
leaves_gate (WriteGroup who done) = false
leaves_gate (SyncGroup who done) = false
leaves_gate (OpenGate who done) = false
leaves_gate (Seal who done) = false
leaves_gate (Acknowledge who) = true
leaves_gate (TakeJob x) = true
leaves_gate (Settle x) = true
leaves_gate (Crash kept) = false

-- ---- seals

-- the calls that are left of a group under way, by how far it has come
abbrev pub calls_from : ℕ → At → List Step
calls_from who at.Laid = SyncGroup who true ∷ OpenGate who true ∷ Seal who true ∷ []
calls_from who at.Opened = Seal who true ∷ []
calls_from who (at.Cut cut) = []

abbrev pub calls_left : ℕ → Option Left → List Step
calls_left who None = []
calls_left who (Some l) = calls_from who l.at

-- a call of those failed. It is the one that is known
abbrev pub FailsFrom : ℕ → At → Cut → List Step → Type 0
FailsFrom who at.Laid cuts.Write steps = ⊥
FailsFrom who at.Laid cuts.Sync steps = steps ≡ SyncGroup who false ∷ []
FailsFrom who at.Laid cuts.Open steps = steps ≡ SyncGroup who true ∷ OpenGate who false ∷ []
FailsFrom who at.Laid cuts.Seal steps = steps ≡ SyncGroup who true ∷ OpenGate who true ∷ Seal who false ∷ []
FailsFrom who at.Opened cuts.Write steps = ⊥
FailsFrom who at.Opened cuts.Sync steps = ⊥
FailsFrom who at.Opened cuts.Open steps = ⊥
FailsFrom who at.Opened cuts.Seal steps = steps ≡ Seal who false ∷ []
FailsFrom who (at.Cut first) cut steps = ⊥

abbrev pub FailsLeft : ℕ → Option Left → Cut → List Step → Type 0
FailsLeft who None cut steps = ⊥
FailsLeft who (Some l) cut steps = FailsFrom who l.at cut steps

-- the device calls of a seal that failed or not, where something is sealed or is to be: those of the group under way, and of all that waited behind it. The call that failed is the one that is known
abbrev pub AreSealing : ℕ → Bool → Option Left → Option Left → List Step → Type 0
AreSealing who false left gate steps = (steps ≡ calls_left who left) ⊎ (steps ≡ calls_left who left ++ all_calls who)
AreSealing who true left gate steps = (cut : Cut) × (cut_by gate ≡ Some cut) × (FailsLeft who left cut steps ⊎ (steps ≡ calls_left who left ++ calls_to who (cut_of cut)))

-- the group under way is sealed, or a call of it failed
abbrev pub EndCalls : ℕ → Bool → Option Left → Option Left → List Step → Type 0
EndCalls who false left gate steps = steps ≡ calls_left who left
EndCalls who true left gate steps = (cut : Cut) × (cut_by gate ≡ Some cut) × FailsLeft who left cut steps

abbrev pub EndsSo : Header → List Entry → ℕ → Option Left → ℕ → Bool → List Entry → ℕ → Option Left → Type 0
EndsSo header h n left who failed new after gate = (s : State) → Shows h n s → ShowsLeft left s → (steps : List Step) × EndCalls who failed left gate steps × Goes header s steps (λ t. Shows new after t × ShowsLeft gate t)

-- all that waits is sealed, where no group is under way, or a call of it failed
abbrev pub RestCalls : ℕ → Bool → Option Left → List Step → Type 0
RestCalls who false gate steps = steps ≡ all_calls who
RestCalls who true gate steps = (cut : Cut) × (cut_by gate ≡ Some cut) × (steps ≡ calls_to who (cut_of cut))

abbrev pub RestSo : Header → List Entry → ℕ → ℕ → Bool → List Entry → ℕ → Option Left → Type 0
RestSo header h n who failed new after gate = (s : State) → Shows h n s → ShowsLeft None s → (steps : List Step) × RestCalls who failed gate steps × Goes header s steps (λ t. Shows new after t × ShowsLeft gate t)

abbrev pub IsNoSeal : Option Left → Option Left → List Step → Type 0
IsNoSeal left gate steps = (steps ≡ []) × (gate ≡ left)

abbrev pub SealsSo : Header → List Entry → ℕ → Option Left → ℕ → Bool → List Entry → ℕ → Option Left → Type 0
SealsSo header h n left who failed new after gate = (s : State) → Shows h n s → ShowsLeft left s → (steps : List Step) × (IsNoSeal left gate steps ⊎ AreSealing who failed left gate steps) × Goes header s steps (λ t. Shows new after t × ShowsLeft gate t)

-- the calls of one turn, by how far the group has come, done or up to one that failed. It is the one that is known
abbrev pub WriteCalls : ℕ → Bool → Option Left → List Step → Type 0
WriteCalls who false gate steps = steps ≡ WriteGroup who true ∷ []
WriteCalls who true gate steps = (cut_by gate ≡ Some cuts.Write) × (steps ≡ WriteGroup who false ∷ [])

abbrev pub FurtherCalls : ℕ → Bool → At → Option Left → List Step → Type 0
FurtherCalls who false at.Laid gate steps = steps ≡ SyncGroup who true ∷ OpenGate who true ∷ []
FurtherCalls who true at.Laid gate steps = ((cut_by gate ≡ Some cuts.Sync) × (steps ≡ SyncGroup who false ∷ [])) ⊎ ((cut_by gate ≡ Some cuts.Open) × (steps ≡ SyncGroup who true ∷ OpenGate who false ∷ []))
FurtherCalls who false at.Opened gate steps = steps ≡ Seal who true ∷ []
FurtherCalls who true at.Opened gate steps = (cut_by gate ≡ Some cuts.Seal) × (steps ≡ Seal who false ∷ [])
FurtherCalls who failed (at.Cut cut) gate steps = ⊥

abbrev pub TurnCalls : ℕ → Bool → Option Left → Option Left → List Step → Type 0
TurnCalls who failed None gate steps = WriteCalls who failed gate steps
TurnCalls who failed (Some l) gate steps = FurtherCalls who failed l.at gate steps

abbrev pub TurnSo : Header → List Entry → ℕ → Option Left → ℕ → Bool → List Entry → ℕ → Option Left → Type 0
TurnSo header h n left who failed new after gate = (s : State) → Shows h n s → ShowsLeft left s → (steps : List Step) × TurnCalls who failed left gate steps × Goes header s steps (λ t. Shows new after t × ShowsLeft gate t)

abbrev pub StepsSo : Header → List Entry → ℕ → Option Left → ℕ → Bool → List Entry → ℕ → Option Left → Type 0
StepsSo header h n left who failed new after gate = (s : State) → Shows h n s → ShowsLeft left s → (steps : List Step) × (IsNoSeal left gate steps ⊎ TurnCalls who failed left gate steps) × Goes header s steps (λ t. Shows new after t × ShowsLeft gate t)

-- where the disk failed, the device calls go up to the one that is known
abbrev pub FailsAt : Option Left → List Step → Answer → List Step → Type 0
FailsAt gate asked (Grants granted) steps = Unit {0}
FailsAt gate asked (Refuses refusal) steps = Unit {0}
FailsAt gate asked (Sees seen) steps = Unit {0}
FailsAt gate asked (Lacks absent) steps = Unit {0}
FailsAt gate asked (Roots fsnode unode deleted) steps = Unit {0}
FailsAt gate asked DiskFault steps = (cut : Cut) × (cut_by gate ≡ Some cut) × (steps ≡ asked ++ calls_to 0 (cut_of cut))
FailsAt gate asked ReadFault steps = Unit {0}
FailsAt gate asked (BadBytes wanted found) steps = Unit {0}
FailsAt gate asked (NodeCollision x) steps = Unit {0}
FailsAt gate asked Memory steps = Unit {0}

abbrev pub StoresAlone : Header → List Entry → ℕ → Option Left → Ask → Answer → List Entry → ℕ → Option Left → Type 0
StoresAlone header h n left ask answer new after gate = (s : State) → Shows h n s → ShowsLeft left s → MayAsk s 0 ask → (steps : List Step) × AreStepsWithSeal 0 (asking 0 ask) answer steps × FailsAt gate (asking 0 ask) answer steps × Goes header s steps (λ t. Shows new after t × ShowsLeft gate t)

abbrev pub StoresAskedAlone : Header → List Entry → ℕ → Option Left → Call → Answer → List Entry → ℕ → Option Left → Type 0
StoresAskedAlone header h n left call answer new after gate = (ask : Ask) × IsAskOf header h call ask × StoresAlone header h n left ask answer new after gate

-- nothing is sealed, and no seal fails
abbrev pub IsUnsealed : ℕ → ℕ → Option Left → Option Left → Type 0
IsUnsealed n after left gate = (after ≡ n) × (gate ≡ left)

abbrev pub StoresCallAlone : Header → List Entry → ℕ → Option Left → Call → Answer → List Entry → ℕ → Option Left → Type 0
StoresCallAlone header h n left call (Grants granted) new after gate = StoresAskedAlone header h n left call (Grants granted) new after gate
StoresCallAlone header h n left call (Refuses refusal) new after gate = StoresAskedAlone header h n left call (Refuses refusal) new after gate
StoresCallAlone header h n left call (Sees seen) new after gate = ⊥
StoresCallAlone header h n left call (Lacks absent) new after gate = ⊥
StoresCallAlone header h n left call (Roots fsnode unode deleted) new after gate = ⊥
StoresCallAlone header h n left call DiskFault new after gate = StoresAskedAlone header h n left call DiskFault new after gate
StoresCallAlone header h n left call ReadFault new after gate = LooksSo header h n 0 false new × IsUnsealed n after left gate
StoresCallAlone header h n left call (BadBytes wanted found) new after gate = LooksSo header h n 0 true new × IsUnsealed n after left gate
StoresCallAlone header h n left call (NodeCollision x) new after gate = ⊥
StoresCallAlone header h n left call Memory new after gate = Stays header h n new × IsUnsealed n after left gate

abbrev pub Plans : Header → List Entry → ℕ → List ℕ → Id → PlannedLanding → Type 0
Plans header h n name draft plan = (s : State) (who moment : ℕ) → Shows h n s → Goes header s (PlanLanding who name draft moment ∷ []) (λ t. Shows h n t × HasPlan t who plan.name plan.draft moment plan.old (rewrite plan.stack plan.old moment))

-- ---- manifests

abbrev pub settled_id : List Known → Table → Id → Bool
settled_id ks t x = option_map_or (is_settled t) (number_in ks x) false

abbrev pub ShowsTable : List Known → Table → State → Type 0
ShowsTable ks t s = ShowsSettled ks (settled_id ks t) s

abbrev pub id_at : List Known → ℕ → Id
id_at ks n = (known_at ks n).id

abbrev pub TakesJob : Header → List Entry → ℕ → Table → Option Job → Type 0
TakesJob header h n t None = Unit {0}
TakesJob header h n t (Some job) = (s : State) → Shows h n s → ShowsTable (known h) t s → Goes header s (TakeJob (id_at (known h) job.number) ∷ []) (λ after. Shows h n after × ShowsTable (known h) t after × HasJob after (id_at (known h) job.number))

-- Where two different nodes have one digest, neither has the manifests. Where memory ran out nothing was asked.
abbrev pub settling : {T : Type 0} → Id → Result T TableFault → List Step
settling x (Ok done) = Settle x ∷ []
settling x (Err (tables.Collision id)) = Settle x ∷ []
settling x (Err tables.Memory) = []

abbrev pub SettlesSo : {T : Type 0} → Header → List Entry → ℕ → Table → ℕ → Result T TableFault → Table → Type 0
SettlesSo header h sealed old n result new = (s : State) → Shows h sealed s → ShowsTable (known h) old s → HasJob s (id_at (known h) n) → Goes header s (settling (id_at (known h) n) result) (λ after. Shows h sealed after × ShowsTable (known h) new after)

-- ---- crashes

-- the image stands for the history that a crash of the state leaves
pub record CrashLeaves (header : Header) (s : State) (image : List ℕ) : Type 0 where
  pub kept : Bool
  pub after : State
  pub crashes : after_step header s (Crash kept) ≡ Some after
  pub stands : Stands header image after.history

abbrev pub CrashesOf : Header → Meaning → State → Type 0
CrashesOf header m s = (image : List ℕ) → IsImage m.state image → CrashLeaves header s image
