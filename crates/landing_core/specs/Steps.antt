-- The calls of a repository as steps of the core.
--     Shows h n s      the core's state has this history, of whose stored entries the first n are sealed, and a group left over exactly where a breaking fault is in it; else no group is being sealed, or one is
--     Rests h n s      and no group is in the making
--     ShowsAt h n group s      and this is the group that is being sealed or left over, or there is none
--     MayAsk s who ask      the seat may ask this: the change may be asked
--     HasPlan s who name draft moment old new      the seat planned this landing
--     asking who ask      the steps of a change: a landing is planned first
--     all_calls who, calls_to who cut      the device calls that seal a group, by one seat: all done, or done up to one that failed
--     AreSteps asked answer steps      the steps of a change that is answered so, before its entry is sealed, if one is made: those that ask it
--     IsMadeFirst h answer new      where the disk failed, the change's entry had been made
--     AreStepsWithSeal who asked answer steps      the steps of a change and, where it made an entry, the device calls by which the seat seals it: all, or those up to one that failed
--     sealed_then n answer new      how many stored entries are sealed after these, where n were before
--     left_open upto s      the state with a group left over that ends there, and whose gate may stand open
--     Goes header s steps P      the steps can be taken from the state, and what comes of them has P
use Rattle.std.specs.Prelude.{◌≡◌, ◌⊎◌, ◌<◌, ℕ, Bool, true, false, List, [], ◌∷◌, ◌++◌, length, Option, None, Some}
use Rattle.byte_fields.specs.Bytes.{Id}
use Rattle.changeset_model.specs.Changeset.{Changeset}
use Rattle.history_model.specs.History.{Entry, bodies, is_down}
use Rattle.history_model.specs.Journal.{Header}
use Rattle.reply_model.specs.Reply.{Ask, PutContent, PutWhole, PutChangeset, SetBookmark, LandDraft, SetPolicy, is_ask}
use Rattle.reply_model.specs.After.{Answer, Grants, Refuses, Shows as Sees, Lacks, Roots, DiskFault, ReadFault, BadBytes, NodeCollision, Memory}
use Rattle.core_model.specs.Core.{Plan, Sealing, Stage, LeftOver, State, Step, PlanLanding, Exchange, WriteGroup, SyncGroup, OpenGate, Seal, is_left_over, after_steps}

-- a group is left over, or none is: there is none, or it is in the making
abbrev pub IsLeft : Bool → Option Sealing → Type 0
IsLeft true None = ⊥
IsLeft true (Some r) = is_left_over r.stage ≡ true
IsLeft false None = Unit {0}
IsLeft false (Some r) = is_left_over r.stage ≡ false

pub record Shows (h : List Entry) (n : ℕ) (s : State) : Type 0 where
  pub history_is : s.history ≡ h
  pub sealed_is : s.sealed ≡ n
  pub left : IsLeft (is_down h) s.sealing

-- no group is in the making: there is none, or it is left over
abbrev pub is_idle : Option Sealing → Bool
is_idle None = true
is_idle (Some r) = is_left_over r.stage

abbrev pub Rests : List Entry → ℕ → State → Type 0
Rests h n s = Shows h n s × (is_idle s.sealing ≡ true)

-- a group with this end that has come so far
abbrev pub group_to : ℕ → Stage → Option Sealing
group_to upto stage = Some (record { upto = upto; stage = stage })

abbrev pub ShowsAt : List Entry → ℕ → Option Sealing → State → Type 0
ShowsAt h n group s = Shows h n s × (s.sealing ≡ group)

pub record MayAsk (s : State) (who : ℕ) (ask : Ask) : Type 0 where
  pub asks : is_ask s.history ask ≡ true

pub record HasPlan (s : State) (who : ℕ) (name : List ℕ) (draft : Id) (moment : ℕ) (old : Id) (new : List Changeset) : Type 0 where
  pub plan : Plan
  pub plan_is : s.plan who ≡ Some plan
  pub names : plan.name ≡ name
  pub drafts : plan.draft ≡ draft
  pub moments : plan.moment ≡ moment
  pub old_is : plan.old ≡ old
  pub new_is : plan.new ≡ new

abbrev pub asking : ℕ → Ask → List Step
asking who (PutContent bytes) = Exchange who (PutContent bytes) ∷ []
asking who (PutWhole body pieces) = Exchange who (PutWhole body pieces) ∷ []
asking who (PutChangeset bytes) = Exchange who (PutChangeset bytes) ∷ []
asking who (SetBookmark caller name from to) = Exchange who (SetBookmark caller name from to) ∷ []
asking who (LandDraft caller name draft moment) = PlanLanding who name draft moment ∷ Exchange who (LandDraft caller name draft moment) ∷ []
asking who (SetPolicy caller text) = Exchange who (SetPolicy caller text) ∷ []

-- An entry that is made stands in the history, pending. Where memory ran out nothing was asked. A call of the disk fails in the sealing alone.
abbrev pub AreSteps : List Step → Answer → List Step → Type 0
AreSteps asked (Grants granted) steps = steps ≡ asked
AreSteps asked (Refuses refusal) steps = steps ≡ asked
AreSteps asked (Sees seen) steps = ⊥
AreSteps asked (Lacks absent) steps = ⊥
AreSteps asked (Roots fsnode unode deleted) steps = ⊥
AreSteps asked DiskFault steps = ⊥
AreSteps asked ReadFault steps = ⊥
AreSteps asked (BadBytes wanted found) steps = ⊥
AreSteps asked (NodeCollision x) steps = ⊥
AreSteps asked Memory steps = steps ≡ []

-- ---- the device calls that seal a group

abbrev pub all_calls : ℕ → List Step
all_calls who = WriteGroup who true ∷ SyncGroup who true ∷ OpenGate who true ∷ Seal who true ∷ []

-- the call that failed
pub data Cut : Type 0 where
  AtWrite : Cut
  AtSync : Cut
  AtOpen : Cut
  AtSeal : Cut

abbrev pub calls_to : ℕ → Cut → List Step
calls_to who AtWrite = WriteGroup who false ∷ []
calls_to who AtSync = WriteGroup who true ∷ SyncGroup who false ∷ []
calls_to who AtOpen = WriteGroup who true ∷ SyncGroup who true ∷ OpenGate who false ∷ []
calls_to who AtSeal = WriteGroup who true ∷ SyncGroup who true ∷ OpenGate who true ∷ Seal who false ∷ []

-- ---- a change and its seal, where all is sealed between calls

abbrev pub IsMadeFirst : List Entry → Answer → List Entry → Type 0
IsMadeFirst h answer new = answer ≡ DiskFault → length (bodies h) < length (bodies new)

-- Where no entry was made, nothing waits to be sealed.
abbrev pub AreStepsWithSeal : ℕ → List Step → Answer → List Step → Type 0
AreStepsWithSeal who asked (Grants granted) steps = (steps ≡ asked) ⊎ (steps ≡ asked ++ all_calls who)
AreStepsWithSeal who asked (Refuses refusal) steps = steps ≡ asked
AreStepsWithSeal who asked (Sees seen) steps = ⊥
AreStepsWithSeal who asked (Lacks absent) steps = ⊥
AreStepsWithSeal who asked (Roots fsnode unode deleted) steps = ⊥
AreStepsWithSeal who asked DiskFault steps = (cut : Cut) × (steps ≡ asked ++ calls_to who cut)
AreStepsWithSeal who asked ReadFault steps = ⊥
AreStepsWithSeal who asked (BadBytes wanted found) steps = ⊥
AreStepsWithSeal who asked (NodeCollision x) steps = ⊥
AreStepsWithSeal who asked Memory steps = steps ≡ []

-- all of them after a change that is granted, and else those of before
abbrev pub sealed_then : ℕ → Answer → List Entry → ℕ
sealed_then n (Grants granted) new = length (bodies new)
sealed_then n (Refuses refusal) new = n
sealed_then n (Sees seen) new = n
sealed_then n (Lacks absent) new = n
sealed_then n (Roots fsnode unode deleted) new = n
sealed_then n DiskFault new = n
sealed_then n ReadFault new = n
sealed_then n (BadBytes wanted found) new = n
sealed_then n (NodeCollision x) new = n
sealed_then n Memory new = n

-- ---- a group that is left over

abbrev pub left_open : ℕ → State → State
left_open upto s = record s { sealing = group_to upto (LeftOver true) }

pub record Goes (header : Header) (s : State) (steps : List Step) (P : State → Type 0) : Type 0 where
  pub state : State
  pub taken : after_steps header s steps ≡ Some state
  pub meets : P state
