-- Plans of landings, which outlast the history at which they were made.
--     PlannedLanding, RebasedLanding      what a plan tells, and what it tells once its stack is on the planned head
--     IsPlan h caller name draft plan      at h the draft is to be landed on the bookmark so, if no disk failed, the policy allows it, and the new changesets may be entered
--     if_allowed h caller ps judged      what is judged, if the policy that is held allows the caller these paths
--     IsAllowed h caller ps      the policy that is held allows the caller these paths
--     IsDenial h caller ps e      the refusal tells the first of them that it doesn't allow
--     told_where told caller      the caller, if an entry tells it
--     rebased_of plan moment      its stack on its head, at this moment;  landing_in r      the landing that it makes
--     frame_size r      the length of the record of that landing, or nothing where its payload is too long to have one
--     WasPlanned h r      it comes from a plan that was one at a history with which h begins
--     PassesPlan e      a refusal that may still come after a plan, want of memory not among them
--     RefusesAs wanted e      the machine's refusal is the one that the definitions have
use Rattle.std.specs.Prelude.{◌≡◌, ◌≤◌, ◌<◌, ℕ, Bool, nat_lt, cond, true, List, length, find, Option, None, Some, Result, Err, refl}
use mathlib.Core.List.{IsPrefix}
use Rattle.std.specs.Coded.{Coded, code_by, coded×, coded_list, coded_option, coded_ℕ}
use Rattle.byte_fields.specs.Bytes.{Id}
use Rattle.changeset_model.specs.Path.{Path}
use Rattle.changeset_model.specs.Changeset.{Changeset, touched_paths}
use Rattle.changeset_model.specs.Codes.{coded_id, coded_path, coded_changesets}
use Rattle.policy_model.specs.Rules.{Denial}
use Rattle.history_model.specs.History as model
use Rattle.history_model.specs.History.{Entry, known, is_known}
use Rattle.history_model.specs.Bookmark.{head}
use Rattle.history_model.specs.Journal.{payload_len, most_payload, record_len}
use Rattle.history_model.specs.Pushrebase.{Fork, fork, clash, rewrite, moment_of}
use Rattle.reply_model.specs.Reply as reply
use Rattle.reply_model.specs.Reply.{◌>>=◌, refuse_some, most_range, most_stack, is_merge, denied_at}
use Rattle.reply_model.specs.After.{Refuses}
use Rattle.repo_calls.specs.declared.refusal.Refusal.{Refusal}
use Rattle.repo_calls.specs.declared.refusal.Refusal.TheVariants as refusals
use Rattle.repo_calls.specs.Calls.{refused}

pub record PlannedLanding : Type 0 where
  pub caller : List ℕ
  pub name : List ℕ
  pub draft : Id
  -- the bookmark's head
  pub old : Id
  -- what follows the root in the draft's chain
  pub stack : List Changeset
  pub touched : List Path

pub record RebasedLanding : Type 0 where
  pub name : List ℕ
  pub draft : Id
  pub old : Id
  pub new : List Changeset
  pub touched : List Path
  -- the moment that is asked for, and what the entry tells of it
  pub asked : ℕ
  pub moment : Option ℕ
  -- who asks, whom the entry tells where a policy is held
  pub caller : List ℕ

pub record IsPlan (h : List Entry) (caller name : List ℕ) (draft : Id) (plan : PlannedLanding) : Type 0 where
  pub callers : plan.caller ≡ caller
  pub names : plan.name ≡ name
  pub drafts : plan.draft ≡ draft
  pub head_is : head h name ≡ Some plan.old
  pub old_known : is_known (known h) plan.old ≡ true
  pub draft_known : is_known (known h) draft ≡ true
  pub fork_is : Fork
  pub forks : fork (known h) plan.old draft ≡ Some fork_is
  pub stack_is : plan.stack ≡ fork_is.stack
  pub near : length fork_is.range ≤ most_range
  pub some : 0 < length fork_is.stack
  pub few : length fork_is.stack ≤ most_stack
  pub stack_in_line : find is_merge fork_is.stack ≡ None
  pub range_in_line : find is_merge fork_is.range ≡ None
  pub apart : clash (touched_paths fork_is.stack) (touched_paths fork_is.range) ≡ None
  pub touched_is : plan.touched ≡ touched_paths plan.stack

abbrev pub record_size : model.Body → ℕ → ℕ
record_size body other = cond (nat_lt most_payload (payload_len body)) other (record_len body)

abbrev pub rebased_of : PlannedLanding → ℕ → RebasedLanding
rebased_of plan moment =
    record { name = plan.name; draft = plan.draft; old = plan.old; new = rewrite plan.stack plan.old moment; touched = plan.touched; asked = moment; moment = moment_of plan.stack moment; caller = plan.caller }

-- whom the entry tells is known where it is entered
abbrev pub landing_in : RebasedLanding → Option (List ℕ) → model.Landing
landing_in r caller = record { name = r.name; old = r.old; draft = r.draft; new = r.new; moment = r.moment; caller = caller }

-- the longest record that it may have: the one that tells the caller, or the one that doesn't where that one is too long
abbrev pub frame_size : RebasedLanding → ℕ
frame_size r = record_size (model.Land (landing_in r (Some r.caller))) (record_size (model.Land (landing_in r None)) 0)

abbrev pub told_where : Bool → List ℕ → Option (List ℕ)
told_where told caller = cond told (Some caller) None

abbrev pub IsDenial : List Entry → List ℕ → List Path → Refusal → Type 0
IsDenial h caller ps e = (d : Denial) × (denied_at h caller ps ≡ Some d) × (refused e ≡ Refuses (reply.denial d))

abbrev pub IsAllowed : List Entry → List ℕ → List Path → Type 0
IsAllowed h caller ps = denied_at h caller ps ≡ None

abbrev pub if_allowed : List Entry → List ℕ → List Path → Result reply.Judged reply.Refusal → Result reply.Judged reply.Refusal
if_allowed h caller ps judged = refuse_some (denied_at h caller ps) reply.denial >>= λ _. judged

pub record WasPlanned (h : List Entry) (r : RebasedLanding) : Type 0 where
  pub then : List Entry
  pub begins : IsPrefix then h
  pub plan : PlannedLanding
  pub planned : IsPlan then r.caller r.name r.draft plan
  pub rebased_is : r ≡ rebased_of plan r.asked

abbrev pub PassesPlan : Refusal → Type 0
PassesPlan refusals.Down = Unit {0}
PassesPlan (refusals.TooLong length) = ⊥
PassesPlan (refusals.BadEncoding at) = ⊥
PassesPlan (refusals.SelfConflict short long) = ⊥
PassesPlan (refusals.BadParts length) = ⊥
PassesPlan refusals.OldFormat = ⊥
PassesPlan (refusals.NoPiece id) = ⊥
PassesPlan (refusals.NotAPiece id) = ⊥
PassesPlan (refusals.NoParent id) = ⊥
PassesPlan (refusals.NoContent path id) = ⊥
PassesPlan (refusals.WrongSize path wanted found) = ⊥
PassesPlan (refusals.Unresolved path) = ⊥
PassesPlan (refusals.Collision id) = Unit {0}
PassesPlan (refusals.NoChangeset id) = ⊥
PassesPlan (refusals.Moved found) = ⊥
PassesPlan refusals.NoBookmark = ⊥
PassesPlan refusals.NoRoot = ⊥
PassesPlan (refusals.TooFarBehind distance) = ⊥
PassesPlan refusals.AlreadyIn = ⊥
PassesPlan (refusals.StackTooLong count) = ⊥
PassesPlan (refusals.MergeInStack id) = ⊥
PassesPlan (refusals.MergeInRange id) = ⊥
PassesPlan (refusals.Denied place rule) = Unit {0}
PassesPlan (refusals.Clash left right) = ⊥
PassesPlan (refusals.TooLarge length) = Unit {0}
PassesPlan (refusals.BadPolicy line) = ⊥
PassesPlan (refusals.Full size length) = Unit {0}
PassesPlan refusals.Memory = ⊥

pub record RefusesAs {Y : Type 0} (wanted : Result Y reply.Refusal) (e : Refusal) : Type 0 where
  pub refusal : reply.Refusal
  pub is_refused : wanted ≡ Err refusal
  pub same : refused e ≡ Refuses refusal
  pub passes : PassesPlan e

-- ---- as pairs

abbrev pub coded_paths : Coded (List Path)
coded_paths = coded_list coded_path

abbrev pub coded_planned : Coded PlannedLanding
coded_planned =
    code_by (List ℕ × (List ℕ × (Id × (Id × (List Changeset × List Path))))) (coded× (coded_list coded_ℕ) (coded× (coded_list coded_ℕ) (coded× coded_id (coded× coded_id (coded× coded_changesets coded_paths)))))
    (λ p. (p.caller, (p.name, (p.draft, (p.old, (p.stack, p.touched)))))) (λ t. record { caller = t.0; name = t.1.0; draft = t.1.1.0; old = t.1.1.1.0; stack = t.1.1.1.1.0; touched = t.1.1.1.1.1 }) (λ _. refl)

abbrev pub coded_rebased : Coded RebasedLanding
coded_rebased =
    code_by (List ℕ × (Id × (Id × (List Changeset × (List Path × (ℕ × (Option ℕ × List ℕ)))))))
    (coded× (coded_list coded_ℕ) (coded× coded_id (coded× coded_id (coded× coded_changesets (coded× coded_paths (coded× coded_ℕ (coded× (coded_option coded_ℕ) (coded_list coded_ℕ))))))))
    (λ p. (p.name, (p.draft, (p.old, (p.new, (p.touched, (p.asked, (p.moment, p.caller))))))))
    (λ t. record { name = t.0; draft = t.1.0; old = t.1.1.0; new = t.1.1.1.0; touched = t.1.1.1.1.0; asked = t.1.1.1.1.1.0; moment = t.1.1.1.1.1.1.0; caller = t.1.1.1.1.1.1.1 })
    (λ _. refl)
