-- From the turns of a landing to its answer.
use Rattle.std.proofs.Common.{◌≡◌, ℕ, List, Option, None, Some, refl, ap, sym, ◌∙◌, subst, append-nil}
use mathlib.Core.List.{IsPrefix}
use Rattle.byte_fields.specs.Bytes.{Id}
use Rattle.history_model.specs.History.{Entry, is_breaking}
use Rattle.history_model.specs.Journal.{Header}
use Rattle.byte_fields.proofs.Lists.{prefix_self, prefix_trans}
use Rattle.std.specs.Prelude.{filter, not}
use Rattle.reply_model.proofs.Fronts.{replies_after}
use Rattle.reply_model.specs.Reply.{LandDraft}
use Rattle.reply_model.specs.After.{Call, Asks, Joins, Looks, Derives, Answer, Answers, After, Memory, nothing, SeesMore}
use Rattle.repo_machine.specs.Plans.{PlannedLanding, RebasedLanding, IsPlan, WasPlanned, rebased_of}
use Rattle.repo_machine.proofs.Renewed.{was_plan, was_plan_later}
use Rattle.shared_repo.specs.Landing.{IsEarlier, IsMadeBefore}

pub sees_nothing : (h : List Entry) (who : ℕ) → SeesMore h who h
sees_nothing h who = record { begins = prefix_self h; own = refl }

pub sees_twice : (old between new : List Entry) (who : ℕ) → SeesMore old who between → SeesMore between who new → SeesMore old who new
sees_twice old between new who s t = record { begins = prefix_trans old between new s.begins t.begins; own = t.own ∙ s.own }

-- a turn without an entry, and then the call
abbrev pub after_more : (header : Header) (old between new : List Entry) (who : ℕ) (call : Call) (answer : Answer) → SeesMore old who between → After header between who call answer new → After header old who call answer new
after_more header old between new who call answer s a = record {
  before = a.before;
  made = a.made;
  grows = record {
    begins = prefix_trans old between a.before s.begins a.grows.begins;
    own = a.grows.own ∙ ap (filter (λ (e : Entry). not (is_breaking e.body))) s.own;
    stands = a.grows.stands;
    only = a.grows.only;
    last = a.grows.last;
    failed = a.grows.failed;
  };
  answers = a.answers;
  at_once = a.at_once;
}

-- a turn without an entry, at whose end the call is answered so
pub after_nothing : (header : Header) (old new : List Entry) (who : ℕ) (call : Call) (answer : Answer) → SeesMore old who new → Answers header new call answer nothing → After header old who call answer new
after_nothing header old new who call answer s a = replies_after header old new who call answer new s (record { made = nothing; answers = a; new_is = sym (append-nil new) })

-- a plan that was made here
pub planned_here : (h : List Entry) (caller name : List ℕ) (draft : Id) (plan : PlannedLanding) (r : RebasedLanding) (moment : ℕ) → IsPlan h caller name draft plan → r ≡ rebased_of plan moment → WasPlanned h r
planned_here h caller name draft plan r moment p is = record {
  then = h;
  begins = prefix_self h;
  plan = plan;
  planned = subst (λ (t : List ℕ × (List ℕ × Id)). IsPlan h t.0 t.1.0 t.1.1 plan)
      (λ i. (sym (ap (λ (r : RebasedLanding). r.caller) is ∙ p.callers) i, (sym (ap (λ (r : RebasedLanding). r.name) is ∙ p.names) i, sym (ap (λ (r : RebasedLanding). r.draft) is ∙ p.drafts) i))) p;
  rebased_is = is ∙ ap (rebased_of plan) (sym (ap (λ (r : RebasedLanding). r.asked) is));
}

pub asked_for : (h : List Entry) (caller name : List ℕ) (draft : Id) (plan : PlannedLanding) (r : RebasedLanding) (moment : ℕ) → IsPlan h caller name draft plan → r ≡ rebased_of plan moment → Asks (LandDraft r.caller r.name r.draft r.asked) ≡ Asks (LandDraft caller name draft moment)
asked_for h caller name draft plan r moment p is =
    (λ i. Asks (LandDraft ((ap (λ (r : RebasedLanding). r.caller) is ∙ p.callers) i) ((ap (λ (r : RebasedLanding). r.name) is ∙ p.names) i) ((ap (λ (r : RebasedLanding). r.draft) is ∙ p.drafts) i) (ap (λ (r : RebasedLanding). r.asked) is i)))

-- the plan of the attempt before
pub earlier_later : (g h : List Entry) (caller name : List ℕ) (draft : Id) (earlier : Option PlannedLanding) → IsPrefix g h → IsEarlier g caller name draft earlier → IsEarlier h caller name draft earlier
earlier_later g h caller name draft None begins e = e
earlier_later g h caller name draft (Some plan) begins e = record { planned = was_plan_later g h plan begins e.planned; callers = e.callers; names = e.names; drafts = e.drafts }

pub made_before : (g h : List Entry) (who : ℕ) (caller name : List ℕ) (draft : Id) (plan : PlannedLanding) → IsPlan g caller name draft plan → SeesMore g who h → IsMadeBefore h caller name draft plan
made_before g h who caller name draft plan p s = record { planned = was_plan g h caller name draft plan s.begins p; callers = p.callers; names = p.names; drafts = p.drafts }

-- by its own names
pub own_plan : (h : List Entry) (caller name : List ℕ) (draft : Id) (plan : PlannedLanding) → IsPlan h caller name draft plan → IsPlan h plan.caller plan.name plan.draft plan
own_plan h caller name draft plan p = subst (λ (t : List ℕ × (List ℕ × Id)). IsPlan h t.0 t.1.0 t.1.1 plan) (λ i. (sym p.callers i, (sym p.names i, sym p.drafts i))) p

-- want of memory outside of every turn
no_memory : (header : Header) (h : List Entry) (call : Call) → Answers header h call Memory nothing
no_memory header h (Asks ask) = refl
no_memory header h (Joins body) = refl
no_memory header h (Looks question) = refl
no_memory header h (Derives id) = refl

pub after_memory : (header : Header) (h : List Entry) (who : ℕ) (call : Call) → After header h who call Memory h
after_memory header h who call = after_nothing header h h who call Memory (sees_nothing h who) (no_memory header h call)
