-- Whether a landing is as it was planned.
use Rattle.std.proofs.Common.{◌≡◌, ℕ, Bool, true, false, cond, List, refl, sym, ap, subst, ◌∙◌}
use Rattle.std.specs.Prelude.{◌≢◌, ◌&&◌, Option, None, Some, Ok, bytes_eq, ◌==◌, option_map}
use Rattle.std.specs.Option.{option_eq, option_and_then}
use Rattle.std.proofs.lemmas.Bool.{and_parts, and_from, eq-eqb}
use Rattle.std.proofs.lemmas.Slice.Eq.{bytes_eq-Decides}
use Rattle.byte_fields.specs.Bytes.{Id}
use Rattle.changeset_model.specs.Changeset.{Changeset}
use Rattle.history_model.specs.History.{Body, Entry, known}
use Rattle.history_model.specs.Bookmark.{head}
use Rattle.history_model.specs.Pushrebase.{Fork, fork, rewrite}
use Rattle.history_model.specs.Journal.{Header}
use Rattle.reply_model.specs.Reply.{Granted, LandDraft, judge}
use Rattle.opening_laws.proofs.Made.{MakesEach, Fitting, MadeBy, judge_makes}
use Rattle.core_model.specs.Core.{Plan, State, set_for, plan_of, is_as_planned}
use Rattle.landing_core.specs.Steps.{HasPlan}

pub set_here : {X : Type 0} (who : ℕ) (x : X) (f : ℕ → X) → set_for who x f who ≡ x
set_here who x f = ap (λ b. cond b x (f who)) (eq-eqb who who refl)

same_bytes : (a b : List ℕ) → a ≡ b → bytes_eq a b ≡ true
same_bytes a b e = (bytes_eq-Decides a b).1 e

same_head : (h : List Entry) (name : List ℕ) (old : Id) → head h name ≡ Some old → option_eq bytes_eq (Some old) (head h name) ≡ true
same_head h name old at = ap (option_eq bytes_eq (Some old)) at ∙ same_bytes old old refl

as_planned : (h : List Entry) (plan : Plan) (caller name : List ℕ) (draft : Id) (moment : ℕ) (old : Id) → plan.name ≡ name → plan.draft ≡ draft → plan.moment ≡ moment → plan.old ≡ old → head h name ≡ Some old → is_as_planned h (Some plan) (LandDraft caller name draft moment) ≡ true
as_planned h plan caller name draft moment old names drafts moments old_is at =
    and_from (bytes_eq plan.name name && bytes_eq plan.draft draft && (plan.moment == moment)) (option_eq bytes_eq (Some plan.old) (head h name))
    (and_from (bytes_eq plan.name name && bytes_eq plan.draft draft) (plan.moment == moment)
    (and_from (bytes_eq plan.name name) (bytes_eq plan.draft draft) (same_bytes plan.name name names) (same_bytes plan.draft draft drafts))
    (eq-eqb plan.moment moment moments))
    (same_head h name plan.old (at ∙ ap Some (sym old_is)))

-- a plan of the seat, at its head
pub planned_now : (h : List Entry) (s : State) (who : ℕ) (caller name : List ℕ) (draft : Id) (moment : ℕ) (old : Id) (new : List Changeset) → HasPlan s who name draft moment old new → head h name ≡ Some old → is_as_planned h (s.plan who) (LandDraft caller name draft moment) ≡ true
planned_now h s who caller name draft moment old new p at = ap (λ o. is_as_planned h o (LandDraft caller name draft moment)) p.plan_is ∙ as_planned h p.plan caller name draft moment old p.names p.drafts p.moments p.old_is at

head_by : (found : Option Id) (old : Id) → option_eq bytes_eq (Some old) found ≡ true → found ≡ Some old
head_by None old e = absurd cc
head_by (Some x) old e = ap Some (sym ((bytes_eq-Decides old x).0 e))

-- and at another head
pub moved_on : (h : List Entry) (s : State) (who : ℕ) (caller name : List ℕ) (draft : Id) (moment : ℕ) (old : Id) (new : List Changeset) → HasPlan s who name draft moment old new → head h name ≢ Some old → is_as_planned h (s.plan who) (LandDraft caller name draft moment) ≡ false
moved_on h s who caller name draft moment old new p moved = ap (λ o. is_as_planned h o (LandDraft caller name draft moment)) p.plan_is ∙ by (is_as_planned h (Some p.plan) (LandDraft caller name draft moment)) refl
  where
    by : (b : Bool) → is_as_planned h (Some p.plan) (LandDraft caller name draft moment) ≡ b → b ≡ false
    by false e = refl
    by true e =
        let at = (and_parts (bytes_eq p.plan.name name && bytes_eq p.plan.draft draft && (p.plan.moment == moment)) (option_eq bytes_eq (Some p.plan.old) (head h name)) e).1 in
        absurd (moved (head_by (head h name) p.plan.old at ∙ ap Some p.old_is))

-- ---- planned in the same turn

abbrev a_plan : List ℕ → Id → ℕ → Id → Fork → Plan
a_plan name draft moment old f = record { name = name; draft = draft; moment = moment; old = old; fork = f; new = rewrite f.stack old moment }

abbrev plan_with : List Entry → List ℕ → Id → ℕ → Option Id → Option Plan
plan_with h name draft moment found = option_and_then (λ old. option_map (a_plan name draft moment old) (fork (known h) old draft)) found

pub plan_is : (h : List Entry) (name : List ℕ) (draft : Id) (moment : ℕ) (old : Id) (f : Fork) → head h name ≡ Some old → fork (known h) old draft ≡ Some f → plan_of h name draft moment ≡ Some (a_plan name draft moment old f)
plan_is h name draft moment old f at forks = ap (plan_with h name draft moment) at ∙ ap (option_map (a_plan name draft moment old)) forks

pub planned_here : (header : Header) (h : List Entry) (who : ℕ) (plans : ℕ → Option Plan) (caller name : List ℕ) (draft : Id) (moment : ℕ) (granted : Granted) (body : Body) → judge header h (LandDraft caller name draft moment) ≡ Ok (record { granted = granted; made = Some body }) → is_as_planned h (set_for who (plan_of h name draft moment) plans who) (LandDraft caller name draft moment) ≡ true
planned_here header h who plans caller name draft moment granted body is =
    let made = (subst (MakesEach (Fitting header h (MadeBy h (LandDraft caller name draft moment)))) is (judge_makes header h (LandDraft caller name draft moment)) body refl).0 in
    ap (λ o. is_as_planned h o (LandDraft caller name draft moment)) (set_here who (plan_of h name draft moment) plans ∙ plan_is h name draft moment made.0 made.1 made.2 made.4)
    ∙ as_planned h (a_plan name draft moment made.0 made.1) caller name draft moment made.0 refl refl refl refl made.2
