-- A plan as the history grows, and the landing that it makes.
use Rattle.std.proofs.Common.{◌≡◌, ℕ, ◌+◌, ◌<◌, ◌≤◌, true, false, List, ◌++◌, map, length, reverse, inl, inr, refl, sym, ap, subst, ◌∙◌, arith}
use Rattle.std.specs.Prelude.{Option, Some, None, Result, option_map}
use mathlib.Core.List.{IsPrefix}
use Rattle.std.proofs.lemmas.List.{append_assoc}
use Rattle.byte_fields.specs.Bytes.{Id, last_that}
use Rattle.changeset_model.specs.Path.{Path}
use Rattle.changeset_model.specs.Changeset.{id_of, touched_paths}
use Rattle.history_model.specs.History.{Entry, Land, Landing, is_down, known, is_known}
use Rattle.history_model.specs.Bookmark.{head}
use Rattle.history_model.specs.Pushrebase.{fork, fork_at, rewrite, moment_of}
use Rattle.history_model.specs.Journal.{Header, payload_len, most_payload}
use Rattle.history_model.specs.Journal as journal
use Rattle.reply_model.specs.Reply as reply
use Rattle.reply_model.specs.Reply.{◌>>=◌, refuse_some, LandDraft, told, denied_at, denial, judge, enter_landing, entered}
use Rattle.reply_model.specs.After.{Refuses}
use Rattle.reply_model.proofs.Lines.{known_grows, line_grows}
use Rattle.repo_calls.specs.declared.refusal.Refusal.{Refusal}
use Rattle.repo_calls.specs.declared.refusal.Refusal.TheVariants as refusals
use Rattle.changeset_store.specs.Grown.{AreAlone}
use Rattle.repo_calls.specs.Calls.{refused}
use Rattle.repo_calls.specs.Refusing.{IsRefusal}
use Rattle.repo_machine.specs.Landings.{IsLandable}
use Rattle.repo_machine.specs.Plans.{PlannedLanding, RebasedLanding, IsPlan, IsAllowed, IsDenial, if_allowed, landing_in, WasPlanned, PassesPlan, RefusesAs}
use Rattle.repo_machine.proofs.Judging.{refused_down, prevented}
use Rattle.repo_machine.proofs.LandingSteps.{forked, fine_lengths, in_line_again, refused_some, refused_none, too_large, fine_payload, judged_planned, payload_refused, collision_refused, judged_landing}
use Rattle.repo_calls.proofs.Fitting.{length-rewrite}

-- ---- as the history grows

-- the fork at a longer history
pub fork_grows : (g t : List Entry) (old draft : Id) → is_known (known g) old ≡ true → is_known (known g) draft ≡ true → fork (known (g ++ t)) old draft ≡ fork (known g) old draft
fork_grows g t old draft old_known draft_known =
    let of_head = line_grows g t old old_known in
    let of_draft = line_grows g t draft draft_known in
    (λ i. option_map (fork_at (reverse (of_head i)) (reverse (of_draft i))) (last_that (λ k. is_known (reverse (of_head i)) k.id) (reverse (of_draft i))))

stays_on : (g t : List Entry) (caller name : List ℕ) (draft : Id) (plan : PlannedLanding) → IsPlan g caller name draft plan → head (g ++ t) name ≡ Some plan.old → IsPlan (g ++ t) caller name draft plan
stays_on g t caller name draft plan p at = record {
  callers = p.callers;
  names = p.names;
  drafts = p.drafts;
  head_is = at;
  old_known = known_grows g t plan.old p.old_known;
  draft_known = known_grows g t draft p.draft_known;
  fork_is = p.fork_is;
  forks = fork_grows g t plan.old draft p.old_known p.draft_known ∙ p.forks;
  stack_is = p.stack_is;
  near = p.near;
  some = p.some;
  few = p.few;
  stack_in_line = p.stack_in_line;
  range_in_line = p.range_in_line;
  apart = p.apart;
  touched_is = p.touched_is;
}

pub plan_stays : (g h : List Entry) (caller name : List ℕ) (draft : Id) (plan : PlannedLanding) → IsPrefix g h → IsPlan g caller name draft plan → head h name ≡ Some plan.old → IsPlan h caller name draft plan
plan_stays g h caller name draft plan begins p = subst (λ h. head h name ≡ Some plan.old → IsPlan h caller name draft plan) begins.1 (stays_on g begins.0 caller name draft plan p)

pub prefix_on : (f g h : List Entry) → IsPrefix f g → IsPrefix g h → IsPrefix f h
prefix_on f g h first then = (first.0 ++ then.0, sym (append_assoc f first.0 then.0) ∙ ap (λ (l : List Entry). l ++ then.0) first.1 ∙ then.1)

pub was_planned : (g h : List Entry) (r : RebasedLanding) → IsPrefix g h → WasPlanned g r → WasPlanned h r
was_planned g h r begins w = record { then = w.then; begins = prefix_on w.then g h w.begins begins; plan = w.plan; planned = w.planned; rebased_is = w.rebased_is }

-- ---- what is judged

pub judged_as_planned : (header : Header) (h : List Entry) (caller name : List ℕ) (draft : Id) (moment : ℕ) (plan : PlannedLanding) → IsPlan h caller name draft plan → is_down h ≡ false
    → judge header h (LandDraft caller name draft moment) ≡ if_allowed h caller plan.touched (enter_landing header h (told h caller) name plan.old draft (rewrite plan.stack plan.old moment) (moment_of plan.stack moment))
judged_as_planned header h caller name draft moment plan p up =
    judged_planned header h caller name draft moment up plan.old p.head_is p.fork_is (forked (known h) plan.old draft p.fork_is p.draft_known p.forks)
    (fine_lengths p.fork_is (length p.fork_is.range) refl p.near (length p.fork_is.stack) refl (λ none. let some = p.some in omega arith) p.few)
    (in_line_again p.fork_is p.stack_in_line p.range_in_line)
    (refused_none _ _ p.apart)
    ∙ (λ i. if_allowed h caller (sym (p.touched_is ∙ ap touched_paths p.stack_is) i) (enter_landing header h (told h caller) name plan.old draft (rewrite (sym p.stack_is i) plan.old moment) (moment_of (sym p.stack_is i) moment)))

-- a refusal of which want of memory is none
pub as_refused : {Y : Type 0} (wanted : Result Y reply.Refusal) (e : Refusal) → PassesPlan e → IsRefusal wanted e → RefusesAs wanted e
as_refused wanted e passes (inl memory) = absurd (subst PassesPlan memory passes)
as_refused wanted e passes (inr t) = record { refusal = t.0; is_refused = t.1; same = t.2; passes = passes }

pub down_refused : (header : Header) (h : List Entry) (ask : reply.Ask) → is_down h ≡ true → RefusesAs (judge header h ask) refusals.Down
down_refused header h ask down = as_refused (judge header h ask) refusals.Down tt (refused_down header h ask down)

-- a denial may come after a plan
denial_passes : (e : Refusal) (path : Path) (rule : Option ℕ) → refused e ≡ Refuses (reply.Denied path rule) → PassesPlan e
denial_passes refusals.Down path rule same = absurd cc
denial_passes (refusals.TooLong length) path rule same = absurd cc
denial_passes (refusals.BadEncoding at) path rule same = absurd cc
denial_passes (refusals.SelfConflict short long) path rule same = absurd cc
denial_passes (refusals.BadParts length) path rule same = absurd cc
denial_passes refusals.OldFormat path rule same = absurd cc
denial_passes (refusals.NoPiece id) path rule same = absurd cc
denial_passes (refusals.NotAPiece id) path rule same = absurd cc
denial_passes (refusals.NoParent id) path rule same = absurd cc
denial_passes (refusals.NoContent at id) path rule same = absurd cc
denial_passes (refusals.WrongSize at wanted found) path rule same = absurd cc
denial_passes (refusals.Unresolved at) path rule same = absurd cc
denial_passes (refusals.Collision id) path rule same = absurd cc
denial_passes (refusals.NoChangeset id) path rule same = absurd cc
denial_passes (refusals.Moved found) path rule same = absurd cc
denial_passes refusals.NoBookmark path rule same = absurd cc
denial_passes refusals.NoRoot path rule same = absurd cc
denial_passes (refusals.TooFarBehind distance) path rule same = absurd cc
denial_passes refusals.AlreadyIn path rule same = absurd cc
denial_passes (refusals.StackTooLong count) path rule same = absurd cc
denial_passes (refusals.MergeInStack id) path rule same = absurd cc
denial_passes (refusals.MergeInRange id) path rule same = absurd cc
denial_passes (refusals.Denied place number) path rule same = tt
denial_passes (refusals.Clash left right) path rule same = absurd cc
denial_passes (refusals.TooLarge length) path rule same = absurd cc
denial_passes (refusals.BadPolicy line) path rule same = absurd cc
denial_passes (refusals.Full size length) path rule same = absurd cc
denial_passes refusals.Memory path rule same = absurd cc

module _ (header : Header) (h : List Entry) (r : RebasedLanding) (w : WasPlanned h r) (at : head h r.name ≡ Some r.old) where
  abbrev ask : reply.Ask
  ask = LandDraft r.caller r.name r.draft r.asked

  -- what is made, if it is allowed
  abbrev landing : Landing
  landing = landing_in r (told h r.caller)

  old_is : r.old ≡ w.plan.old
  old_is = ap (λ (r : RebasedLanding). r.old) w.rebased_is

  new_is : r.new ≡ rewrite w.plan.stack w.plan.old r.asked
  new_is = ap (λ (r : RebasedLanding). r.new) w.rebased_is

  moment_is : r.moment ≡ moment_of w.plan.stack r.asked
  moment_is = ap (λ (r : RebasedLanding). r.moment) w.rebased_is

  touched_is : r.touched ≡ w.plan.touched
  touched_is = ap (λ (r : RebasedLanding). r.touched) w.rebased_is

  plan_now : IsPlan h r.caller r.name r.draft w.plan
  plan_now = plan_stays w.then h r.caller r.name r.draft w.plan w.begins w.planned (at ∙ ap Some old_is)

  long : length r.new ≡ length plan_now.fork_is.stack
  long = ap length new_is ∙ length-rewrite w.plan.stack w.plan.old r.asked ∙ ap length plan_now.stack_is

  module _ (up : is_down h ≡ false) where
    decided : judge header h ask ≡ if_allowed h r.caller r.touched (enter_landing header h (told h r.caller) r.name r.old r.draft r.new r.moment)
    decided =
        judged_as_planned header h r.caller r.name r.draft r.asked w.plan plan_now up
        ∙ (λ i. if_allowed h r.caller (sym touched_is i) (enter_landing header h (told h r.caller) r.name (sym old_is i) r.draft (sym new_is i) (sym moment_is i)))

    pub denied_refused : (e : Refusal) → IsDenial h r.caller r.touched e → RefusesAs (judge header h ask) e
    denied_refused e d =
        as_refused (judge header h ask) e (denial_passes e d.0.path d.0.rule d.2)
        (inr (denial d.0, decided ∙ ap (λ o. refuse_some o denial >>= λ _. enter_landing header h (told h r.caller) r.name r.old r.draft r.new r.moment) d.1, d.2))

    module _ (allowed : IsAllowed h r.caller r.touched) where
      judged : judge header h ask ≡ enter_landing header h (told h r.caller) r.name r.old r.draft r.new r.moment
      judged = decided ∙ ap (λ o. refuse_some o denial >>= λ _. enter_landing header h (told h r.caller) r.name r.old r.draft r.new r.moment) allowed

      pub large_refused : (e : Refusal) → (e ≡ refusals.TooLarge (payload_len (Land landing))) × (most_payload < payload_len (Land landing)) → RefusesAs (judge header h ask) e
      large_refused e large =
          as_refused (judge header h ask) e (subst PassesPlan (sym large.0) tt)
          (payload_refused header h ask landing judged e (subst (IsRefusal _) (sym large.0) (too_large landing (payload_len (Land landing)) refl large.1)))

      module _ (short : payload_len (Land landing) ≤ most_payload) where
        pub other_refused : (x : Id) → reply.first_collision (known h) r.new ≡ Some x → RefusesAs (judge header h ask) (refusals.Collision x)
        other_refused x found =
            as_refused (judge header h ask) (refusals.Collision x) tt
            (collision_refused header h ask landing judged (fine_payload landing (payload_len (Land landing)) refl short) (refusals.Collision x)
            (refused_some (reply.first_collision (known h) r.new) reply.Collision x (refusals.Collision x) found refl))

        module _ (none : reply.first_collision (known h) r.new ≡ None) where
          judged_entered : judge header h ask ≡ entered header h (reply.Landed r.old (map id_of r.new)) (Land landing)
          judged_entered = judged_landing header h ask landing judged (fine_payload landing (payload_len (Land landing)) refl short) (refused_none _ reply.Collision none)

          pub full_refused : (e : Refusal) (n : ℕ) → n ≡ payload_len (Land landing) → (e ≡ refusals.Full (journal.size h) n) × (header.capacity < journal.size h + 5 + n) → RefusesAs (judge header h ask) e
          full_refused e n n_is full =
              let same = full.0 ∙ ap (refusals.Full (journal.size h)) n_is in
              as_refused (judge header h ask) e (subst PassesPlan (sym same) tt)
              (prevented header h ask (reply.Landed r.old (map id_of r.new)) (Land landing) e (inr (same, subst (λ n. header.capacity < journal.size h + 5 + n) n_is full.1)) judged_entered)

          pub landable : AreAlone (known h) r.new → IsLandable header h r.caller r.name r.draft r.asked landing
          landable alone = record {
            names = refl;
            drafts = refl;
            head_is = at;
            old_known = subst (λ old. is_known (known h) old ≡ true) (sym old_is) plan_now.old_known;
            fork_is = plan_now.fork_is;
            forks = ap (λ old. fork (known h) old r.draft) old_is ∙ plan_now.forks;
            rewritten = new_is ∙ (λ i. rewrite (plan_now.stack_is i) (sym old_is i) r.asked);
            dated = moment_is ∙ ap (λ stack. moment_of stack r.asked) plan_now.stack_is;
            told_is = refl;
            some = (let same = long in let some = plan_now.some in omega arith);
            few = (let same = long in let few = plan_now.few in omega arith);
            allowed = ap (denied_at h r.caller) (sym (touched_is ∙ plan_now.touched_is ∙ ap touched_paths plan_now.stack_is)) ∙ allowed;
            range_in_line = plan_now.range_in_line;
            apart = plan_now.apart;
            alone = alone;
            judged = judged_entered;
          }
