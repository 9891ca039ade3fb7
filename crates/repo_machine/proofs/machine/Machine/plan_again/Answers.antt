use Rattle.std.proofs.Common.{◌≡◌, ◌≤◌, ◌+◌, ◌*◌, length, refl, sym, ap, subst, ◌∙◌}
use Rattle.changeset_model.proofs.Rising.{touched_paths_rise}
use Rattle.changeset_model.specs.Path.{IsRising}
use Rattle.history_model.specs.Bookmark.{head as head_of}
use Rattle.history_model.specs.History.{is_known}
use Rattle.std.specs.Prelude.{Ok}
use Rattle.reply_model.specs.Reply.{refuse_some, denial}
use Rattle.repo_machine.specs.Held.{repository}
use Rattle.repo_machine.specs.Clashes.{edited_paths}
use Rattle.repo_calls.specs.Refusing.{IsRefusal}
use Rattle.repo_machine.specs.Landings.{forking}
use Rattle.repo_machine.specs.Plans.{PlannedLanding, IsPlan, IsAllowed}
use Rattle.repo_machine.proofs.Judging.{passes_refusal}
use Rattle.repo_machine.proofs.Deciding.{decided_for}
use Rattle.repo_machine.proofs.LandingSteps.{no_bookmark, down_as, none_refused}
use Rattle.repo_machine.proofs.LandingPlans.{head_known, planned, fork_refused_as, lengths_refused_as, merges_refused_as, policy_refused_as, paths_refused_as}
use Rattle.repo_machine.proofs.Uploading.{known_as}
use Rattle.changeset_store.specs.Fork.{following_at}
use Rattle.repo_machine.proofs.Looking.{none_taken}
use Rattle.repo_machine.proofs.Renewed.{was_known, stack_again, merges_again, touched_again, paths_again, since_again}
use Rattle.repo_machine.proofs.machine.Machine.plan_again.Goals as goal

pub returns-in_default-clause-err : goal.returns-in_default-clause-err
returns-in_default-clause-err g c = λ moment.
    no_bookmark c.args.self.now.header c.args.self.now.history c.args.plan.caller c.args.plan.name c.args.plan.draft moment c.in_ok-check_up.ensures.ok
    (ap (λ (p : PlannedLanding). head_of c.args.self.now.history p.name) (sym c.plan.view_is) ∙ sym c.head.ensures ∙ c.in_default.is)

pub fork_from-requires : goal.fork_from-requires
fork_from-requires g c =
    head_known c.self.invariant.1 (repository c.args.self.now) (ap repository c.self.view_is) c.in_ok-check_up.ensures.ok c.args.plan.caller c.args.plan.name c.in-Some.head
    (ap (λ (p : PlannedLanding). head_of c.args.self.now.history p.name) (sym c.plan.view_is) ∙ sym c.head.ensures ∙ c.in-Some.is)

pub returns-in_err-fork-clause-err : goal.returns-in_err-fork-clause-err
returns-in_err-fork-clause-err g c =
    passes_refusal _ c.from_residual-in_err-fork.result _ c.from_residual-in_err-fork.ensures.1
    (fork_refused_as c.self.invariant.1 (repository c.args.self.now) (ap repository c.self.view_is) c.in_ok-check_up.ensures.ok c.args.plan.caller c.args.plan.name c.in-Some.head
    (ap (λ (p : PlannedLanding). head_of c.args.self.now.history p.name) (sym c.plan.view_is) ∙ sym c.head.ensures ∙ c.in-Some.is) c.args.plan.draft _
    (subst (λ (p : PlannedLanding). IsRefusal (forking c.self.inside.changesets.known c.in-Some.head p.draft) c.in_err-fork.field-0.0) c.plan.view_is c.in_err-fork.ensures.steps))

pub planned_head-requires-clause-old : goal.planned_head-requires-clause-old
planned_head-requires-clause-old g c =
    ap (λ ks. is_known ks c.args.plan.old) (known_as c.self.invariant.1 (repository c.args.self.now) (ap repository c.self.view_is)) ∙ was_known c.requires.then c.args.self.now.history c.args.plan.old c.requires.begins c.requires.planned.old_known

pub returns-in_err-check_lengths-clause-err : goal.returns-in_err-check_lengths-clause-err
returns-in_err-check_lengths-clause-err g c =
    passes_refusal _ c.from_residual-in_err-check_lengths.result _ c.from_residual-in_err-check_lengths.ensures.1
    (lengths_refused_as c.self.invariant.1 (repository c.args.self.now) (ap repository c.self.view_is) c.in_ok-check_up.ensures.ok c.args.plan.caller c.args.plan.name c.in-Some.head
    (ap (λ (p : PlannedLanding). head_of c.args.self.now.history p.name) (sym c.plan.view_is) ∙ sym c.head.ensures ∙ c.in-Some.is) c.args.plan.draft c.in_ok-fork.fork c.in_ok-fork.ensures.is_fork
    (ap (λ (p : PlannedLanding). forking c.self.inside.changesets.known c.in-Some.head p.draft) (sym c.plan.view_is) ∙ c.in_ok-fork.ensures.steps) _ c.in_err-check_lengths.ensures)

pub returns-in_err-check_new_merges-clause-err : goal.returns-in_err-check_new_merges-clause-err
returns-in_err-check_new_merges-clause-err g c =
    passes_refusal _ c.from_residual-in_err-check_new_merges.result _ c.from_residual-in_err-check_new_merges.ensures.1
    (merges_refused_as c.self.invariant.1 (repository c.args.self.now) (ap repository c.self.view_is) c.in_ok-check_up.ensures.ok c.args.plan.caller c.args.plan.name c.in-Some.head
    (ap (λ (p : PlannedLanding). head_of c.args.self.now.history p.name) (sym c.plan.view_is) ∙ sym c.head.ensures ∙ c.in-Some.is) c.args.plan.draft c.in_ok-fork.fork c.in_ok-fork.ensures.is_fork
    (ap (λ (p : PlannedLanding). forking c.self.inside.changesets.known c.in-Some.head p.draft) (sym c.plan.view_is) ∙ c.in_ok-fork.ensures.steps) c.in_ok-check_lengths.ensures _
    (subst (λ checked. IsRefusal checked c.in_err-check_new_merges.field-0.0) (sym (merges_again c.args.self.now.history c.self.inside.changesets.known (known_as c.self.invariant.1 (repository c.args.self.now) (ap repository c.self.view_is)) c.args.plan c.requires c.in_ok-fork.fork c.in-Some-planned_head.planned c.in-Some-planned_head.ensures.planned)) c.in_err-check_new_merges.ensures))

pub returns-in_err-check_landing-clause-err : goal.returns-in_err-check_landing-clause-err
returns-in_err-check_landing-clause-err g c =
    passes_refusal _ c.from_residual-in_err-check_landing.result _ c.from_residual-in_err-check_landing.ensures.1
    (policy_refused_as c.self.invariant.1 (repository c.args.self.now) (ap repository c.self.view_is) c.in_ok-check_up.ensures.ok c.args.plan.caller c.args.plan.name c.in-Some.head
    (ap (λ (p : PlannedLanding). head_of c.args.self.now.history p.name) (sym c.plan.view_is) ∙ sym c.head.ensures ∙ c.in-Some.is) c.args.plan.draft c.in_ok-fork.fork c.in_ok-fork.ensures.is_fork
    (ap (λ (p : PlannedLanding). forking c.self.inside.changesets.known c.in-Some.head p.draft) (sym c.plan.view_is) ∙ c.in_ok-fork.ensures.steps) c.in_ok-check_lengths.ensures (merges_again c.args.self.now.history c.self.inside.changesets.known (known_as c.self.invariant.1 (repository c.args.self.now) (ap repository c.self.view_is)) c.args.plan c.requires c.in_ok-fork.fork c.in-Some-planned_head.planned c.in-Some-planned_head.ensures.planned ∙ c.in_ok-check_new_merges.ensures) _
    (subst (λ d. IsRefusal (refuse_some d denial) c.in_err-check_landing.field-0.0) (decided_for c.args.self.now.history c.plan.inside.caller c.args.plan.caller _ _ _ c.rules.ensures (ap (λ (p : PlannedLanding). p.caller) c.plan.view_is) (c.as_slice.ensures.value ∙ ap (λ v. v.items) c.deref.ensures ∙ ap (λ (p : PlannedLanding). p.touched) c.plan.view_is ∙ touched_again c.args.self.now.history c.self.inside.changesets.known (known_as c.self.invariant.1 (repository c.args.self.now) (ap repository c.self.view_is)) c.args.plan c.requires c.in_ok-fork.fork c.in-Some-planned_head.planned c.in-Some-planned_head.ensures.planned)) c.in_err-check_landing.ensures))

pub check_new-requires-clause-rising : goal.check_new-requires-clause-rising
check_new-requires-clause-rising g c = subst IsRising (sym c.requires.planned.touched_is) (touched_paths_rise c.args.plan.stack)

pub returns-in_err-check_new-clause-err : goal.returns-in_err-check_new-clause-err
returns-in_err-check_new-clause-err g c =
    passes_refusal _ c.from_residual-in_err-check_new.result _ c.from_residual-in_err-check_new.ensures.1
    (paths_refused_as c.self.invariant.1 (repository c.args.self.now) (ap repository c.self.view_is) c.in_ok-check_up.ensures.ok c.args.plan.caller c.args.plan.name c.in-Some.head
    (ap (λ (p : PlannedLanding). head_of c.args.self.now.history p.name) (sym c.plan.view_is) ∙ sym c.head.ensures ∙ c.in-Some.is) c.args.plan.draft c.in_ok-fork.fork c.in_ok-fork.ensures.is_fork
    (ap (λ (p : PlannedLanding). forking c.self.inside.changesets.known c.in-Some.head p.draft) (sym c.plan.view_is) ∙ c.in_ok-fork.ensures.steps) c.in_ok-check_lengths.ensures (merges_again c.args.self.now.history c.self.inside.changesets.known (known_as c.self.invariant.1 (repository c.args.self.now) (ap repository c.self.view_is)) c.args.plan c.requires c.in_ok-fork.fork c.in-Some-planned_head.planned c.in-Some-planned_head.ensures.planned ∙ c.in_ok-check_new_merges.ensures) (subst (λ d. refuse_some d denial ≡ Ok tt) (decided_for c.args.self.now.history c.plan.inside.caller c.args.plan.caller _ _ _ c.rules.ensures (ap (λ (p : PlannedLanding). p.caller) c.plan.view_is) (c.as_slice.ensures.value ∙ ap (λ v. v.items) c.deref.ensures ∙ ap (λ (p : PlannedLanding). p.touched) c.plan.view_is ∙ touched_again c.args.self.now.history c.self.inside.changesets.known (known_as c.self.invariant.1 (repository c.args.self.now) (ap repository c.self.view_is)) c.args.plan c.requires c.in_ok-fork.fork c.in-Some-planned_head.planned c.in-Some-planned_head.ensures.planned)) c.in_ok-check_landing.ensures) _
    (subst (λ checked. IsRefusal checked c.in_err-check_new.field-0.0) (sym (paths_again c.args.self.now.history c.self.inside.changesets.known (known_as c.self.invariant.1 (repository c.args.self.now) (ap repository c.self.view_is)) c.args.plan c.requires c.in_ok-fork.fork c.in-Some-planned_head.planned c.in-Some-planned_head.ensures.planned)) c.in_err-check_new.ensures.apart))

pub returns-in_err-check_new-clause-only_new : goal.returns-in_err-check_new-clause-only_new
returns-in_err-check_new-clause-only_new g c = λ new digits at goes fits.
    subst (λ cs. c.check_new.new.steps ≤ c.args.steps.now + (digits + 3) * length (edited_paths cs))
    (since_again c.args.self.now.history c.self.inside.changesets.known (known_as c.self.invariant.1 (repository c.args.self.now) (ap repository c.self.view_is)) c.args.plan c.requires c.in_ok-fork.fork c.in-Some-planned_head.planned c.in-Some-planned_head.ensures.planned c.in-Some.head new c.in_ok-fork.ensures.of_head
    (sym (ap (λ (p : PlannedLanding). head_of c.args.self.now.history p.name) (sym c.plan.view_is) ∙ sym c.head.ensures ∙ c.in-Some.is) ∙ at))
    (c.in_err-check_new.ensures.cost digits fits)

pub returns-clause-only_new : goal.returns-clause-only_new
returns-clause-only_new g c = λ new digits at goes fits.
    subst (λ cs. c.check_new.new.steps ≤ c.args.steps.now + (digits + 3) * length (edited_paths cs))
    (since_again c.args.self.now.history c.self.inside.changesets.known (known_as c.self.invariant.1 (repository c.args.self.now) (ap repository c.self.view_is)) c.args.plan c.requires c.in_ok-fork.fork c.in-Some-planned_head.planned c.in-Some-planned_head.ensures.planned c.in-Some.head new c.in_ok-fork.ensures.of_head
    (sym (ap (λ (p : PlannedLanding). head_of c.args.self.now.history p.name) (sym c.plan.view_is) ∙ sym c.head.ensures ∙ c.in-Some.is) ∙ at))
    (c.in_ok-check_new.ensures.cost digits fits)

pub returns-in_err-check_new-clause-nothing_new : goal.returns-in_err-check_new-clause-nothing_new
returns-in_err-check_new-clause-nothing_new g c = λ new at goes none.
    none_taken c.args.steps.now c.check_new.new.steps (length c.args.plan.touched) (edited_paths (following_at c.self.inside.changesets.known c.in-Some-planned_head.planned c.in_ok-fork.fork.head))
    c.in_err-check_new.ensures.counted c.in_err-check_new.ensures.cost
    (ap edited_paths
    (since_again c.args.self.now.history c.self.inside.changesets.known (known_as c.self.invariant.1 (repository c.args.self.now) (ap repository c.self.view_is)) c.args.plan c.requires c.in_ok-fork.fork c.in-Some-planned_head.planned c.in-Some-planned_head.ensures.planned c.in-Some.head new c.in_ok-fork.ensures.of_head
    (sym (ap (λ (p : PlannedLanding). head_of c.args.self.now.history p.name) (sym c.plan.view_is) ∙ sym c.head.ensures ∙ c.in-Some.is) ∙ at))
    ∙ none)

pub returns-clause-nothing_new : goal.returns-clause-nothing_new
returns-clause-nothing_new g c = λ new at goes none.
    none_taken c.args.steps.now c.check_new.new.steps (length c.args.plan.touched) (edited_paths (following_at c.self.inside.changesets.known c.in-Some-planned_head.planned c.in_ok-fork.fork.head))
    c.in_ok-check_new.ensures.counted c.in_ok-check_new.ensures.cost
    (ap edited_paths
    (since_again c.args.self.now.history c.self.inside.changesets.known (known_as c.self.invariant.1 (repository c.args.self.now) (ap repository c.self.view_is)) c.args.plan c.requires c.in_ok-fork.fork c.in-Some-planned_head.planned c.in-Some-planned_head.ensures.planned c.in-Some.head new c.in_ok-fork.ensures.of_head
    (sym (ap (λ (p : PlannedLanding). head_of c.args.self.now.history p.name) (sym c.plan.view_is) ∙ sym c.head.ensures ∙ c.in-Some.is) ∙ at))
    ∙ none)

pub returns-clause-ok : goal.returns-clause-ok
returns-clause-ok g c =
    subst (IsPlan c.args.self.now.history c.args.plan.caller c.args.plan.name c.args.plan.draft) (sym c.on.ensures)
    (planned c.self.invariant.1 (repository c.args.self.now) (ap repository c.self.view_is) c.in_ok-check_up.ensures.ok c.args.plan.caller c.args.plan.name c.in-Some.head
    (ap (λ (p : PlannedLanding). head_of c.args.self.now.history p.name) (sym c.plan.view_is) ∙ sym c.head.ensures ∙ c.in-Some.is) c.args.plan.draft c.in_ok-fork.fork c.in_ok-fork.ensures.is_fork
    (ap (λ (p : PlannedLanding). forking c.self.inside.changesets.known c.in-Some.head p.draft) (sym c.plan.view_is) ∙ c.in_ok-fork.ensures.steps) c.in_ok-check_lengths.ensures (merges_again c.args.self.now.history c.self.inside.changesets.known (known_as c.self.invariant.1 (repository c.args.self.now) (ap repository c.self.view_is)) c.args.plan c.requires c.in_ok-fork.fork c.in-Some-planned_head.planned c.in-Some-planned_head.ensures.planned ∙ c.in_ok-check_new_merges.ensures)
    c.args.plan.caller refl c.args.plan.name refl c.args.plan.stack (stack_again c.args.self.now.history c.self.inside.changesets.known (known_as c.self.invariant.1 (repository c.args.self.now) (ap repository c.self.view_is)) c.args.plan c.requires c.in_ok-fork.fork c.in-Some-planned_head.planned c.in-Some-planned_head.ensures.planned) c.args.plan.touched (touched_again c.args.self.now.history c.self.inside.changesets.known (known_as c.self.invariant.1 (repository c.args.self.now) (ap repository c.self.view_is)) c.args.plan c.requires c.in_ok-fork.fork c.in-Some-planned_head.planned c.in-Some-planned_head.ensures.planned)
    (paths_again c.args.self.now.history c.self.inside.changesets.known (known_as c.self.invariant.1 (repository c.args.self.now) (ap repository c.self.view_is)) c.args.plan c.requires c.in_ok-fork.fork c.in-Some-planned_head.planned c.in-Some-planned_head.ensures.planned ∙ c.in_ok-check_new.ensures.apart))

pub returns-in_err-check_up-clause-err : goal.returns-in_err-check_up-clause-err
returns-in_err-check_up-clause-err g c =
    passes_refusal _ c.from_residual.result _ c.from_residual.ensures.1 (down_as c.args.self.now.header c.args.self.now.history c.args.plan.caller c.args.plan.name c.args.plan.draft _ c.in_err-check_up.ensures.err)

pub returns-clause-allowed : goal.returns-clause-allowed
returns-clause-allowed g c =
    subst (λ (p : PlannedLanding). IsAllowed c.args.self.now.history c.args.plan.caller p.touched) (sym c.on.ensures)
    (none_refused _ denial
    (subst (λ d. refuse_some d denial ≡ Ok tt) (decided_for c.args.self.now.history c.plan.inside.caller c.args.plan.caller _ _ _ c.rules.ensures (ap (λ (p : PlannedLanding). p.caller) c.plan.view_is) (c.as_slice.ensures.value ∙ ap (λ v. v.items) c.deref.ensures ∙ ap (λ (p : PlannedLanding). p.touched) c.plan.view_is)) c.in_ok-check_landing.ensures))
