use Rattle.std.proofs.Common.{◌≡◌, ◌≤◌, length, subst, sym, ap, ◌∙◌}
use Rattle.std.specs.Prelude.{Ok}
use Rattle.reply_model.specs.Reply.{most_stack, refuse_some, denial, denied_at}
use Rattle.repo_calls.specs.Refusing.{IsRefusal}
use Rattle.changeset_store.specs.Fork.{fork_between}
use Rattle.repo_machine.specs.Held.{repository}
use Rattle.repo_machine.proofs.Judging.{passes_refusal}
use Rattle.repo_machine.proofs.Deciding.{decided_by, decided_on}
use Rattle.repo_machine.proofs.LandingSteps.{no_bookmark, down_as, is_short, none_refused}
use Rattle.repo_machine.proofs.LandingPlans.{head_known, planned, fork_refused_as, lengths_refused_as, merges_refused_as, policy_refused_as, paths_refused_as, stack_keeps_as}
use Rattle.repo_machine.proofs.machine.Machine.plan_counted.Goals as goal

pub returns-in_default-clause-err : goal.returns-in_default-clause-err
returns-in_default-clause-err g c = λ moment. no_bookmark c.args.self.now.header c.args.self.now.history c.args.caller.now c.args.name.now c.args.draft moment c.in_ok-check_up.ensures.ok (sym c.head.ensures ∙ c.in_default.is)

pub fork_from-requires : goal.fork_from-requires
fork_from-requires g c = head_known c.self.invariant.1 (repository c.args.self.now) (ap repository c.self.view_is) c.in_ok-check_up.ensures.ok c.args.caller.now c.args.name.now c.in-Some.old (sym c.head.ensures ∙ c.in-Some.is)

pub returns-in_err-fork-clause-err : goal.returns-in_err-fork-clause-err
returns-in_err-fork-clause-err g c =
    passes_refusal _ c.from_residual-in_err-fork.result _ c.from_residual-in_err-fork.ensures.1 (fork_refused_as c.self.invariant.1 (repository c.args.self.now) (ap repository c.self.view_is) c.in_ok-check_up.ensures.ok c.args.caller.now c.args.name.now c.in-Some.old (sym c.head.ensures ∙ c.in-Some.is) c.args.draft _ c.in_err-fork.ensures.steps)

pub returns-in_err-check_lengths-clause-err : goal.returns-in_err-check_lengths-clause-err
returns-in_err-check_lengths-clause-err g c =
    passes_refusal _ c.from_residual-in_err-check_lengths.result _ c.from_residual-in_err-check_lengths.ensures.1
    (lengths_refused_as c.self.invariant.1 (repository c.args.self.now) (ap repository c.self.view_is) c.in_ok-check_up.ensures.ok c.args.caller.now c.args.name.now c.in-Some.old (sym c.head.ensures ∙ c.in-Some.is) c.args.draft c.in_ok-fork.fork c.in_ok-fork.ensures.is_fork c.in_ok-fork.ensures.steps _ c.in_err-check_lengths.ensures)

pub returns-in_err-check_merges-clause-err : goal.returns-in_err-check_merges-clause-err
returns-in_err-check_merges-clause-err g c =
    passes_refusal _ c.from_residual-in_err-check_merges.result _ c.from_residual-in_err-check_merges.ensures.1
    (merges_refused_as c.self.invariant.1 (repository c.args.self.now) (ap repository c.self.view_is) c.in_ok-check_up.ensures.ok c.args.caller.now c.args.name.now c.in-Some.old (sym c.head.ensures ∙ c.in-Some.is) c.args.draft c.in_ok-fork.fork c.in_ok-fork.ensures.is_fork c.in_ok-fork.ensures.steps c.in_ok-check_lengths.ensures _ c.in_err-check_merges.ensures)

pub check_touched-requires-clause-touched : goal.check_touched-requires-clause-touched
check_touched-requires-clause-touched g c = c.as_slice-2.ensures.value ∙ c.in_ok-touched.ensures

pub returns-in_err-check_landing-clause-err : goal.returns-in_err-check_landing-clause-err
returns-in_err-check_landing-clause-err g c =
    passes_refusal _ c.from_residual-in_err-check_landing.result _ c.from_residual-in_err-check_landing.ensures.1
    (policy_refused_as c.self.invariant.1 (repository c.args.self.now) (ap repository c.self.view_is) c.in_ok-check_up.ensures.ok c.args.caller.now c.args.name.now c.in-Some.old (sym c.head.ensures ∙ c.in-Some.is) c.args.draft c.in_ok-fork.fork c.in_ok-fork.ensures.is_fork c.in_ok-fork.ensures.steps c.in_ok-check_lengths.ensures c.in_ok-check_merges.ensures _
    (subst (λ d. IsRefusal (refuse_some d denial) c.in_err-check_landing.field-0.0) (decided_on c.args.self.now.history c.args.caller.now _ _ _ c.rules.ensures (c.as_slice.ensures.value ∙ c.in_ok-touched.ensures)) c.in_err-check_landing.ensures))

pub returns-in_err-check_touched-clause-err : goal.returns-in_err-check_touched-clause-err
returns-in_err-check_touched-clause-err g c =
    passes_refusal _ c.from_residual-in_err-check_touched.result _ c.from_residual-in_err-check_touched.ensures.1
    (paths_refused_as c.self.invariant.1 (repository c.args.self.now) (ap repository c.self.view_is) c.in_ok-check_up.ensures.ok c.args.caller.now c.args.name.now c.in-Some.old (sym c.head.ensures ∙ c.in-Some.is) c.args.draft c.in_ok-fork.fork c.in_ok-fork.ensures.is_fork c.in_ok-fork.ensures.steps c.in_ok-check_lengths.ensures c.in_ok-check_merges.ensures
    (subst (λ d. refuse_some d denial ≡ Ok tt) (decided_on c.args.self.now.history c.args.caller.now _ _ _ c.rules.ensures (c.as_slice.ensures.value ∙ c.in_ok-touched.ensures)) c.in_ok-check_landing.ensures) _ c.in_err-check_touched.ensures.apart)

pub returns-clause-ok : goal.returns-clause-ok
returns-clause-ok g c =
    planned c.self.invariant.1 (repository c.args.self.now) (ap repository c.self.view_is) c.in_ok-check_up.ensures.ok c.args.caller.now c.args.name.now c.in-Some.old (sym c.head.ensures ∙ c.in-Some.is) c.args.draft c.in_ok-fork.fork c.in_ok-fork.ensures.is_fork c.in_ok-fork.ensures.steps c.in_ok-check_lengths.ensures c.in_ok-check_merges.ensures
    _ c.in_ok-caller.ensures _ c.in_ok-name.ensures _ c.in_ok-stack.ensures _ (ap (λ v. v.items) c.in_ok-touched-2.ensures.ok ∙ c.in_ok-touched.ensures) c.in_ok-check_touched.ensures.apart

pub returns-clause-allowed : goal.returns-clause-allowed
returns-clause-allowed g c =
    none_refused _ denial
    (subst (λ ps. refuse_some (denied_at c.args.self.now.history c.args.caller.now ps) denial ≡ Ok tt) (c.as_slice.ensures.value ∙ sym (ap (λ v. v.items) c.in_ok-touched-2.ensures.ok))
    (subst (λ d. refuse_some d denial ≡ Ok tt) (decided_by c.args.self.now.history c.args.caller.now c.as_slice.result.now _ c.rules.ensures) c.in_ok-check_landing.ensures))

pub returns-in_err-check_up-clause-err : goal.returns-in_err-check_up-clause-err
returns-in_err-check_up-clause-err g c =
    passes_refusal _ c.from_residual.result _ c.from_residual.ensures.1 (down_as c.args.self.now.header c.args.self.now.history c.args.caller.now c.args.name.now c.args.draft _ c.in_err-check_up.ensures.err)

pub invariant_of-result : goal.invariant_of-result
invariant_of-result g c =
    let short = is_short (fork_between c.self.inside.changesets.known c.in_ok-fork.fork) c.in_ok-check_lengths.ensures in (
      subst (λ stack. length stack ≤ most_stack) (sym c.in_ok-stack.ensures) short.few,
      stack_keeps_as c.self.invariant.1 (repository c.args.self.now) (ap repository c.self.view_is) c.in_ok-check_up.ensures.ok c.args.caller.now c.args.name.now c.in-Some.old (sym c.head.ensures ∙ c.in-Some.is)
          c.args.draft c.in_ok-fork.fork c.in_ok-fork.ensures.is_fork c.in_ok-fork.ensures.steps c.in_ok-check_merges.ensures _ c.in_ok-stack.ensures,
    )
