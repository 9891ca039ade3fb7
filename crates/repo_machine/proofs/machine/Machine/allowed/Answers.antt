use Rattle.std.proofs.Common.{sym, ap, ◌∙◌}
use Rattle.std.specs.Prelude.{Some}
use Rattle.std.specs.Option.{option_copied}
use Rattle.held_policy.specs.Held.{denied_by}
use Rattle.held_policy.specs.Places.{denial_at}
use Rattle.repo_machine.proofs.Deciding.{decided_by}
use Rattle.repo_machine.proofs.machine.Machine.allowed.Goals as goal

pub returns-in-Some-clause-err : goal.returns-in-Some-clause-err
returns-in-Some-clause-err c =
    let r = c.args.rebased in
    let d = c.in-Some.denied in (
      denial_at r.touched d,
      sym (ap (λ ps. Some (denial_at ps d)) (sym c.touched.ensures) ∙ c.in-Some.ensures.denied ∙ (λ i. denied_by (option_copied c.rules.result) (c.caller.ensures i) (c.touched.ensures i)) ∙ decided_by c.args.self.now.history r.caller r.touched _ c.rules.ensures),
      c.into_denied.ensures,
    )
