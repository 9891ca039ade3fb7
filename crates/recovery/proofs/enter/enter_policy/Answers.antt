use Rattle.recovery.proofs.Asked.{enters_as, policy_asked}
use Rattle.recovery.proofs.enter.enter_policy.Goals as goal

pub returns-clause-enters : goal.returns-clause-enters
returns-clause-enters c =
    enters_as _ _ _ _ _ _ (policy_asked c.args.machine.now.header c.args.machine.now.history c.args.caller.now c.args.text.now c.args.payload.now c.in_ok-judged.judged c.requires c.in_ok-judged.ensures.ok.is_judged) c.judge_policy_of.ensures.history c.enter_judged.ensures.enters
