use Rattle.recovery.proofs.Asked.{enters_content, skips_content}
use Rattle.recovery.proofs.enter.enter_content.Goals as goal

pub returns-then-not-made-clause-enters : goal.returns-then-not-made-clause-enters
returns-then-not-made-clause-enters c =
    skips_content c.args.machine.now.header c.args.machine.now.history c.args.content.now c.in_ok-made.made c.replay_content.new.self.history c.in_ok-made.ensures.ok c.if-not-made.true

pub returns-clause-enters : goal.returns-clause-enters
returns-clause-enters c =
    enters_content c.args.machine.now.header c.args.machine.now.history c.args.content.now c.in_ok-made.made c.replay_content.new.self.history c.in_ok-made.ensures.ok c.if-not-made.false
