use Rattle.std.proofs.Common.{◌≡◌, true, subst}
use Rattle.std.specs.List.{AllByRecursion}
use Rattle.changeset_model.specs.Changeset.{Changeset}
use Rattle.history_model.specs.History.{is_known, known}
use Rattle.reply_model.specs.Reply.{unresolved_of}
use Rattle.recovery.proofs.Asked.{enters_changeset, skips_changeset}
use Rattle.recovery.proofs.enter.enter_changeset.Goals as goal

pub replay_changeset-requires-clause-left : goal.replay_changeset-requires-clause-left
replay_changeset-requires-clause-left c =
    let ks = known c.args.machine.now.history in
    let left = c.in_ok-left.left in
    subst (λ (m : Changeset). AllByRecursion (λ p. is_known ks p ≡ true) m.parents → left ≡ unresolved_of ks m m.parents) c.changeset.ensures c.in_ok-left.ensures.left

pub returns-then-not-made-clause-enters : goal.returns-then-not-made-clause-enters
returns-then-not-made-clause-enters c =
    skips_changeset c.args.machine.now.header c.args.machine.now.history c.args.commit c.in_ok-made.made c.replay_changeset.new.self.history c.requires.decoded c.in_ok-made.ensures.ok c.if-not-made.true

pub returns-clause-enters : goal.returns-clause-enters
returns-clause-enters c =
    enters_changeset c.args.machine.now.header c.args.machine.now.history c.args.commit c.in_ok-made.made c.replay_changeset.new.self.history c.requires.decoded c.in_ok-made.ensures.ok c.if-not-made.false
