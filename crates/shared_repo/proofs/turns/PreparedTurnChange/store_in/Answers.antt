use Rattle.std.proofs.Common.{sym, subst, arith}
use Rattle.reply_model.specs.After.{Answer, Replies}
use Rattle.repo_machine.specs.Prepared.{asked_by}
use Rattle.shared_repo.proofs.Lastings.{state_looked}
use Rattle.shared_repo.proofs.Made.{change_adds, change_ends}
use Rattle.shared_repo.proofs.turns.PreparedTurnChange.store_in.Goals as goal

pub returns-clause-turn : goal.returns-clause-turn
returns-clause-turn g c =
    let before = c.args.state.now in
    let stored = c.store_prepared-granted.ensures in
    let after = c.store_prepared-granted.new.self in
    let call = asked_by c.args.self in
    let reply = subst (λ (answer : Answer). Replies before.header before.history c.args.who call answer after.history) (sym c.with_counts.ensures.answer) stored.reply in
    let adds = change_adds before.header before.history after.history c.args.who call c.with_counts.result c.with_counts.ensures.disk
    reply
    c.history_length.result c.history_length-before.result c.history_length.ensures.length c.history_length-before.ensures.length c.differ-added.result c.differ-added.ensures in
    let kept = stored.sealed in
    record {
      opened = stored.opening;
      adds = adds;
      seals = omega arith;
      lasts = state_looked before after stored.opening stored.sealed stored.left stored.sound stored.kept stored.leaves;
      few = λ up more. omega arith;
      ends = change_ends before.header before.history after.history c.args.who call c.with_counts.result c.with_counts.ensures.disk reply;
    }
