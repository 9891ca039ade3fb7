use Rattle.shared_repo.proofs.Lastings.{state_looked}
use Rattle.shared_repo.proofs.Made.{look_adds, look_ends}
use Rattle.shared_repo.proofs.Turning.{looked_turn}
use Rattle.shared_repo.proofs.turns.QuestionTurnRead.look_in.Goals as goal

pub returns-clause-turn : goal.returns-clause-turn
returns-clause-turn g c =
    let e = c.look-answer.ensures in
    let before = c.args.state.now in
    let after = c.look-answer.new.self in
    let replies = e.reply.2 in
    looked_turn c.args.who before after c.differ.result e.opening
    (look_adds before.header before.history after.history c.args.who _ e.reply.0 replies c.history_length.result c.history_length-before.result c.history_length.ensures.length c.history_length-before.ensures.length c.differ.result c.differ.ensures)
    e.sealed (state_looked before after e.opening e.sealed e.left e.sound e.kept e.leaves) (λ down. look_ends before.header before.history after.history c.args.who _ e.reply.0 replies)
