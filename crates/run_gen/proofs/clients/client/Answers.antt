use Rattle.run_gen.proofs.Runs.{never_begun}
use Rattle.run_gen.proofs.clients.client.Goals as goal

pub returns-in_default-clause-ran : goal.returns-in_default-clause-ran
returns-in_default-clause-ran g c = never_begun c.args.repo.now.opening.header c.args.seat.now.number c.args.seat.now.front c.args.number c.args.seed c.args.stacks c.requires.stacks
