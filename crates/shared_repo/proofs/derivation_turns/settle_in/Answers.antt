use Rattle.shared_repo.proofs.Derivations.{still_below}
use Rattle.shared_repo.proofs.derivation_turns.settle_in.Goals as goal

pub settle-requires-clause-known : goal.settle-requires-clause-known
settle-requires-clause-known g c = still_below c.args.state.now.history c.args.done c.requires.derived
