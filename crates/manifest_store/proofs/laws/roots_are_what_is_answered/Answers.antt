use Rattle.manifest_store.proofs.Answered.{answered}
use Rattle.manifest_store.proofs.laws.roots_are_what_is_answered.Goals as goal

pub returns : goal.returns
returns c = λ header h x n roots e is. answered header h x n roots e is
