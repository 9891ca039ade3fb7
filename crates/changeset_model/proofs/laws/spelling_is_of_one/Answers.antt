use Rattle.changeset_model.proofs.Spelling.{one_spelling}
use Rattle.changeset_model.proofs.laws.spelling_is_of_one.Goals as goal

pub returns : goal.returns
returns c = one_spelling
