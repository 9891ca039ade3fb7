use Rattle.opening_laws.proofs.Sizes.{history_fits}
use Rattle.opening_laws.proofs.laws.legal_histories_fit.Goals as goal

pub returns : goal.returns
returns c = history_fits
