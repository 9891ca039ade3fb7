use Rattle.landing_core.proofs.Reached.{keep_numbers}
use Rattle.landing_core.proofs.core_laws.sealed_entries_keep_their_numbers.Goals as goal

pub returns : goal.returns
returns c = keep_numbers
