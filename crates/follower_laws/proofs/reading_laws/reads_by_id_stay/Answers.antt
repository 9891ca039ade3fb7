use Rattle.follower_laws.proofs.ById.{stays}
use Rattle.follower_laws.proofs.reading_laws.reads_by_id_stay.Goals as goal

pub returns : goal.returns
returns c = stays
