use Rattle.disk_model.proofs.Crashes.{still_image}
use Rattle.disk_model.proofs.laws.writes_keep_images.Goals as goal

pub returns : goal.returns
returns c = still_image
