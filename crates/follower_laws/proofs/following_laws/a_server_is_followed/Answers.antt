use Rattle.follower_laws.proofs.Files.{followed_well}
use Rattle.follower_laws.proofs.following_laws.a_server_is_followed.Goals as goal

pub returns : goal.returns
returns c = followed_well
