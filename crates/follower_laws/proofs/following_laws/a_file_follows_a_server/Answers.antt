use Rattle.follower_laws.proofs.Files.{file_ends, file_images, file_stays}
use Rattle.follower_laws.proofs.following_laws.a_file_follows_a_server.Goals as goal

pub returns-clause-ends : goal.returns-clause-ends
returns-clause-ends c = file_ends

pub returns-clause-images : goal.returns-clause-images
returns-clause-images c = file_images

pub returns-clause-stays : goal.returns-clause-stays
returns-clause-stays c = file_stays
