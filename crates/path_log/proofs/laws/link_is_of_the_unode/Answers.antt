use Rattle.path_log.proofs.Logs.{last_is_linknode}
use Rattle.path_log.proofs.laws.link_is_of_the_unode.Goals as goal

pub returns : goal.returns
returns c = last_is_linknode
