use denote.Param.{param}
use denote.Param.Send.{sendable}
use Rattle.std.proofs.Crossing.{crosses}
use Rattle.shared_repo.proofs.Sending.{repo_sync}
use Rattle.run_gen.proofs.crew.run_all.Goals as goal

pub map_vec-requires-sync-F : goal.map_vec-requires-sync-F
map_vec-requires-sync-F g c κs within =
    let rt = c.type_bounds.sync-R in
    let repo = repo_sync _ (param 2 g.row.D-Flush) (param 3 g.row.D-Peer) g.D.Disk g.D.Flush.Flush g.D.Peer.Peer c.type_bounds.send-D in
    search (crosses, sendable) depth 30
