use denote.Ref.{NamedLft}
use denote.Param.{param}
use denote.Param.Send.{param_send, arg_send}
use Rattle.server_lanes.proofs.Crossing.{deriver_send, lane_send}
use Rattle.server_lanes.proofs.crew.run_crew.Goals as goal

pub for_each_of_both-requires-send-X : goal.for_each_of_both-requires-send-X
for_each_of_both-requires-send-X g c κs within =
    let deriver = λ (life : NamedLft). deriver_send life _ _ (param 8 g.row.D-Flush) (param 9 g.row.D-Peer) g.D.Disk g.D.Flush.Flush g.D.Peer.Peer c.type_bounds.sync-R c.type_bounds.send-D in
    search (deriver, param_send, arg_send) depth 10

pub for_each_of_both-requires-send-Y : goal.for_each_of_both-requires-send-Y
for_each_of_both-requires-send-Y g c κs within =
    let lane = λ (life : NamedLft). lane_send _ _ _ g.L.Link g.K.Run g.K.Ledger g.E.Ledger c.type_bounds.send-L c.type_bounds.send-K c.type_bounds.send-E life _ _ _ (param 8 g.row.D-Flush) (param 9 g.row.D-Peer) g.D.Disk g.D.Flush.Flush g.D.Peer.Peer c.type_bounds.sync-R c.type_bounds.send-D c.type_bounds.sync-G in
    search (lane, param_send, arg_send) depth 10
