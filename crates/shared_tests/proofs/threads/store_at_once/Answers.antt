use denote.Ref.{NamedLft}
use denote.Param.{param}
use denote.Param.Send.{param_send, arg_send}
use Rattle.shared_tests.proofs.Crossing.{served_send}
use Rattle.shared_tests.proofs.threads.store_at_once.Goals as goal

pub work_all-requires-send-S : goal.work_all-requires-send-S
work_all-requires-send-S g c κs within =
    let served = λ (life : NamedLft). served_send life _ _ (param 2 g.row.D-Flush) (param 3 g.row.D-Peer) g.D.Disk g.D.Flush.Flush g.D.Peer.Peer c.type_bounds.sync-R c.type_bounds.send-D in
    search (served, param_send, arg_send) depth 10
