-- A seat that is served may cross to another thread, with F and P of the disk's syncs and second handles.
use denote.RattleType.{RattleType}
use denote.Ref.{NamedLft}
use denote.Param.Send.{IsSend, IsSync, sendable}
use Rattle.blob_disk.specs.declared.disk.Disk as disks
use Rattle.blob_disk.specs.declared.disk.Flush as flushes
use Rattle.blob_disk.specs.declared.disk.Peer as peers
use Rattle.ports.specs.contracts.gate.NoGate as NoGate
use Rattle.shared_repo.proofs.Sending.{repo_sync, seat_send}
use Rattle.shared_repo.specs.contracts.served.Served as Served

gate_sync : IsSync NoGate.the_row
gate_sync = search sendable depth 20

pub served_send : (l : NamedLft) (R D F P : RattleType) (d : disks.Ghosts D.Denot F.Denot P.Denot) (f : flushes.Ghosts F.Denot) (p : peers.Ghosts P.Denot) → IsSync R → IsSend D → IsSend (Served.the_row l R D NoGate.the_row F P d f p)
served_send l R D F P d f p r may = let seat = seat_send in let gate = gate_sync in let repo = repo_sync D F P d f p may in search sendable depth 20
