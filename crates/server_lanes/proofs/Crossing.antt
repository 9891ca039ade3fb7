-- What a lane has may cross to another thread, and what a deriver has, with F and P of the disk's syncs and second handles. Each lemma is of one type by those of its parts, since one search through all of them runs out of steps.
use denote.RattleType.{RattleType}
use denote.Ref.{NamedLft}
use denote.Param.Send.{IsSend, IsSync, sendable}
use Rattle.std.proofs.Crossing.{crosses}
use Rattle.std.proofs.sync.ledger.Share.TheSendSync as shares
use Rattle.std.specs.declared.sync.ledger.Ledger as ledgers
use Rattle.blob_disk.specs.declared.disk.Disk as disks
use Rattle.blob_disk.specs.declared.disk.Flush as flushes
use Rattle.blob_disk.specs.declared.disk.Peer as peers
use Rattle.ports.specs.declared.link.Link as links
use Rattle.derive_pool.proofs.Sending.{feed_send, from_send}
use Rattle.shared_repo.proofs.Sending.{repo_sync, seat_send}
use Rattle.std.specs.contracts.option.Option as Option
use Rattle.derive_pool.specs.contracts.feed.Feed as Feed
use Rattle.server_lanes.specs.contracts.bounded.Bounded as Bounded
use Rattle.server_lanes.specs.contracts.feeding.Fed as Fed
use Rattle.server_lanes.specs.contracts.feeding.Feeding as Feeding
use Rattle.server_lanes.specs.contracts.permits.Bounds as Bounds
use Rattle.server_lanes.specs.contracts.permits.Permits as Permits
use Rattle.server_lanes.specs.contracts.deriving_seat.DerivingSeat as DerivingSeat
use Rattle.server_lanes.specs.contracts.derivers.Deriver as Deriver
use Rattle.shared_repo.specs.contracts.served.Served as Served
use Rattle.http_front.specs.contracts.connection.ServedLinks as Links
use Rattle.server_lanes.specs.declared.run.Run as runs
use Rattle.server_lanes.specs.contracts.tally.Tally as Tally
use Rattle.server_lanes.specs.contracts.lane.Lane as Lane

pub served_send : (l : NamedLft) (R D G F P : RattleType) (d : disks.Ghosts D.Denot F.Denot P.Denot) (f : flushes.Ghosts F.Denot) (p : peers.Ghosts P.Denot) → IsSync R → IsSend D → IsSync G → IsSend (Served.the_row l R D G F P d f p)
served_send l R D G F P d f p r may gate = let seat = seat_send in let repo = repo_sync D F P d f p may in search sendable depth 20

pub links_send : (L : RattleType) → IsSend L → IsSend (Links.the_row L)
links_send L may = search (crosses, sendable) depth 20

pub feeds_send : IsSend (Option.the_field Feed.the_row).row
feeds_send = let f = feed_send in search sendable depth 20

pub fed_send : IsSend Fed.the_row
fed_send = let f = feeds_send in search sendable depth 20

pub feeding_sync : IsSync Feeding.the_row
feeding_sync = let f = fed_send in search (crosses, sendable) depth 20

pub permits_sync : IsSync (Permits.the_field).row
permits_sync = search (crosses, sendable) depth 60

pub bounds_sync : IsSync Bounds.the_row
bounds_sync = let p = permits_sync in search sendable depth 20

pub bounded_send : (l : NamedLft) (R T : RattleType) → IsSync R → IsSend T → IsSend (Bounded.the_row l R T)
bounded_send l R T r may = let b = bounds_sync in search sendable depth 20

pub deriving_send : (l : NamedLft) (R D F P : RattleType) (d : disks.Ghosts D.Denot F.Denot P.Denot) (f : flushes.Ghosts F.Denot) (p : peers.Ghosts P.Denot) → IsSync R → IsSend D → IsSend (DerivingSeat.the_row l R D F P d f p)
deriving_send l R D F P d f p r may = let seat = seat_send in let repo = repo_sync D F P d f p may in search sendable depth 20

pub deriver_send : (l : NamedLft) (R D F P : RattleType) (d : disks.Ghosts D.Denot F.Denot P.Denot) (f : flushes.Ghosts F.Denot) (p : peers.Ghosts P.Denot) → IsSync R → IsSend D → IsSend (Deriver.the_row l R D F P d f p)
deriver_send l R D F P d f p r may = let seat = deriving_send l R D F P d f p r may in let ids = from_send in search sendable depth 20

module _ (L K E : RattleType) (l : links.Ghosts L.Denot) (r : runs.Ghosts K.Denot) (k : ledgers.Ghosts K.Denot) (e : ledgers.Ghosts E.Denot) (may_l : IsSend L) (may_k : IsSend K) (may_e : IsSend E) where
  pub tally_send : IsSend (Tally.the_row L K E l r k e)
  tally_send = let served = links_send L may_l in search (shares.the_send, sendable) depth 20

  pub lane_send : (life : NamedLft) (R D G F P : RattleType) (d : disks.Ghosts D.Denot F.Denot P.Denot) (f : flushes.Ghosts F.Denot) (p : peers.Ghosts P.Denot) → IsSync R → IsSend D → IsSync G → IsSend (Lane.the_row life R D G L K E F P d f p l r k e)
  lane_send life R D G F P d f p rt may gate = let seat = bounded_send life R (Served.the_row life R D G F P d f p) rt (served_send life R D G F P d f p rt may gate) in let tally = tally_send in let feeding = feeding_sync in search sendable depth 20
