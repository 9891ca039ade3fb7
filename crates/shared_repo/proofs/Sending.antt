-- A repository that seats share may be shared among threads where its disk may cross to another, and so may a seat.
--     Each lemma is of one type by those of its parts, since one search through all of them runs out of steps.
use denote.RattleType.{RattleType}
use denote.Param.Send.{IsSend, IsSync, sendable}
use Rattle.std.proofs.Crossing as own
use Rattle.std.proofs.MapsCrossing as maps
use Rattle.blob_disk.specs.declared.disk.Disk as disks
use Rattle.blob_disk.specs.declared.disk.Flush as flushes
use Rattle.blob_disk.specs.declared.disk.Peer as peers
use Rattle.bonsai.specs.contracts.commit.Commit as Commit
use Rattle.changeset_store.specs.contracts.store.ChangesetStore as Store
use Rattle.node_parts.specs.contracts.part.Part as Part
use Rattle.node_parts.specs.contracts.pool.PartPool as Pool
use Rattle.wide_node.specs.contracts.wide.WideNode as Wide
use Rattle.node_table.specs.contracts.stored.Stored as Stored
use Rattle.node_table.specs.contracts.store.Store as Nodes
use Rattle.node_table.specs.contracts.root_table.RootTable as Roots
use Rattle.node_table.specs.contracts.table.NodeTable as NodeTable
use Rattle.manifest_store.specs.contracts.store.ManifestStore as Manifests
use Rattle.repo_journal.specs.contracts.journal.Journal as Journal
use Rattle.repo_machine.specs.contracts.machine.Machine as Machine
use Rattle.repo_machine.specs.contracts.records.Entry as Entry
use Rattle.repo_machine.specs.contracts.held_rules.HeldRules as HeldRules
use Rattle.std.specs.contracts.snapshot.Snapshot as Snapshot
use Rattle.repo_state.specs.contracts.state.RepoState as State
use Rattle.shared_repo.specs.contracts.repo.Repo as Repo
use Rattle.shared_repo.specs.contracts.seat.RepoSeat as RepoSeat
use Rattle.atomic_table.proofs.badge.Badge.TheSendSync as badges
use Rattle.bookmark_lock.specs.contracts.lock.TurnLock as Lock
use Rattle.bookmark_lock.specs.contracts.seat.Seat as Inner
use Rattle.bookmark_lock.specs.declared.value.Recorded as recorded
use Rattle.atomic_table.proofs.shared.Shared.TheSendSync as shares
use Rattle.atomic_table.proofs.send_lease.SendLease.TheSendSync as leases
use Rattle.atomic_table.specs.declared.shared.TableRule as rules
use Rattle.atomic_table.specs.contracts.owned.Table as Table
use Rattle.std.specs.contracts.option.Option as Option
use Rattle.std.specs.contracts.alloc.Global as Heap
use Rattle.std.specs.contracts.impls.GlobalAllocator.TheImpl.{ghosts}

pub commit_send : IsSend Commit.the_row
commit_send = search (own.crosses, sendable) depth 60 fits 20000

pub commit_sync : IsSync Commit.the_row
commit_sync = search (own.crosses, sendable) depth 60 fits 20000

pub store_send : IsSend Store.the_row
store_send = search (commit_send, commit_sync, own.crosses, maps.crosses, sendable) depth 60

pub entry_send : IsSend Entry.the_row
entry_send = search (own.crosses, sendable) depth 60 fits 20000

pub held_send : IsSend HeldRules.the_row
held_send = search (own.crosses, maps.crosses, sendable) depth 60 fits 20000

pub machine_send : IsSend Machine.the_row
machine_send = search (store_send, entry_send, held_send, own.crosses, maps.crosses, sendable) depth 60 fits 20000

pub journal_send : IsSend Journal.the_row
journal_send = search (own.crosses, sendable) depth 60

pub part_send : IsSend Part.the_row
part_send = search (own.crosses, sendable) depth 60

pub pool_send : IsSend Pool.the_row
pool_send = let p = part_send in search (own.crosses, maps.crosses, sendable) depth 60

pub wide_send : IsSend Wide.the_row
wide_send = let p = part_send in search (own.crosses, sendable) depth 60

pub stored_send : IsSend Stored.the_row
stored_send = let w = wide_send in search (own.crosses, sendable) depth 60

pub nodes_send : IsSend Nodes.the_row
nodes_send = let s = stored_send in let p = pool_send in search (own.crosses, maps.crosses, sendable) depth 60

pub roots_send : IsSend Roots.the_row
roots_send = search (own.crosses, maps.crosses, sendable) depth 60

pub node_table_send : IsSend NodeTable.the_row
node_table_send = let n = nodes_send in let r = roots_send in search (own.crosses, sendable) depth 60

pub manifests_send : IsSend Manifests.the_row
manifests_send = let t = node_table_send in search sendable depth 20

pub table_sync : (S V K P : RattleType) (g : rules.Ghosts P.Denot S.Denot V.Denot K.Denot) → IsSend S → IsSync (Table.the_field S V K P Heap.the_row g ghosts).row
table_sync S V K P g s = let h = own.send in let y = own.sync in let f = own.frees in let a = shares.the_sync S V K P g s in search (leases.the_sync, sendable) depth 20

pub option_send : (T : RattleType) → IsSend T → IsSend (Option.the_row T)
option_send T s = search sendable depth 20

pub lock_sync : (T : RattleType) (g : recorded.Ghosts T.Denot) → IsSend T → IsSync (Lock.the_row T g)
lock_sync T g s = let o = option_send T s in search (table_sync, sendable) depth 20

-- of a disk, its syncs and its second handles, of which it keeps none
module _ (D F P : RattleType) (disk : disks.Ghosts D.Denot F.Denot P.Denot) (flush : flushes.Ghosts F.Denot) (peer : peers.Ghosts P.Denot) (may : IsSend D) where
  pub snapshot_send : IsSend (Snapshot.the_row D)
  snapshot_send = search (own.crosses, sendable) depth 60

  pub state_send : IsSend (State.the_row D F P disk)
  state_send = let m = machine_send in let j = journal_send in let s = snapshot_send in let t = manifests_send in search (own.crosses, sendable) depth 60

  pub repo_sync : IsSync (Repo.the_row D F P disk flush peer)
  repo_sync = let s = state_send in search (lock_sync, sendable) depth 20

-- a seat of the lock, and one of the repository
inner_send : IsSend Inner.the_row
inner_send = search (badges.the_send, sendable) depth 30

pub seat_send : IsSend RepoSeat.the_row
seat_send = let i = inner_send in search sendable depth 20
