-- The ends of a channel, and a feed, may cross to another thread, as fields of what has them. Each lemma is of one type by those of its parts.
use denote.Param.Send.{IsSend, IsSync, sendable}
use Rattle.std.proofs.Crossing.{crosses}
use Rattle.crossbeam_channel.specs.contracts.channel.Shared as Shared
use Rattle.crossbeam_channel.specs.contracts.channel.Receiver as Receiver
use Rattle.object_id.specs.contracts.id.Id as Id
use Rattle.std.specs.contracts.alloc.Global as Heap
use Rattle.std.specs.contracts.impls.GlobalAllocator.TheImpl.{ghosts}
use Rattle.derive_pool.specs.contracts.channel.IdsTo as IdsTo
use Rattle.derive_pool.specs.contracts.channel.IdsFrom as IdsFrom
use Rattle.derive_pool.specs.contracts.feed.Feed as Feed

pub to_send : IsSend (IdsTo.the_field).row
to_send = search (crosses, sendable) depth 60

shared_send : IsSend (Shared.the_row Id.the_row Heap.the_row ghosts)
shared_send = search (crosses, sendable) depth 60

shared_sync : IsSync (Shared.the_row Id.the_row Heap.the_row ghosts)
shared_sync = search (crosses, sendable) depth 60

receiver_send : IsSend (Receiver.the_row Id.the_row Heap.the_row ghosts)
receiver_send = search (shared_send, shared_sync, crosses, sendable) depth 60

pub from_send : IsSend (IdsFrom.the_field).row
from_send = let r = receiver_send in search sendable depth 20

pub feed_send : IsSend Feed.the_row
feed_send = search (to_send, sendable) depth 20
