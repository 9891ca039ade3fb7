use Rattle.std.proofs.Common.{◌≡◌, ◌<◌, length, map, drop, take, vec_len, vec_capacity}
use Rattle.ancestry.specs.Forest.{line}
use Rattle.changeset_store.specs.Store.{changeset_at}
use Rattle.std.specs.Arc.{arc_value}
use Rattle.changeset_store.proofs.store.ChangesetStore.following_shared.Given as goal

abbrev pub invariant-loop : goal.invariant-loop
invariant-loop l = record {
  known : l.number < length l.self-inside.chain.parents;
  left : line l.self-inside.chain.parents l.number ≡ drop l.counter (line l.self-inside.chain.parents l.last);
  taken : map arc_value l.found.items ≡ map (changeset_at l.self.known) (take l.counter (line l.self-inside.chain.parents l.last));
  size : vec_len l.found ≡ l.counter;
  room : vec_capacity l.found ≡ l.count;
}
