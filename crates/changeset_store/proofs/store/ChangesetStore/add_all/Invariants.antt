use Rattle.std.proofs.Common.{◌≡◌, ◌≤◌, ◌<◌, ◌+◌, ◌++◌, length, map}
use Rattle.std.specs.List.{AllByRecursion}
use Rattle.std.specs.Vec.{vec_len, vec_capacity}
use Rattle.std.specs.Vec.Iter.{into_iter_items, into_iter_len}
use Rattle.changeset_store.specs.Store.{changeset_at}
use Rattle.changeset_store.specs.Grown.{adding, CanAdd}
use Rattle.changeset_store.specs.Shared.{values}
use Rattle.changeset_store.proofs.store.ChangesetStore.add_all.Given as goal

-- what is added and what is left make all of it
abbrev pub invariant-loop-commit : goal.invariant-loop-commit
invariant-loop-commit l = record {
  known : adding l.self.known (values (into_iter_items l.rest)) ≡ adding l.fn.self.known (values l.fn.new.items);
  can : CanAdd l.self.known (values (into_iter_items l.rest));
  room : length (into_iter_items l.rest) ≤ l.self.room;
  capacity : vec_len l.numbers + length (into_iter_items l.rest) ≤ vec_capacity l.numbers;
  numbers : map (changeset_at l.self.known) l.numbers.items ++ values (into_iter_items l.rest) ≡ (values l.fn.new.items);
  within : AllByRecursion (λ n. n < length l.self.known) l.numbers.items;
}

abbrev pub decreases-loop-commit : goal.decreases-loop-commit
decreases-loop-commit l = into_iter_len l.rest
