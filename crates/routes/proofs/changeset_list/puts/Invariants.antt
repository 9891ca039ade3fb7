use Rattle.std.proofs.Common.{◌≡◌, ◌<◌, length, take}
use Rattle.std.specs.Prelude.{vec_len, vec_capacity}
use Rattle.stacked_calls.specs.Stacking.{calls_seen}
use Rattle.session_model.specs.Stacks as model
use Rattle.routes.specs.Listed.{changesets_seen}
use Rattle.routes.proofs.changeset_list.puts.Given as goal

abbrev pub invariant-loop-changeset : goal.invariant-loop-changeset
invariant-loop-changeset l = record {
  calls : calls_seen l.asks.items ≡ model.puts (changesets_seen (take l.changeset-index l.changesets));
  len : vec_len l.asks ≡ l.changeset-index;
  room : length l.changesets < vec_capacity l.asks;
}
