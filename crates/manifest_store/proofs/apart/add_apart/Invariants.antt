use Rattle.std.proofs.Common.{◌≡◌, suc, true, []}
use Rattle.changeset_model.specs.Path.{Path, is_path}
use Rattle.manifest_store.specs.Apart.{AreGrown, IsReached, LieDeep, are_apart_at}
use Rattle.manifest_store.proofs.apart.add_apart.Given as goal

-- what isn't gathered yet lies under the directories of this level
abbrev pub invariant-loop : goal.invariant-loop
invariant-loop l = record {
  grown : AreGrown l.table.nodes l.fn.first l.fn.second [] l.first l.second l.level.items;
  deep : LieDeep (suc l.counter) l.level.items;
  reached : (d : Path) → is_path d ≡ true → are_apart_at l.table.nodes l.fn.first l.fn.second d ≡ true → IsReached l.table.nodes l.first l.second l.level.items d;
}
