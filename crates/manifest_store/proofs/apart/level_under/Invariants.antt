use Rattle.std.proofs.Common.{◌≡◌, ◌⊎◌, ℕ, suc, true, [], drop}
use Rattle.changeset_model.specs.Path.{Path, is_path}
use Rattle.manifest_store.specs.Apart.{AreGrown, IsReached, LieDeep, are_apart_at, is_under}
use Rattle.manifest_store.proofs.apart.level_under.Given as goal

abbrev pub invariant-loop-dir : goal.invariant-loop-dir
invariant-loop-dir l = record {
  grown : AreGrown l.table.nodes l.fn.first l.fn.second [] l.first l.second l.next.items;
  under : (d : Path) → is_path d ≡ true → are_apart_at l.table.nodes l.fn.first l.fn.second d ≡ true → is_under l.level d ≡ true → IsReached l.table.nodes l.first l.second l.next.items d ⊎ (is_under (drop l.dir-index l.level) d ≡ true);
  deeper : (n : ℕ) → LieDeep n l.level → LieDeep (suc n) l.next.items;
}
