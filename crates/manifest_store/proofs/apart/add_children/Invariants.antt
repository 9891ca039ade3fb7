use Rattle.std.proofs.Common.{◌≡◌, ◌⊎◌, ◌≤◌, ℕ, suc, true, length, drop}
use Rattle.changeset_model.specs.Path.{Path, is_path}
use Rattle.manifest_store.specs.Apart.{AreGrown, IsReached, LieDeep, are_apart_at}
use Rattle.manifest_store.specs.Reads.{dir_of}
use Rattle.manifest_store.proofs.Named.{is_at_some}
use Rattle.manifest_store.proofs.apart.add_children.Given as goal

abbrev pub invariant-loop-child : goal.invariant-loop-child
invariant-loop-child l = record {
  grown : AreGrown l.table.nodes l.fn.first l.fn.second l.fn.next.items l.first l.second l.next.items;
  under : (d : Path) → is_path d ≡ true → are_apart_at l.table.nodes l.fn.first l.fn.second d ≡ true → is_at_some (dir_of l.dir) l.child-items d ≡ true → IsReached l.table.nodes l.first l.second l.next.items d ⊎ (is_at_some (dir_of l.dir) (drop l.child-index l.child-items) d ≡ true);
  deeper : (n : ℕ) → n ≤ length (dir_of l.dir) → LieDeep (suc n) l.fn.next.items → LieDeep (suc n) l.next.items;
}
