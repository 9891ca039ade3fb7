use Rattle.std.proofs.Common.{◌≡◌, ◌≤◌, ◌&&◌, ◌||◌, ℕ, suc, length, drop}
use Rattle.std.specs.Prelude.{option_map}
use Rattle.changeset_model.specs.Path.{Path}
use Rattle.bonsai.specs.View.{edits_view}
use Rattle.history_model.specs.Past.{Past}
use Rattle.fsnode.specs.Parts.{children_seen}
use Rattle.fsnode.specs.Views.{fsnode_seen}
use Rattle.manifest_store.specs.Brought.{AreBroughtFrom, AreAsDeep, AreEntries, is_brought, is_to_come, own}
use Rattle.manifest_store.proofs.Levels.{any_named}
use Rattle.manifest_store.proofs.brought.add_children.Given as goal

-- with the files under the names that are left, all come
abbrev pub invariant-loop-child : goal.invariant-loop-child
invariant-loop-child l = record {
  files : (past other : Past) → AreEntries past other (own l.dir.path) (option_map fsnode_seen l.first) (children_seen l.children) → (p : Path) →
      (is_to_come past other (edits_view l.decided.edits.now) l.come.items l.next.items p || (is_brought past other (edits_view l.decided.edits.now) p && any_named (own l.dir.path) (children_seen (drop l.child-index l.children)) p))
      ≡ (is_to_come past other (edits_view l.decided.edits.now) l.fn.come.items l.fn.next.items p || (is_brought past other (edits_view l.decided.edits.now) p && any_named (own l.dir.path) (children_seen l.children) p));
  directories : (past other : Past) → AreEntries past other (own l.dir.path) (option_map fsnode_seen l.first) (children_seen l.children) → AreBroughtFrom past other l.fn.next.items → AreBroughtFrom past other l.next.items;
  deeper : (n : ℕ) → n ≤ length (own l.dir.path) → AreAsDeep (suc n) l.fn.next.items → AreAsDeep (suc n) l.next.items;
}
