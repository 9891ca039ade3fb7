use Rattle.std.proofs.Common.{◌≡◌, ◌&&◌, ◌||◌, ℕ, suc, drop}
use Rattle.std.specs.List.{list_any}
use Rattle.changeset_model.specs.Path.{Path, is_strict_prefix}
use Rattle.bonsai.specs.View.{edits_view}
use Rattle.history_model.specs.Past.{Past}
use Rattle.manifest_store.specs.Brought.{HasBoth, AreBroughtFrom, AreAsDeep, is_brought, is_to_come, own}
use Rattle.manifest_store.proofs.brought.level_under.Given as goal

-- with the files in the directories that are left, all come
abbrev pub invariant-loop-dir : goal.invariant-loop-dir
invariant-loop-dir l = record {
  files : (past other : Past) → HasBoth l.table.nodes past other → AreBroughtFrom past other l.level → (p : Path) →
      (is_to_come past other (edits_view l.decided.edits.now) l.come.items l.next.items p || (is_brought past other (edits_view l.decided.edits.now) p && list_any (λ d. is_strict_prefix (own d.path) p) (drop l.dir-index l.level)))
      ≡ is_to_come past other (edits_view l.decided.edits.now) l.fn.come.items l.level p;
  directories : (past other : Past) → HasBoth l.table.nodes past other → AreBroughtFrom past other l.level → AreBroughtFrom past other l.next.items;
  deeper : (n : ℕ) → AreAsDeep n l.level → AreAsDeep (suc n) l.next.items;
}
