use Rattle.std.proofs.Common.{◌≡◌, ◌&&◌, ◌||◌, ℕ, suc, drop}
use Rattle.std.specs.List.{list_any}
use Rattle.changeset_model.specs.Path.{Path, is_strict_prefix}
use Rattle.history_model.specs.Past.{Past}
use Rattle.manifest_store.specs.Moves.{HasPast, has_file}
use Rattle.manifest_store.specs.Levels.{AreDirectories, AreDeep, is_reached}
use Rattle.manifest_store.proofs.under.level_under.Given as goal

-- with the files in the directories that are left, all are reached
abbrev pub invariant-loop-dir : goal.invariant-loop-dir
invariant-loop-dir l = record {
  files : (past : Past) → HasPast l.table.nodes past → AreDirectories past l.level → (p : Path) →
      (is_reached past l.gone.items l.next.items p || (has_file past p && list_any (λ d. is_strict_prefix d.path p) (drop l.dir-index l.level))) ≡ is_reached past l.fn.gone.items l.level p;
  directories : (past : Past) → HasPast l.table.nodes past → AreDirectories past l.level → AreDirectories past l.next.items;
  deeper : (n : ℕ) → AreDeep n l.level → AreDeep (suc n) l.next.items;
}
