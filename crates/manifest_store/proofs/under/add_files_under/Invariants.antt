use Rattle.std.proofs.Common.{◌≡◌, ◌&&◌, ◌||◌}
use Rattle.changeset_model.specs.Path.{Path, is_strict_prefix}
use Rattle.history_model.specs.Past.{Past}
use Rattle.deleted_step.specs.Steps.{is_among}
use Rattle.manifest_store.specs.Moves.{HasPast, IsDirectory, has_file}
use Rattle.manifest_store.specs.Levels.{AreDirectories, AreDeep, is_reached}
use Rattle.manifest_store.proofs.under.add_files_under.Given as goal

-- with the files under this level's directories, all are reached
abbrev pub invariant-loop : goal.invariant-loop
invariant-loop l = record {
  files : (past : Past) → HasPast l.table.nodes past → IsDirectory past l.dir l.id → (p : Path) →
      is_reached past l.gone.items l.level.items p ≡ (is_among p l.fn.gone.items || (has_file past p && is_strict_prefix l.dir p));
  directories : (past : Past) → HasPast l.table.nodes past → IsDirectory past l.dir l.id → AreDirectories past l.level.items;
  deep : AreDeep l.counter l.level.items;
}
