use Rattle.std.proofs.Common.{◌≡◌, drop, map}
use Rattle.history_model.specs.History.{with_id}
use Rattle.reply_model.specs.Reply.{collides}
use Rattle.changeset_store.specs.Grown.{IsAlone}
use Rattle.changeset_store.specs.Shared.{values}
use Rattle.changeset_store.proofs.collisions.is_other_among.Given as goal

-- what those that are left tell, all of them tell
abbrev pub invariant-before-2 : goal.invariant-before-2
invariant-before-2 l = record {
  found : collides (map with_id (drop l.earlier-index (values l.before))) l.commit ≡ collides (map with_id (values l.before)) l.commit;
  alone : IsAlone (map with_id (drop l.earlier-index (values l.before))) l.commit → IsAlone (map with_id (values l.before)) l.commit;
}
