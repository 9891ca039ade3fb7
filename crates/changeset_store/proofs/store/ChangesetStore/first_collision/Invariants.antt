use Rattle.std.proofs.Common.{◌≡◌, take, drop}
use Rattle.reply_model.specs.Reply.{first_collision}
use Rattle.changeset_store.specs.Grown.{AreAlone, with_known}
use Rattle.changeset_store.specs.Shared.{values}
use Rattle.changeset_store.proofs.store.ChangesetStore.first_collision.Given as goal

-- what those that are left tell, all of them tell
abbrev pub invariant-new : goal.invariant-new
invariant-new l = record {
  found : first_collision (with_known l.self.known (take l.i (values l.new))) (drop l.i (values l.new)) ≡ first_collision l.self.known (values l.new);
  alone : AreAlone (with_known l.self.known (take l.i (values l.new))) (drop l.i (values l.new)) → AreAlone l.self.known (values l.new);
}
