use Rattle.std.specs.Prelude.{◌≡◌, IsTrue}
use Rattle.history_model.specs.History.{known, stored}
use Rattle.history_model.specs.Journal.{is_header}
use Rattle.reply_model.specs.Legal.{IsLegal}
use Rattle.manifest_store.specs.Manifests.{AreManifests}
use Rattle.repository_tests.proofs.replays.enter_all.Given as goal

abbrev pub invariant-rows : goal.invariant-rows
invariant-rows g l = record {
  limits : IsTrue (is_header l.machine.header);
  legal : IsLegal l.machine.header l.machine.history;
  stored_is : l.machine.history ≡ stored l.machine.history;
  manifests : AreManifests (known l.machine.history) l.manifests;
}
