use Rattle.std.proofs.Common.{◌≡◌, ◌-◌, false}
use Rattle.disk_model.specs.Calls.{Looked}
use Rattle.history_model.specs.History.{known}
use Rattle.manifest_store.specs.Manifests.{AreManifests}
use Rattle.recovery.specs.Reading.{IsAt}
use Rattle.recovery.specs.Settling.{Spares}
use Rattle.recovery.proofs.records.enter_all.Given as goal

abbrev pub invariant-loop : goal.invariant-loop
invariant-loop g l = record {
  at : IsAt (g.D.Disk.meaning l.disk) l.machine.header l.machine.history l.scanner.gate l.scanner;
  manifests : AreManifests (known l.machine.history) l.manifests;
  header : l.machine.header ≡ l.fn.machine.header;
  looked : Looked (g.D.Disk.meaning l.fn.disk) (g.D.Disk.meaning l.disk);
  spares : Spares (g.D.Disk.meaning l.fn.disk) (g.D.Disk.meaning l.disk) false;
}

abbrev pub decreases-loop : goal.decreases-loop
decreases-loop g l = l.scanner.size - l.scanner.gate
