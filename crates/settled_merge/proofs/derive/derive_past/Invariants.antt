use Rattle.std.proofs.Common.{length}
use Rattle.manifest_store.specs.Manifests.{AreManifests}
use Rattle.settled_merge.specs.Settling.{StaySettled}
use Rattle.settled_merge.proofs.Deriving.{missing}
use Rattle.settled_merge.proofs.derive.derive_past.Given as goal

abbrev pub invariant-loop-job : goal.invariant-loop-job
invariant-loop-job l = record {
  manifests : AreManifests l.changesets.known l.manifests;
  stay : StaySettled l.initial.manifests l.manifests;
}

abbrev pub decreases-loop-job : goal.decreases-loop-job
decreases-loop-job l = missing l.manifests (length l.changesets.known)
