-- The manifests of what was known before a payload are those of what is known after it.
use Rattle.std.proofs.Common.{◌≡◌, true, List, [], ◌∷◌, ℕ, sym, subst}
use Rattle.std.specs.Prelude.{Result, Ok, Err}
use Rattle.disk_model.specs.Meaning.{Meaning}
use Rattle.history_model.specs.History.{Entry, known, unnumbered}
use Rattle.history_model.specs.Journal.{Header, is_header}
use Rattle.reply_model.specs.Legal.{IsLegal}
use Rattle.node_table.specs.Table.{Table}
use Rattle.manifest_store.specs.Manifests.{AreManifests}
use Rattle.settled_merge.proofs.Known.{manifests_stay}
use Rattle.recovery.specs.declared.replay_fault.ReplayFault.{ReplayFault}
use Rattle.recovery.specs.declared.replay_fault.ReplayFault.TheVariants.{BadPayload, DiskFault, Memory}
use Rattle.recovery.specs.Entering.{Replays}

module _ (m : Meaning) (header : Header) (h : List Entry) (bytes : List ℕ) where
  same : (after : List Entry) (t : Table) → after ≡ h → AreManifests (known h) t → AreManifests (known after) t
  same after t is are = subst (λ g. AreManifests (known g) t) (sym is) are

  pub manifests_after : (r : Result (Unit {0}) ReplayFault) (after : List Entry) (t : Table) → is_header header ≡ true → Replays m header h bytes r after → IsLegal header after → AreManifests (known h) t → AreManifests (known after) t
  manifests_after (Ok done) after t limits e legal are =
      subst (λ g. AreManifests (known g) t) (sym e.4)
      (manifests_stay header h (unnumbered e.0 ∷ []) t limits (subst (IsLegal header) e.4 legal) are)
  manifests_after (Err BadPayload) after t limits e legal are = same after t e.1 are
  manifests_after (Err DiskFault) after t limits e legal are = same after t e are
  manifests_after (Err Memory) after t limits e legal are = same after t e are
