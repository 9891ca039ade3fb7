use Rattle.manifest_store.proofs.store.ManifestStore.left_unresolved.Given as goal

abbrev pub ghosts-left_uncounted : goal.ghosts-left_uncounted
ghosts-left_uncounted a = record { name = a.blank.name; parts = a.blank.parts }
