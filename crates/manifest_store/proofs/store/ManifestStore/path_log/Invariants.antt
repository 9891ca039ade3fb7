use Rattle.manifest_store.proofs.store.ManifestStore.path_log.Given as goal

abbrev pub ghosts-path_log_uncounted : goal.ghosts-path_log_uncounted
ghosts-path_log_uncounted a = record { name = a.blank.name; parts = a.blank.parts }
