use Rattle.changeset_store.proofs.store.ChangesetStore.is_ancestor.Given as goal

abbrev pub ghosts-is_ancestor_uncounted : goal.ghosts-is_ancestor_uncounted
ghosts-is_ancestor_uncounted a = record { name = a.blank.name; parts = a.blank.parts }
