-- What the type of changesets keeps.
--     IsKept c      the fields keep their rules, and no set path lies under another
use Rattle.std.specs.Prelude.{◌≡◌, true, None}
use Rattle.changeset_model.specs.Changeset.{Changeset, is_changeset, self_conflict}

pub record IsKept (c : Changeset) : Type 0 where
  pub rules : is_changeset c ≡ true
  pub apart : self_conflict c ≡ None
