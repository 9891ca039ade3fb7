-- What was looked at of a chain.
--     HasLooked ks outer size ancestor last number least before now      from the last changeset down to this number: its least clash with the outer paths, and the steps that it took
use Rattle.std.specs.Prelude.{◌≡◌, ℕ, ◌+◌, ◌*◌, ◌^◌, ◌<◌, ◌≤◌, List, ◌++◌, length, Option}
use Rattle.changeset_model.specs.Path.{Path}
use Rattle.changeset_model.specs.Changeset.{Changeset}
use Rattle.history_model.specs.History.{Known}
use Rattle.changeset_store.specs.Fork.{IsAncestor, following_at}
use Rattle.path_conflict.specs.Best.{IsBest}
use Rattle.path_conflict.specs.declared.lesser.Met.{Met}
use Rattle.repo_machine.specs.Clashes.{edited_paths}

pub record HasLooked (ks : List Known) (outer : List Path) (size ancestor last number : ℕ) (least : Option Met) (before now : ℕ) : Type 0 where
  pub ancestor_is : IsAncestor ks ancestor number
  pub looked : List Changeset
  pub whole : following_at ks ancestor last ≡ following_at ks ancestor number ++ looked
  pub best : IsBest outer (edited_paths looked) least
  pub counted : before ≤ now
  pub cost : (digits : ℕ) → size < 2 ^ digits → now ≤ before + (digits + 3) * length (edited_paths looked)
