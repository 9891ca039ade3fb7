-- Known changesets by their numbers, as a store of changesets keeps them.
--     IsStore ks      each stands under its id, and once, after its parents if it has any, and they can be numbered
use Rattle.std.specs.Prelude.{◌≡◌, ◌≤◌, List, length, map, reverse}
use Rattle.history_model.specs.History.{Known, with_id, each_id_once}
use Rattle.history_model.specs.Chain.{HasParents, changesets}
use Rattle.changeset_store.specs.declared.store.TheConstants.{MOST_CHANGESETS}

pub record IsStore (ks : List Known) : Type 0 where
  pub ids : map with_id (changesets ks) ≡ ks
  pub once : each_id_once ks ≡ ks
  pub parents : HasParents (reverse ks)
  pub few : length ks ≤ MOST_CHANGESETS
