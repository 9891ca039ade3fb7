-- What an index of touched paths has of the known changesets.
--     Covers index ks      of those with numbers below, each with what it touches
--     is_in_chain ks last n      the changeset n is in the chain of the last
use Rattle.std.specs.Prelude.{◌≡◌, ℕ, ◌<◌, ◌≤◌, Bool, true, ◌&&◌, nat_lt, List, length, map}
use Rattle.std.specs.List.{All}
use Rattle.history_model.specs.History.{Known, is_known}
use Rattle.changeset_store.specs.Store.{known_at, changeset_at}
use Rattle.changeset_store.specs.Fork.{chain_at}
use Rattle.touch_index.specs.declared.index.TouchIndex.{TouchIndex}
use Rattle.touch_index.specs.Index.{Has}

pub record Covers (index : TouchIndex) (ks : List Known) : Type 0 where
  pub within : index.indexed ≤ length ks
  pub touched : (n : ℕ) → n < index.indexed → All (Has index n) (map (λ e. e.0) (changeset_at ks n).changes)

abbrev pub is_in_chain : List Known → ℕ → ℕ → Bool
is_in_chain ks last n = nat_lt last (length ks) && (nat_lt n (length ks) && is_known (chain_at ks last) (known_at ks n).id)
