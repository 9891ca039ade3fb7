-- What is settled of known changesets, before and after a derivation.
--     StaySettled t u      what is settled in the one table is settled in the other
--     CollideAmong ks      two different nodes of known changesets have one digest
use Rattle.std.specs.Prelude.{◌≡◌, ℕ, true, List}
use Rattle.byte_fields.specs.Bytes.{Id}
use Rattle.history_model.specs.History.{Known}
use Rattle.reply_model.specs.After.{NodesCollide}
use Rattle.node_table.specs.Table.{Table, is_settled}

abbrev pub StaySettled : Table → Table → Type 0
StaySettled t u = (n : ℕ) → is_settled t n ≡ true → is_settled u n ≡ true

abbrev pub CollideAmong : List Known → Type 0
CollideAmong ks = (x : Id) × NodesCollide ks x
