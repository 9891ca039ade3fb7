-- Pasts, of which a store has the numbers.
--     past_at ks n      the past of the changeset of a number;  past_at_some ks o      the same of a number that may be absent
use Rattle.std.specs.Prelude.{ℕ, List, Option}
use Rattle.std.specs.Option.{option_map_or}
use Rattle.history_model.specs.History.{Known}
use Rattle.history_model.specs.Past.{Past, Begin, past}
use Rattle.changeset_store.specs.Store.{known_at}

abbrev pub past_at : List Known → ℕ → Past
past_at ks n = past ks (known_at ks n).id

abbrev pub past_at_some : List Known → Option ℕ → Past
past_at_some ks o = option_map_or (past_at ks) o Begin
