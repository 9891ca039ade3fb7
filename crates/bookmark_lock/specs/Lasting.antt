-- Of which seats the stored entries are that wait to be sealed.
--     entered log      the stored entries, with the numbers of the seats that made them
--     waiting_by who log n      how many of this seat there are past the first n of them
--     AreFew most log n      of each seat there are no more. The lead's number is also that of the entries with which the lock was made, so nothing is said of it
--     AreLast log n      there is one of each seat at most
use Rattle.std.specs.Prelude.{◌≡◌, ◌≢◌, ℕ, ◌<◌, ◌≤◌, List, drop, filter, length}
use mathlib.Core.Option.{some}
use lib.ListN.{get_elem?}
use Rattle.history_model.specs.History.{Entry, entries_by, is_stored}

abbrev pub entered : List Entry → List Entry
entered log = filter (λ (e : Entry). is_stored e.body) log

abbrev pub waiting_by : ℕ → List Entry → ℕ → ℕ
waiting_by who log n = length (entries_by who (drop n (entered log)))

pub record AreFew (most : ℕ) (log : List Entry) (n : ℕ) : Type 0 where
  pub few : (who : ℕ) → who ≢ 0 → waiting_by who log n ≤ most

pub record AreLast (log : List Entry) (n : ℕ) : Type 0 where
  pub apart : (i j : ℕ) (d e : Entry) → n ≤ i → i < j → get_elem? (entered log) i ≡ some d → get_elem? (entered log) j ≡ some e → e.who ≢ 0 → d.who ≢ e.who
