-- Seats' numbers.
--     cleared h      the same entries with the number 0, as if they were read from a file
--     unseated e, all_unseated es      the machine's entries so
use Rattle.std.specs.Prelude.{List, map}
use Rattle.history_model.specs.History as model
use Rattle.history_model.specs.History.{unnumbered}
use Rattle.repo_machine.specs.declared.records.Entry.{Entry}

abbrev pub cleared : List model.Entry → List model.Entry
cleared h = map (λ e. unnumbered e.body) h

abbrev pub unseated : Entry → Entry
unseated e = record { who = 0; «record» = e.record }

abbrev pub all_unseated : List Entry → List Entry
all_unseated es = map unseated es
