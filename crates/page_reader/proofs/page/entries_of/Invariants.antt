use Rattle.std.proofs.Common.{◌≡◌, ℕ, List, map, take}
use Rattle.std.specs.List.{AllByRecursion}
use Rattle.serde_json.specs.View.{view}
use Rattle.reply_model.specs.Log.{LogLine}
use Rattle.repo_calls.specs.Calls.{lines_seen}
use Rattle.page_reader.specs.Pages.{IsTold}
use Rattle.page_reader.specs.Values.{lines_data}
use Rattle.page_reader.proofs.page.entries_of.Given as goal

abbrev pub invariant-loop-value : goal.invariant-loop-value
invariant-loop-value l = record {
  found : (from : ℕ) (lines : List LogLine) → AllByRecursion IsTold lines → map view l.values ≡ lines_data from lines → lines_seen l.entries.items ≡ take l.value-index lines;
  told : AllByRecursion IsTold (lines_seen l.entries.items);
}
