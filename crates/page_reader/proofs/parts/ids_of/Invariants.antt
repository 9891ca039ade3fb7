use Rattle.std.proofs.Common.{◌≡◌, List, map, take}
use Rattle.std.specs.List.{AllByRecursion}
use Rattle.serde_json.specs.View.{view}
use Rattle.byte_fields.specs.Bytes.{Id}
use Rattle.repo_text.specs.Spelling.{id_data}
use Rattle.page_reader.specs.Pages.{IsId}
use Rattle.page_reader.proofs.parts.ids_of.Given as goal

abbrev pub invariant-loop-value : goal.invariant-loop-value
invariant-loop-value l = record {
  found : (xs : List Id) → AllByRecursion IsId xs → map view l.values ≡ map id_data xs → l.ids.items ≡ take l.value-index xs;
  rule : AllByRecursion IsId l.ids.items;
}
