use Rattle.std.proofs.Common.{◌≡◌, map, ap, ◌∙◌}
use Rattle.serde_json.specs.Data.{array}
use Rattle.serde_json.specs.Find.{as_array}
use Rattle.serde_json.specs.View.{view, items_of, items_view}
use Rattle.page_reader.proofs.Loops.{items_same}
use Rattle.page_reader.proofs.parts.items_at.Goals as goal

pub returns-in-Some-as_array : goal.returns-in-Some-as_array
returns-in-Some-as_array c = λ ds same.
    let part : view c.in-Some.part.now ≡ array (items_of ds) = (let all = c.in-Some.ensures ∙ same in cc) in
    let items : items_view c.in-Some-as_array.items.now.items ≡ items_of ds = (let all = c.in-Some-as_array.ensures ∙ ap as_array part in cc) in
    ap (map view) c.as_slice.ensures.value ∙ items_same (map view c.in-Some-as_array.items.now.items) ds items
