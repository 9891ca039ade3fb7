use Rattle.std.proofs.Common.{codes, ap}
use Rattle.serde_json.specs.Find.{get}
use Rattle.page_reader.specs.Values.{lines_data}
use Rattle.page_reader.proofs.page.page_of.Goals as goal

pub returns-in_err-total-clause-found : goal.returns-in_err-total-clause-found
returns-in_err-total-clause-found c = λ from lines total told same. absurd (c.in_err-total.ensures total (ap (get (codes "total")) same))

pub returns-clause-found : goal.returns-clause-found
returns-clause-found c = λ from lines total told same.
    let items = c.in_ok-items_at.ensures (lines_data from lines) (ap (get (codes "entries")) same) in
    (c.in_ok-entries.ensures.found from lines told items, c.in_ok-total.ensures total (ap (get (codes "total")) same))
