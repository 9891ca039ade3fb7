use Rattle.std.proofs.Common.{codes, ap}
use Rattle.serde_json.specs.Find.{get}
use Rattle.page_reader.proofs.entry.content_of.Goals as goal

pub returns-in_err-size-clause-found : goal.returns-in_err-size-clause-found
returns-in_err-size-clause-found c = λ n x size is same. absurd (c.in_err-size.ensures size (ap (get (codes "size")) same))

pub returns-clause-found : goal.returns-clause-found
returns-clause-found c = λ n x size is same.
    let id = c.in_ok-id.ensures.found x is (ap (get (codes "id")) same) in
    let bytes = c.in_ok-size.ensures size (ap (get (codes "size")) same) in
    cc
