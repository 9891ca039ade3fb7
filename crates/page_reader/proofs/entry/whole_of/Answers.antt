use Rattle.std.proofs.Common.{codes, ap}
use Rattle.serde_json.specs.Find.{get}
use Rattle.reply_model.specs.Log.{WholeLine}
use Rattle.page_reader.proofs.entry.whole_of.Goals as goal

pub returns-in_err-size-clause-found : goal.returns-in_err-size-clause-found
returns-in_err-size-clause-found c = λ n x size parts told same. absurd (c.in_err-size.ensures size (ap (get (codes "size")) same))

pub returns-clause-found : goal.returns-clause-found
returns-clause-found c = λ n x size parts told same.
    let id = c.in_ok-id.ensures.found x told.0 (ap (get (codes "id")) same) in
    let pieces = c.in_ok-parts.ensures.found parts told.2 (ap (get (codes "parts")) same) in
    let bytes = c.in_ok-size.ensures size (ap (get (codes "size")) same) in
    λ i. WholeLine (id i) (bytes i) (pieces i)
