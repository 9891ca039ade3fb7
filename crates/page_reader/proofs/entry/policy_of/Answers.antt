use Rattle.std.proofs.Common.{codes, ap}
use Rattle.serde_json.specs.Find.{get}
use Rattle.reply_model.specs.Log.{PolicyLine}
use Rattle.page_reader.proofs.entry.policy_of.Goals as goal

pub returns-in_err-rules-clause-found : goal.returns-in_err-rules-clause-found
returns-in_err-rules-clause-found c = λ n caller rules told same. absurd (c.in_err-rules.ensures rules (ap (get (codes "rules")) same))

pub returns-clause-found : goal.returns-clause-found
returns-clause-found c = λ n caller rules told same.
    let who = c.in_ok-caller.ensures.found caller told.0 (ap (get (codes "caller")) same) in
    let many = c.in_ok-rules.ensures rules (ap (get (codes "rules")) same) in
    λ i. PolicyLine (who i) (many i)
