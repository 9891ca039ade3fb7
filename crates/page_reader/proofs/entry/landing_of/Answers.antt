use Rattle.std.proofs.Common.{codes, ap, ◌∙◌}
use Rattle.std.proofs.lemmas.Result.{err_from_is_err_and}
use Rattle.serde_json.specs.Find.{get}
use Rattle.reply_model.specs.Log.{LandingLine}
use Rattle.page_reader.proofs.Landings.{landing_caller_at, landing_draft_at, landing_ids_at, moment_at, landing_name_at, landing_old_at}
use Rattle.page_reader.proofs.entry.landing_of.Goals as goal

pub returns-in_err-caller-clause-found : goal.returns-in_err-caller-clause-found
returns-in_err-caller-clause-found c = λ n caller name old draft moment ids told same.
    let memory = c.in_err-caller.ensures.found caller told.5 (ap (get (codes "caller")) same ∙ landing_caller_at n caller name old draft moment ids) in
    let p = err_from_is_err_and c.from_residual.result c.from_residual.ensures.1 in
    rw (p.1, p.2) memory

pub returns-in_err-draft-clause-found : goal.returns-in_err-draft-clause-found
returns-in_err-draft-clause-found c = λ n caller name old draft moment ids told same.
    absurd (c.in_err-draft.ensures.found draft told.2 (ap (get (codes "draft")) same ∙ landing_draft_at n caller name old draft moment ids))

pub returns-in_err-ids-clause-found : goal.returns-in_err-ids-clause-found
returns-in_err-ids-clause-found c = λ n caller name old draft moment ids told same.
    let memory = c.in_err-ids.ensures.found ids told.4 (ap (get (codes "ids")) same ∙ landing_ids_at n caller name old draft moment ids) in
    let p = err_from_is_err_and c.from_residual-in_err-ids.result c.from_residual-in_err-ids.ensures.1 in
    rw (p.1, p.2) memory

pub returns-in_err-moment-clause-found : goal.returns-in_err-moment-clause-found
returns-in_err-moment-clause-found c = λ n caller name old draft moment ids told same.
    absurd (c.in_err-moment.ensures.found moment (ap (get (codes "moment")) same ∙ moment_at n caller name old draft moment ids))

pub returns-in_err-name-clause-found : goal.returns-in_err-name-clause-found
returns-in_err-name-clause-found c = λ n caller name old draft moment ids told same.
    let memory = c.in_err-name.ensures.found name told.0 (ap (get (codes "name")) same ∙ landing_name_at n caller name old draft moment ids) in
    let p = err_from_is_err_and c.from_residual-in_err-name.result c.from_residual-in_err-name.ensures.1 in
    rw (p.1, p.2) memory

pub returns-in_err-old-clause-found : goal.returns-in_err-old-clause-found
returns-in_err-old-clause-found c = λ n caller name old draft moment ids told same.
    absurd (c.in_err-old.ensures.found old told.1 (ap (get (codes "old")) same ∙ landing_old_at n caller name old draft moment ids))

pub returns-clause-found : goal.returns-clause-found
returns-clause-found c = λ n caller name old draft moment ids told same.
    let who = c.in_ok-caller.ensures.found caller told.5 (ap (get (codes "caller")) same ∙ landing_caller_at n caller name old draft moment ids) in
    let a = c.in_ok-draft.ensures.found draft told.2 (ap (get (codes "draft")) same ∙ landing_draft_at n caller name old draft moment ids) in
    let b = c.in_ok-ids.ensures.found ids told.4 (ap (get (codes "ids")) same ∙ landing_ids_at n caller name old draft moment ids) in
    let d = c.in_ok-moment.ensures.found moment (ap (get (codes "moment")) same ∙ moment_at n caller name old draft moment ids) in
    let e = c.in_ok-name.ensures.found name told.0 (ap (get (codes "name")) same ∙ landing_name_at n caller name old draft moment ids) in
    let f = c.in_ok-old.ensures.found old told.1 (ap (get (codes "old")) same ∙ landing_old_at n caller name old draft moment ids) in
    λ i. LandingLine (who i) (e i) (f i) (a i) (d i) (b i)

pub returns-clause-told : goal.returns-clause-told
returns-clause-told c = (c.in_ok-name.ensures.rule, c.in_ok-old.ensures.rule, c.in_ok-draft.ensures.rule, c.in_ok-moment.ensures.range, c.in_ok-ids.ensures.rule, c.in_ok-caller.ensures.rule)
