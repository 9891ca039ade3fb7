use Rattle.std.proofs.Common.{length, sym, ap, ◌∙◌, arith}
use Rattle.history_model.specs.Journal.{moment_bytes}
use Rattle.repo_events.specs.Entries.{caller_bytes}
use Rattle.repo_events.proofs.Lengths.{length_by_changesets}
use Rattle.repo_events.proofs.landing.landing_length.Goals as goal

pub returns-clause-value : goal.returns-clause-value
returns-clause-value c = λ landing name_is moment_is caller_is old_long draft_long n_is.
    let moment = c.moment_length.ensures.value ∙ ap (λ m. length (moment_bytes m)) (sym moment_is) in
    let caller = c.caller_length.ensures.value ∙ ap (λ who. length (caller_bytes who)) (sym caller_is) in
    let whole = length_by_changesets landing _ c.args.changesets c.moment_length.result c.caller_length.result (name_is ∙ sym c.as_str.ensures.text) old_long draft_long n_is moment caller in
    omega arith
