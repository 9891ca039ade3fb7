use Rattle.std.proofs.Common.{sym, ap, ◌∙◌, subst, ℕ}
use mathlib.Core.Bool.{true≢false}
use Rattle.std.proofs.lemmas.Result.{err_from_is_err_and}
use Rattle.session_model.specs.Bodies.{log_body}
use Rattle.repo_calls.specs.Calls.{lines_seen}
use Rattle.page_reader.specs.Pages.{Counts}
use Rattle.page_reader.proofs.Pages.{counted}
use Rattle.page_reader.proofs.page.page_spelled.Goals as goal

pub returns-in_err-page-clause-found : goal.returns-in_err-page-clause-found
returns-in_err-page-clause-found c = λ lines total page.
    let memory = c.in_err-page.ensures.found c.args.from lines total c.ranges.from.fits page in
    let p = err_from_is_err_and c.from_residual.result c.from_residual.ensures.1 in
    rw (p.1, p.2) memory

pub returns-then-not-counts-clause-found : goal.returns-then-not-counts-clause-found
returns-then-not-counts-clause-found c = λ lines total page.
    let found = c.in_ok-page.ensures.found c.args.from lines total c.ranges.from.fits page in
    let t = c.in_ok-page.page.total in
    let counts = counted c.args.from c.in_ok-page.page.entries.items lines total t found.0 found.1 page.counts in
    let yes = c.counts.ensures.1 (subst (λ (n : ℕ). Counts c.args.from n t) (sym (c.len.ensures ∙ c.in_ok-page.page.entries.ok.0)) counts) in
    absurd (true≢false (sym yes ∙ c.if-not-counts.true))

pub returns-then-is_same-clause-found : goal.returns-then-is_same-clause-found
returns-then-is_same-clause-found c = λ lines total page. c.in_ok-page.ensures.found c.args.from lines total c.ranges.from.fits page

pub returns-else-is_same-clause-found : goal.returns-else-is_same-clause-found
returns-else-is_same-clause-found c = λ lines total page.
    let found = c.in_ok-page.ensures.found c.args.from lines total c.ranges.from.fits page in
    let same = c.as_slice-2.ensures.value ∙ c.in_ok-again.ensures ∙ ap (λ es. log_body c.args.from (lines_seen es) c.in_ok-page.page.total) c.as_slice.ensures.value ∙ ap (λ ls. log_body c.args.from ls c.in_ok-page.page.total) found.0 ∙ ap (log_body c.args.from lines) found.1 ∙ sym page.text_is in
    absurd (true≢false (sym (c.is_same.ensures.1 same) ∙ c.if-is_same.false))
