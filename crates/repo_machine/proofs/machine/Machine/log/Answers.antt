use Rattle.std.proofs.Common.{ap, sym, subst, map, take, drop, length, ◌∙◌, arith}
use Rattle.std.specs.List.{AllByRecursion}
use Rattle.repo_machine.specs.Lines.{line_at, IsKeptAt}
use Rattle.repo_machine.specs.Held.{repository}
use Rattle.repo_machine.proofs.Logging.{same_count, all_of_page, all_kept, page_lines}
use Rattle.repo_machine.proofs.machine.Machine.log.Goals as goal

pub lines_of-requires : goal.lines_of-requires
lines_of-requires c =
    let count = length c.self.inside.changesets.known in
    subst (λ es. AllByRecursion (IsKeptAt count es) c.page_from-page.result.now) (sym c.as_slice-2.ensures.value)
    (all_of_page (IsKeptAt count c.self.inside.entries.items) c.self.inside.kept.items c.page_from-page.result.now c.args.from (c.page_from-page.ensures.page ∙ ap (λ ns. take 100 (drop c.args.from ns)) c.as_slice.ensures.value)
    (all_kept count c.self.inside.entries.items c.self.inside.kept.items c.self.invariant.3 c.self.invariant.0))

pub returns-clause-entries : goal.returns-clause-entries
returns-clause-entries c =
    page_lines c.self.inside.changesets.known c.self.inside.entries.items c.self.inside.kept.items c.self.invariant.3 _ c.self.invariant.0 _ (repository c.args.self.now) (ap repository c.self.view_is) c.args.from c.page_from-page.result.now _
    (c.page_from-page.ensures.page ∙ ap (λ ns. take 100 (drop c.args.from ns)) c.as_slice.ensures.value) (c.in_ok-entries.ensures ∙ ap (λ es. map (line_at c.self.inside.changesets.known es) c.page_from-page.result.now) c.as_slice-2.ensures.value)

pub returns-clause-fits : goal.returns-clause-fits
returns-clause-fits c = let same = same_count c.self.inside.changesets.known _ _ _ c.in_ok-entries.ensures in let fits = c.page_from-page.ensures.fits in omega arith
