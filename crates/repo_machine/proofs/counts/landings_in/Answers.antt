use Rattle.std.proofs.Common.{sym, ◌∙◌, arith}
use Rattle.repo_machine.specs.Counting.{is_landing_entry}
use Rattle.repo_machine.proofs.Kept.{few_counted, all_counted}
use Rattle.repo_machine.proofs.counts.landings_in.Goals as goal

pub overflow_add-count : goal.overflow_add-count
overflow_add-count c =
    let few = few_counted is_landing_entry c.args.entries.now c.entries.entry-index c.entries.count c.entries.invariant c.entry-item.result c.entries-test.true c.entry-item.is (sym c.is_landing.ensures ∙ c.if-is_landing.true) in
    omega arith

pub returns : goal.returns
returns c = all_counted is_landing_entry c.args.entries.now c.entries.entry-index c.entries.count c.entries.invariant c.entries-test.false
