use Rattle.std.specs.Option.{option_copied}
use Rattle.node_parts.proofs.Cut.{run_first, run_on}
use Rattle.node_parts.proofs.cutting.next_run.Goals as goal

pub entries-init : goal.entries-init
entries-init g c = run_first g.E.Entry.reader c.requires c.args.bytes.now (option_copied c.args.before) c.in_ok-name.name.now c.in_ok-name.rest.now c.in_ok-name.ensures

pub entries-preserved : goal.entries-preserved
entries-preserved g c =
    let had = c.entries.invariant in
    run_on g.E.Entry.reader c.requires c.args.bytes.now (option_copied c.args.before) had.0 c.entries.entries c.entries.last.now c.entries.left.now c.in_ok-name-2.name.now c.in_ok-name-2.rest.now had.1 c.in_ok-name-2.ensures
