use Rattle.std.proofs.Common.{◌<◌, length, arith}
use Rattle.repo_machine.proofs.ClearedEntries.{unseated_more}
use Rattle.repo_machine.proofs.seats.unseat.Goals as goal

pub loop-entry-preserved : goal.loop-entry-preserved
loop-entry-preserved c =
    let below : c.loop-entry.entry-index < length c.loop-entry.entry-items = omega arith in
    unseated_more c.loop-entry.entry-index c.loop-entry.entry-items c.args.entries.now.items c.entry-item.result below c.loop-entry.invariant
