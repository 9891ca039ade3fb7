use Rattle.content_table.proofs.Finding.{all_placed}
use Rattle.content_table.proofs.table.ContentTable.pieces.Goals as goal

pub placed-requires : goal.placed-requires
placed-requires c = all_placed c.args.self.now c.args.ids.now c.in_ok-check_stored.ensures c.in_ok-check_single.ensures
