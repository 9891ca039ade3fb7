use Rattle.std.proofs.Common.{sym, subst}
use Rattle.command_line.specs.Loading.{Loads}
use Rattle.command_line.proofs.Loading.{loads_of}
use Rattle.command_line.proofs.load.make_load.Goals as goal

pub returns : goal.returns
returns g c =
    subst (λ report. Loads c.args.seed c.args.stacks c.args.clients report c.left_disk.result) (sym c.report_of.ensures)
    (loads_of c.args.seed c.args.stacks c.args.clients _ _ c.left_disk.result c.load-outcome.ensures.tells c.load-outcome.ensures.quiet c.load-outcome.ensures.sealed c.load-outcome.ensures.header c.left_disk.ensures)
