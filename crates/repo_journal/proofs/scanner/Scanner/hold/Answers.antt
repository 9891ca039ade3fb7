use Rattle.std.proofs.Common.{◌-◌, sym, subst, ◌∙◌}
use Rattle.repo_journal.specs.Scanning.{Holds}
use Rattle.repo_journal.proofs.Windows.{AreAt, left_at, read_at}
use Rattle.repo_journal.proofs.scanner.Scanner.hold.Goals as goal

pub returns-clause-holds : goal.returns-clause-holds
returns-clause-holds g c = λ honest holds.
    (let m = g.D.Disk.meaning c.args.disk.now in
    let are : AreAt c.self.inside.block.items c.self.inside.from m.state.reads = subst (λ w. Holds w m.state.reads) (sym c.self.view_is) holds in
    let kept = left_at c.self.inside.block.items c.let_go.new.block.items c.self.inside.from c.args.span.at m.state.reads are c.let_go.ensures in
    let count = c.min-want.result - c.len-have.result in
    read_at m (g.met.D.Disk.sound c.args.disk.now) honest c.read_on.result c.let_go.new.block.items c.read_on.new.block.items c.args.span.at c.len-have.result count
    (c.len-have.ensures ∙ c.let_go.new.block.ok.0) kept c.read_on.ensures.len c.read_on.ensures.bytes c.read_on.ensures.err)
