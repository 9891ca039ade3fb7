use Rattle.std.proofs.Common.{◌<◌, ◌≤◌, length, take, ap, ◌∙◌, arith}
use Rattle.repo_journal.specs.Scanning.{step_at}
use Rattle.repo_journal.proofs.Windows.{gate_by_head}
use Rattle.repo_journal.proofs.scanner.Scanner.next.Goals as goal

pub returns-clause-step : goal.returns-clause-step
returns-clause-step g c = λ honest holds.
    (let m = g.D.Disk.meaning c.args.disk.now in
    let file = m.state.reads in
    let gate = c.self.inside.gate in
    let size = c.self.inside.size in
    let long : size ≤ length file = (let v = ap (λ w. w.size) c.self.view_is in let l = c.requires file ((g.met.D.Disk.sound c.args.disk.now).reads honest) in omega arith) in
    let inside : gate < size = (let h = c.if-gate-size.false in omega arith) in
    let head = c.held.ensures.file file (c.in_ok-hold.ensures.holds honest holds) in
    c.step_in-step.ensures.step
    ∙ gate_by_head file c.held.result.now gate size c.min.result long inside c.min.ensures head
    ∙ ap (λ w. step_at (take w.size file) w.gate) c.self.view_is)
