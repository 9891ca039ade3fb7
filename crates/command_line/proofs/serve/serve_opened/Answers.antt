use Rattle.std.proofs.Common.{◌≡◌, if◌then◌else◌, subst}
use Rattle.history_model.specs.History.{is_down}
use Rattle.repo_machine.specs.Counting.{counts_of}
use Rattle.command_line.specs.declared.report.Report.TheVariants.{NoMemory}
use Rattle.command_line.specs.Outside.{links, told}
use Rattle.command_line.specs.Serving.{served_report}
use Rattle.command_line.proofs.Serving.{runs_opened}
use Rattle.command_line.proofs.serve.serve_opened.Goals as goal

pub returns-clause-runs : goal.returns-clause-runs
returns-clause-runs g c =
    let left = c.serve_watched-left in
    let machine = c.args.opened.machine in
    let told_of = told g.L.Link.rest g.L.Link.written g.L.Link.faults in
    let state = left.result.state in
    runs_opened g.D.Disk.meaning machine.header machine.history c.args.opened.journal (g.D.Disk.meaning c.args.opened.disk) c.args.lanes c.args.connections (told_of c.args.link.now) (told_of c.end_run.new.link)
    (links g.A.Accept.given g.A.Accept.over g.A.Accept.faults c.args.accept left.result.accept left.result.served) left.result.began left.result.faulted c.served_report-report.result c.end_run.result c.closed.result c.new-state.result state
    c.new-state.ensures.history c.new-state.ensures.opening c.new-state.ensures.disk
    left.ensures.opening left.ensures.begins left.ensures.seats left.ensures.takes left.ensures.sealed left.ensures.told left.ensures.last left.ensures.own c.requires.opened.length_is left.ensures.memory left.ensures.back
    c.closed.ensures.whole c.closed.ensures.disk c.closed.ensures.state
    (subst (λ n. c.served_report-report.result ≡ (if left.result.began then served_report (is_down state.history) left.result.faulted n (counts_of state.history).entries else NoMemory)) c.count.ensures c.served_report-report.ensures)
    (record { reports = c.end_run.ensures.reports; unread = c.end_run.ensures.input })
