use Rattle.std.proofs.Common.{ap, ◌∙◌}
use Rattle.command_line.specs.Outside.{told}
use Rattle.command_line.specs.Sessions.{session_status}
use Rattle.command_line.proofs.Sessions.{session_serves}
use Rattle.command_line.proofs.session.serve_file.Goals as goal

pub returns : goal.returns
returns g c =
    let told_of = told g.L.Link.rest g.L.Link.written g.L.Link.faults in
    let opened = c.args.opened in
    let end = c.serve_session-end in
    let state = c.into_state-state in
    session_serves g.D.Disk.meaning (g.C.Clock.tells c.args.clock.now) opened.machine.header opened.machine.history opened.journal (g.D.Disk.meaning opened.disk) (told_of c.args.link.now) (told_of end.new.link) c.new.result c.new-alone.result end.new.seat state.result end.result c.into_disk.result c.session_status-status.result
    c.new.ensures.header c.new.ensures.history c.new.ensures.opening c.new-alone.ensures end.ensures.session end.ensures.home state.ensures.state end.ensures.fault
    (c.session_status-status.ensures ∙ ap (λ b. session_status b end.result) c.down.ensures) state.ensures.sealed c.into_disk.ensures.disk c.into_disk.ensures.sound
