use Rattle.std.proofs.Common.{rules, ◌≡◌, ◌∙◌, Some, false, true, subst, sym}
use Rattle.program_words.specs.Said.{said_of}
use Rattle.program_words.specs.Words.{fsck, init, session}
use Rattle.command_line.specs.Counting.{ChecksIn}
use Rattle.command_line.specs.Making.{AttemptsIn}
use Rattle.command_line.specs.Outside.{links, outside, peer, told}
use Rattle.command_line.specs.Running.{OpensOnly, Writes}
use Rattle.command_line.proofs.Unserved.{runs_as, runs_on, runs_session}
use Rattle.command_line.proofs.program.run_command.Goals as goal

pub returns-in-Session-clause-runs : goal.returns-in-Session-clause-runs
returns-in-Session-clause-runs g c =
    let outside_of = outside g.O.Opener.shelf g.O.Opener.faults g.L.Link.rest g.L.Link.written g.L.Link.faults in
    let apart = c.apart-in-Session in
    let is : Some (said_of c.args.command) ≡ Some (session c.in-Session.file.now) = search rules in
    runs_session g.D.Disk.meaning (g.C.Clock.tells c.args.clock.now) _ c.in-Session.file.now
    (outside_of c.args.opener.now c.args.link.now) (outside_of c.run_session.new.opener c.run_session.new.link)
    (links g.A.Accept.given g.A.Accept.over g.A.Accept.faults c.args.accept apart.result.accept apart.result.served)
    (peer g.A.Accept.next_link g.K.Link.rest g.K.Link.written g.K.Link.faults c.args.accept apart.result.link)
    c.run_session.result (record { status = apart.result.status; disk = apart.result.disk }) apart.result.load apart.result.other
    is c.run_session.ensures.runs c.run_session.ensures.only apart.ensures.status apart.ensures.disk

pub returns-in-Init-clause-runs : goal.returns-in-Init-clause-runs
returns-in-Init-clause-runs g c =
    let outside_of = outside g.O.Opener.shelf g.O.Opener.faults g.L.Link.rest g.L.Link.written g.L.Link.faults in
    let told_of = told g.L.Link.rest g.L.Link.written g.L.Link.faults in
    let came = c.init_file.result in
    let tell = c.tell in
    let apart = c.apart in
    let old = outside_of c.args.opener.now c.args.link.now in
    let new = outside_of c.init_file.new.opener tell.new.link in
    let same = apart.ensures.disk ∙ tell.ensures.disk in
    let is : Some (said_of c.args.command) ≡ Some (init c.in-Init.file.now c.in-Init.capacity) = search rules in
    runs_as g.D.Disk.meaning (g.C.Clock.tells c.args.clock.now) _ (Some (init c.in-Init.file.now c.in-Init.capacity)) old new
    (links g.A.Accept.given g.A.Accept.over g.A.Accept.faults c.args.accept apart.result.accept apart.result.served)
    (peer g.A.Accept.next_link g.K.Link.rest g.K.Link.written g.K.Link.faults c.args.accept apart.result.link)
    (record { status = apart.result.status; disk = apart.result.disk }) apart.result.load apart.result.other is (
      runs_on (λ disk report. AttemptsIn g.D.Disk.meaning c.in-Init.file.now c.in-Init.capacity (g.O.Opener.shelf c.args.opener.now) disk report) old new came (record { status = apart.result.status; disk = apart.result.disk }) same
          (subst (λ s. Writes came.report s (told_of c.args.link.now) (told_of tell.new.link)) (sym apart.ensures.status) tell.ensures.writes) c.init_file.ensures.unopened c.init_file.ensures.opened,
      subst (λ o. OpensOnly c.in-Init.file.now true old new o) (sym same) (record { shelf = c.init_file.ensures.left; unopened = c.init_file.ensures.faults }),
    )

pub returns-in-Fsck-clause-runs : goal.returns-in-Fsck-clause-runs
returns-in-Fsck-clause-runs g c =
    let outside_of = outside g.O.Opener.shelf g.O.Opener.faults g.L.Link.rest g.L.Link.written g.L.Link.faults in
    let told_of = told g.L.Link.rest g.L.Link.written g.L.Link.faults in
    let came = c.fsck_file.result in
    let tell = c.tell-in-Fsck in
    let apart = c.apart-in-Fsck in
    let old = outside_of c.args.opener.now c.args.link.now in
    let new = outside_of c.fsck_file.new.opener tell.new.link in
    let same = apart.ensures.disk ∙ tell.ensures.disk in
    let is : Some (said_of c.args.command) ≡ Some (fsck c.in-Fsck.file.now) = search rules in
    runs_as g.D.Disk.meaning (g.C.Clock.tells c.args.clock.now) _ (Some (fsck c.in-Fsck.file.now)) old new
    (links g.A.Accept.given g.A.Accept.over g.A.Accept.faults c.args.accept apart.result.accept apart.result.served)
    (peer g.A.Accept.next_link g.K.Link.rest g.K.Link.written g.K.Link.faults c.args.accept apart.result.link)
    (record { status = apart.result.status; disk = apart.result.disk }) apart.result.load apart.result.other is (
      runs_on (λ disk report. ChecksIn g.D.Disk.meaning c.in-Fsck.file.now (g.O.Opener.shelf c.args.opener.now) disk report) old new came (record { status = apart.result.status; disk = apart.result.disk }) same
          (subst (λ s. Writes came.report s (told_of c.args.link.now) (told_of tell.new.link)) (sym apart.ensures.status) tell.ensures.writes) c.fsck_file.ensures.unopened c.fsck_file.ensures.opened,
      subst (λ o. OpensOnly c.in-Fsck.file.now false old new o) (sym same) (record { shelf = c.fsck_file.ensures.left; unopened = c.fsck_file.ensures.faults }),
    )
