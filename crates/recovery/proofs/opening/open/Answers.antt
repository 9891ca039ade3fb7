use Rattle.std.proofs.Common.{List, false}
use Rattle.history_model.specs.History.{Entry}
use Rattle.history_model.specs.Journal.{Header}
use Rattle.repo_journal.specs.View.{JournalView}
use Rattle.recovery.specs.Answers.{is_disk_fault}
use Rattle.recovery.specs.declared.opened.Opened.{Opened}
use Rattle.recovery.proofs.Files.{during, never_damaged, opened_result, opens_before, refused_before, settled_result, synced}
use Rattle.recovery.proofs.Spared.{spares_then}
use Rattle.recovery.proofs.opening.open.Goals as goal

abbrev header_in : Opened → Header
header_in o = o.machine.header

abbrev history_in : Opened → List Entry
history_in o = o.machine.history

abbrev journal_in : Opened → JournalView
journal_in o = o.journal

pub returns-in-Ok-clause-ok : goal.returns-in-Ok-clause-ok
returns-in-Ok-clause-ok g c =
    let a = g.D.Disk.meaning c.args.disk.now in
    let b = g.D.Disk.meaning c.begin.new.disk in
    let n = g.D.Disk.meaning c.read_file.new.disk in
    let began = c.in-Ok.ensures in
    let read = c.read_file.ensures in
    opened_result header_in history_in journal_in a b n c.in-Ok.begun.size c.in-Ok.begun.moment c.in-Ok.begun.faults began.begun began.spares (g.met.D.Disk.sound c.begin.new.disk) read.looked
    c.read_file.result read.spares read.read read.journal (opens_before header_in history_in journal_in a b false began.spares c.read_file.result read.opens)

pub returns-in-Ok-clause-opens : goal.returns-in-Ok-clause-opens
returns-in-Ok-clause-opens g c =
    opens_before header_in history_in journal_in (g.D.Disk.meaning c.args.disk.now) (g.D.Disk.meaning c.begin.new.disk) false c.in-Ok.ensures.spares c.read_file.result c.read_file.ensures.opens

pub returns-in-Ok-clause-never_damaged : goal.returns-in-Ok-clause-never_damaged
returns-in-Ok-clause-never_damaged g c =
    let a = g.D.Disk.meaning c.args.disk.now in
    let b = g.D.Disk.meaning c.begin.new.disk in
    let began = c.in-Ok.ensures in
    never_damaged header_in history_in journal_in a (g.met.D.Disk.sound c.args.disk.now) c.read_file.result
    (opens_before header_in history_in journal_in a b false began.spares c.read_file.result c.read_file.ensures.opens)
    (refused_before a b false began.spares c.read_file.result c.read_file.ensures.refused)

pub returns-in-Ok-clause-crash : goal.returns-in-Ok-clause-crash
returns-in-Ok-clause-crash g c =
    (spares_then (g.D.Disk.meaning c.args.disk.now) (g.D.Disk.meaning c.begin.new.disk) (g.D.Disk.meaning c.read_file.new.disk) (is_disk_fault c.read_file.result) c.in-Ok.ensures.spares c.read_file.ensures.spares).crash

pub returns-in-Ok-clause-settled : goal.returns-in-Ok-clause-settled
returns-in-Ok-clause-settled g c =
    let a = g.D.Disk.meaning c.args.disk.now in
    let b = g.D.Disk.meaning c.begin.new.disk in
    let n = g.D.Disk.meaning c.read_file.new.disk in
    let began = c.in-Ok.ensures in
    settled_result header_in history_in journal_in a n (spares_then a b n (is_disk_fault c.read_file.result) began.spares c.read_file.ensures.spares).crash c.read_file.result
    (opens_before header_in history_in journal_in a b false began.spares c.read_file.result c.read_file.ensures.opens)

pub returns-in-Ok-clause-kept : goal.returns-in-Ok-clause-kept
returns-in-Ok-clause-kept g c =
    (spares_then (g.D.Disk.meaning c.args.disk.now) (g.D.Disk.meaning c.begin.new.disk) (g.D.Disk.meaning c.read_file.new.disk) (is_disk_fault c.read_file.result) c.in-Ok.ensures.spares c.read_file.ensures.spares).kept

pub returns-in-Ok-clause-during : goal.returns-in-Ok-clause-during
returns-in-Ok-clause-during g c =
    let began = c.in-Ok.ensures in
    during header_in history_in journal_in (g.D.Disk.meaning c.args.disk.now) (g.D.Disk.meaning c.begin.new.disk) c.in-Ok.begun.size c.in-Ok.begun.moment c.in-Ok.begun.faults began.begun began.spares c.read_file.result c.read_file.ensures.journal

pub returns-in-Ok-clause-synced : goal.returns-in-Ok-clause-synced
returns-in-Ok-clause-synced g c =
    synced header_in history_in journal_in (g.D.Disk.meaning c.args.disk.now) (g.D.Disk.meaning c.begin.new.disk) c.in-Ok.begun.size c.in-Ok.begun.moment c.in-Ok.begun.faults c.in-Ok.ensures.begun c.read_file.result c.read_file.ensures.journal
