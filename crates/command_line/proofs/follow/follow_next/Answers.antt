use Rattle.std.proofs.Common.{refl, ap, Some, None, Ok, Err}
use Rattle.command_line.specs.declared.report.Report.TheVariants.{BadReply}
use Rattle.command_line.proofs.Followed.{asks_link, no_link, takes_none, takes_one}
use Rattle.command_line.proofs.follow.follow_next.Goals as goal

pub returns-in-Ok-Some-clause-asks : goal.returns-in-Ok-Some-clause-asks
returns-in-Ok-Some-clause-asks g c =
    let e = c.in-Ok-Some.ensures in
    asks_link _ _ _ _ _ _ _ _ (Ok c.in-Ok-Some.field-0) (Ok (Some c.in-Ok-Some.link)) (ap Ok c.in-Ok-Some.field-0-is)
    (record { link = e.link; given = e.given; over = e.over; faults = e.faults; unserved = refl }) c.follow_over.ensures

pub returns-in-Ok-None-clause-asks : goal.returns-in-Ok-None-clause-asks
returns-in-Ok-None-clause-asks g c =
    let e = c.in-Ok-None.ensures in
    asks_link _ _ _ _ _ _ _ _ (Ok c.in-Ok-None.field-0) (Ok None) (ap Ok c.in-Ok-None.field-0-is)
    (record { link = e.link; given = e.given; over = e.over; faults = e.faults; unserved = refl })
    (record { none = refl; untouched = refl; report_is = ap BadReply c.sealed.ensures })

pub returns-in-Err-clause-asks : goal.returns-in-Err-clause-asks
returns-in-Err-clause-asks g c =
    let e = c.in-Err.ensures in
    record {
      answer = Err c.in-Err.field-0;
      answered = record { link = e.link; given = e.given; over = e.over; faults = e.faults; unserved = refl };
      follows = record { none = refl; untouched = refl; report_is = refl };
    }

pub returns-in-Ok-Some-clause-taken : goal.returns-in-Ok-Some-clause-taken
returns-in-Ok-Some-clause-taken g c =
    takes_one (g.A.Accept.given c.args.accept.now) (g.A.Accept.given c.next.new.self) (Ok c.in-Ok-Some.field-0) c.in-Ok-Some.link c.follow_over.ensures.after c.follow_over.result.link
    (ap Ok c.in-Ok-Some.field-0-is) c.follow_over.ensures.left_is c.in-Ok-Some.ensures.given

pub returns-in-Ok-None-clause-taken : goal.returns-in-Ok-None-clause-taken
returns-in-Ok-None-clause-taken g c =
    takes_none (g.A.Accept.given c.args.accept.now) (g.A.Accept.given c.next.new.self) (Ok c.in-Ok-None.field-0)
    (no_link c.in-Ok-None.field-0 c.in-Ok-None.field-0-is) c.in-Ok-None.ensures.given

pub returns-in-Err-clause-taken : goal.returns-in-Err-clause-taken
returns-in-Err-clause-taken g c =
    takes_none {K = g.row.K.Denot} (g.A.Accept.given c.args.accept.now) (g.A.Accept.given c.next.new.self) (Err c.in-Err.field-0) refl c.in-Err.ensures.given
