use Rattle.std.proofs.Common.{ap, sym, subst}
use Rattle.std.specs.Arc.{arc_value}
use Rattle.reply_model.specs.Reply.{PutContent, PutChangeset, SetBookmark, LandDraft, SetPolicy}
use Rattle.repo_calls.specs.Calls.{call_seen}
use Rattle.repo_machine.specs.Found.{IsLeft}
use Rattle.repo_machine.specs.Prepared.{IsReadyTo, asked_by}
use Rattle.repo_machine.proofs.Merging.{found_left}
use Rattle.repo_machine.proofs.Asking.{ask_refused, found_whole, judges_call, judges_whole, refuses_call, refuses_whole}
use Rattle.repo_machine.proofs.machine.Machine.judge_prepared.Goals as goal

pub returns-in-Refused-clause-err : goal.returns-in-Refused-clause-err
returns-in-Refused-clause-err c =
    ask_refused c.args.self.now.header c.args.self.now.history (asked_by c.args.prepared) c.in-Refused.refusal c.refuse.result
    (subst (IsReadyTo (asked_by c.args.prepared)) c.in-Refused.is c.requires.prepared) c.refuse.ensures.up c.refuse.ensures.down (PutContent c.in-PutContent.bytes.now) (ap call_seen c.in-PutContent.is)

pub returns-in-Refused-ready-clause-err : goal.returns-in-Refused-ready-clause-err
returns-in-Refused-ready-clause-err c =
    ask_refused c.args.self.now.header c.args.self.now.history (asked_by c.args.prepared) c.in-Refused-ready.refusal c.refuse-in-Refused-ready.result
    (subst (IsReadyTo (asked_by c.args.prepared)) c.in-Refused-ready.is c.requires.prepared) c.refuse-in-Refused-ready.ensures.up c.refuse-in-Refused-ready.ensures.down (PutChangeset c.in-PutChangeset.field-0.now) (ap call_seen c.in-PutChangeset.is)

pub returns-in-Refused-ready-2-clause-err : goal.returns-in-Refused-ready-2-clause-err
returns-in-Refused-ready-2-clause-err c =
    ask_refused c.args.self.now.header c.args.self.now.history (asked_by c.args.prepared) c.in-Refused-ready-2.refusal c.refuse-in-Refused-ready-2.result
    (subst (IsReadyTo (asked_by c.args.prepared)) c.in-Refused-ready-2.is c.requires.prepared) c.refuse-in-Refused-ready-2.ensures.up c.refuse-in-Refused-ready-2.ensures.down (SetPolicy c.in-SetPolicy.caller.now c.in-SetPolicy.text.now) (ap call_seen c.in-SetPolicy.is)

pub judge_changeset-requires-clause-left : goal.judge_changeset-requires-clause-left
judge_changeset-requires-clause-left c =
    subst (IsLeft c.args.self.now.history (arc_value c.in-Changeset.framed.commit)) (sym c.left.ensures)
    (found_left c.args.self.now.header c.args.self.now.history (asked_by c.args.prepared) (PutChangeset c.in-PutChangeset.field-0.now) c.args.prepared.ready c.in-Changeset.framed c.args.found (ap call_seen c.in-PutChangeset.is) c.in-Changeset.is c.requires.found)

pub returns-in-Joined-clause-ok : goal.returns-in-Joined-clause-ok
returns-in-Joined-clause-ok c =
    let header = c.args.self.now.header in
    let h = c.args.self.now.history in
    let body = c.in-PutWhole.field-0.now in
    let found = found_whole header h (asked_by c.args.prepared) c.args.prepared.ready body c.args.found c.in-Joined.whole (ap call_seen c.in-PutWhole.is) c.in-Joined.is c.requires.found in
    judges_whole header h body found.0 c.in-Joined.whole found.1 (asked_by c.args.prepared) (ap call_seen c.in-PutWhole.is) c.judge_whole.result c.judge_whole.new.self.room c.args.who (c.judge_whole.ensures.ok body found.0 found.1)

pub returns-in-Joined-clause-err : goal.returns-in-Joined-clause-err
returns-in-Joined-clause-err c =
    let header = c.args.self.now.header in
    let h = c.args.self.now.history in
    let body = c.in-PutWhole.field-0.now in
    let found = found_whole header h (asked_by c.args.prepared) c.args.prepared.ready body c.args.found c.in-Joined.whole (ap call_seen c.in-PutWhole.is) c.in-Joined.is c.requires.found in
    refuses_whole header h body found.0 c.in-Joined.whole found.1 (asked_by c.args.prepared) (ap call_seen c.in-PutWhole.is) c.judge_whole.result (c.judge_whole.ensures.err body found.0 found.1)

pub returns-in-SetBookmark-clause-ok : goal.returns-in-SetBookmark-clause-ok
returns-in-SetBookmark-clause-ok c =
    judges_call c.args.self.now.header c.args.self.now.history (SetBookmark c.in-SetBookmark.caller.now c.in-SetBookmark.name.now c.in-SetBookmark.from c.in-SetBookmark.to) (asked_by c.args.prepared) (ap call_seen c.in-SetBookmark.is)
    c.judge_bookmark.result c.judge_bookmark.new.self.room c.args.who c.judge_bookmark.ensures.ok

pub returns-in-SetBookmark-clause-err : goal.returns-in-SetBookmark-clause-err
returns-in-SetBookmark-clause-err c =
    refuses_call c.args.self.now.header c.args.self.now.history (SetBookmark c.in-SetBookmark.caller.now c.in-SetBookmark.name.now c.in-SetBookmark.from c.in-SetBookmark.to) (asked_by c.args.prepared) (ap call_seen c.in-SetBookmark.is)
    c.judge_bookmark.result c.judge_bookmark.ensures.err

pub returns-in-Land-clause-ok : goal.returns-in-Land-clause-ok
returns-in-Land-clause-ok c =
    judges_call c.args.self.now.header c.args.self.now.history (LandDraft c.in-Land.caller.now c.in-Land.name.now c.in-Land.draft c.in-Land.moment) (asked_by c.args.prepared) (ap call_seen c.in-Land.is)
    c.judge_landing.result c.judge_landing.new.self.room c.args.who c.judge_landing.ensures.ok

pub returns-in-Land-clause-err : goal.returns-in-Land-clause-err
returns-in-Land-clause-err c =
    refuses_call c.args.self.now.header c.args.self.now.history (LandDraft c.in-Land.caller.now c.in-Land.name.now c.in-Land.draft c.in-Land.moment) (asked_by c.args.prepared) (ap call_seen c.in-Land.is)
    c.judge_landing.result c.judge_landing.ensures.err
