use Rattle.std.proofs.Common.{◌∙◌, ◌++◌, ◌∷◌, [], ap, refl}
use Rattle.std.specs.Prelude.{if◌then◌else◌}
use Rattle.blob_disk.proofs.Clients.{kept_then}
use Rattle.repo_journal.proofs.Listing.{Went, list_more, list_end, went_on}
use Rattle.repo_journal.proofs.Walks.{leaves_walk}
use Rattle.repo_journal.proofs.journal.Journal.records.Goals as goal

pub loop-spans-preserved : goal.loop-spans-preserved
loop-spans-preserved g c =
    let now = g.D.Disk.meaning c.loop-spans.disk in
    let went : Went now (g.D.Disk.meaning c.next.new.disk) c.loop-spans.scanner c.next.new.self c.in_ok-span.field-0 = record {
      is = c.in_ok-span.ensures.step;
      gate = c.in_ok-span.ensures.gate;
      inside = c.in_ok-span.ensures.inside;
      size = c.in_ok-span.ensures.size;
      holds = c.in_ok-span.ensures.holds;
      looked = c.in_ok-span.ensures.looked;
      kept = c.in_ok-span.ensures.kept;
      time = c.in_ok-span.ensures.time;
      counts = c.in_ok-span.ensures.faults;
    } in
    let grows = c.push.ensures.items ∙ ap (λ b. if b then c.loop-spans.spans.items ++ c.in-Record.span ∷ [] else c.loop-spans.spans.items) c.if-is_err.ensures.negation in
    list_more c.loop-spans.invariant went (g.met.D.Disk.sound c.args.disk.now) c.requires c.in-Record.span c.in-Record.is c.push.new.self.items grows

pub returns : goal.returns
returns g c =
    let now = g.D.Disk.meaning c.loop-spans.disk in
    let went : Went now (g.D.Disk.meaning c.next.new.disk) c.loop-spans.scanner c.next.new.self c.in_ok-span.field-0 = record {
      is = c.in_ok-span.ensures.step;
      gate = c.in_ok-span.ensures.gate;
      inside = c.in_ok-span.ensures.inside;
      size = c.in_ok-span.ensures.size;
      holds = c.in_ok-span.ensures.holds;
      looked = c.in_ok-span.ensures.looked;
      kept = c.in_ok-span.ensures.kept;
      time = c.in_ok-span.ensures.time;
      counts = c.in_ok-span.ensures.faults;
    } in
    let walked = went_on c.loop-spans.invariant went in
    record {
      all = list_end c.loop-spans.invariant went (g.met.D.Disk.sound c.args.disk.now) c.requires c.in_default-2.not-Record;
      inside = c.loop-spans.invariant.inside;
      looked = walked.looked;
      kept = walked.kept;
      time = walked.time;
      faults = walked.counts;
      quiet = λ quiet. refl;
    }

pub returns-in_err-span-clause-kept : goal.returns-in_err-span-clause-kept
returns-in_err-span-clause-kept g c = kept_then (g.D.Disk.meaning c.args.disk.now) (g.D.Disk.meaning c.loop-spans.disk) (g.D.Disk.meaning c.next.new.disk) c.loop-spans.invariant.walked.kept c.in_err-span.ensures.kept

pub returns-in_err-span-clause-time : goal.returns-in_err-span-clause-time
returns-in_err-span-clause-time g c = leaves_walk (g.D.Disk.meaning c.args.disk.now) (g.D.Disk.meaning c.loop-spans.disk) (g.D.Disk.meaning c.next.new.disk) c.loop-spans.invariant.walked c.in_err-span.ensures.looked c.in_err-span.ensures.time

pub returns-then-is_err-clause-kept : goal.returns-then-is_err-clause-kept
returns-then-is_err-clause-kept g c = kept_then (g.D.Disk.meaning c.args.disk.now) (g.D.Disk.meaning c.loop-spans.disk) (g.D.Disk.meaning c.next.new.disk) c.loop-spans.invariant.walked.kept c.in_ok-span.ensures.kept

pub returns-then-is_err-clause-time : goal.returns-then-is_err-clause-time
returns-then-is_err-clause-time g c = leaves_walk (g.D.Disk.meaning c.args.disk.now) (g.D.Disk.meaning c.loop-spans.disk) (g.D.Disk.meaning c.next.new.disk) c.loop-spans.invariant.walked c.in_ok-span.ensures.looked c.in_ok-span.ensures.time
