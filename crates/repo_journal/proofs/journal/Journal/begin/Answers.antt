use Rattle.std.proofs.Common.{◌≡◌, length, Some, ap, subst, ◌∙◌}
use Rattle.std.specs.Prelude.{IsTrue}
use Rattle.repo_journal.specs.Sealing.{AllClosed}
use Rattle.repo_journal.specs.Cuts.{IsCutOff}
use Rattle.repo_journal.specs.Groups.{AppendsGroup}
use Rattle.repo_journal.specs.Left.{cut_off}
use Rattle.repo_journal.proofs.journal.Journal.begin.Goals as goal

pub returns-in-Err-clause-crash : goal.returns-in-Err-clause-crash
returns-in-Err-clause-crash g c =
    let m = g.D.Disk.meaning c.args.disk.now in
    let n = g.D.Disk.meaning c.lay.new.disk in
    rw (← c.self.view_is)
    (subst (λ bytes. IsTrue m.honest → AllClosed c.self.inside.size m.state → AppendsGroup c.self.inside.size bytes m n) c.bytes-2.ensures c.in-Err.ensures.crash)

pub returns-in-Err-clause-broken : goal.returns-in-Err-clause-broken
returns-in-Err-clause-broken g c =
    let m = g.D.Disk.meaning c.args.disk.now in
    let n = g.D.Disk.meaning c.lay.new.disk in
    let same : c.bytes.result.now ≡ c.args.self.now.pending.bytes = rw (← c.self.view_is) c.bytes.ensures in
    record {
      cut = c.in-Err.cut;
      is = c.fault.ensures ∙ ap (λ bytes. record c.args.self.now { left = Some (cut_off (length bytes) c.in-Err.cut) }) same;
      leaves = rw (← c.self.view_is)
          (subst (λ bytes. IsTrue m.honest → AllClosed c.self.inside.size m.state → IsCutOff c.in-Err.cut c.self.inside.size bytes m.state n.state) c.bytes-2.ensures c.in-Err.ensures.cut_off);
    }
