use Rattle.std.proofs.Common.{◌≡◌, ◌≤◌, ◌-◌, ◌++◌, length, take, drop, false}
use Rattle.std.specs.Prelude.{IsTrue}
use Rattle.ports.specs.Faults.{Counts}
use Rattle.disk_model.specs.Meaning.{IsLong}
use Rattle.disk_model.specs.Calls.{Kept}
use Rattle.repo_journal.proofs.Walks.{Walked}
use Rattle.repo_journal.proofs.Seals.{EachImage}
use Rattle.migration.specs.Copying.{IsUnmarked, LeavesEach}
use Rattle.migration.proofs.copying.copy.Given as goal

abbrev pub invariant-loop-at : goal.invariant-loop-at
invariant-loop-at g l =
    let m = g.D.Disk.meaning l.initial.from in
    let n = g.E.Disk.meaning l.initial.to in
    let now = g.E.Disk.meaning l.to in
    record {
      least : 16 ≤ l.at;
      most : l.at ≤ l.gate;
      walked : Walked m (g.D.Disk.meaning l.from);
      kept : Kept n now;
      counts : Counts n.faults now.faults false;
      long : IsLong now.reads l.at;
      crash : IsTrue n.honest → EachImage IsUnmarked n → LeavesEach IsUnmarked n now;
      reads : IsTrue m.honest → IsTrue n.honest → length n.state.reads ≡ 16 → now.state.reads ≡ n.state.reads ++ take (l.at - 16) (drop 16 m.state.reads);
    }

abbrev pub decreases-loop-at : goal.decreases-loop-at
decreases-loop-at g l = l.gate - l.at
