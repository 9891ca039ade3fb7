use Rattle.std.proofs.Common.{take, drop, ap, arith}
use Rattle.std.proofs.lemmas.List.{length-drop, length-take-le}
use Rattle.std.proofs.lemmas.List.Sums.{sum_by-drop_more}
use Rattle.blob_disk.proofs.Clients.{kept_then}
use Rattle.repo_journal.proofs.Walks.{leaves_walk, walk_then}
use Rattle.repo_state.specs.Filling.{part_len}
use Rattle.repo_state.proofs.ReadContents.{filled_on, filled_since}
use Rattle.repo_state.proofs.fill.fill_parts.Goals as goal

pub returns-in_err-fill_place-clause-kept : goal.returns-in_err-fill_place-clause-kept
returns-in_err-fill_place-clause-kept g c = kept_then _ _ _ c.loop-part.invariant.walked.kept c.fill_place.ensures.kept

pub returns-in_err-fill_place-clause-leaves : goal.returns-in_err-fill_place-clause-leaves
returns-in_err-fill_place-clause-leaves g c = leaves_walk _ _ _ c.loop-part.invariant.walked c.fill_place.ensures.looked c.fill_place.ensures.leaves

pub loop-part-preserved : goal.loop-part-preserved
loop-part-preserved g c =
    let j = c.args.journal.now in
    let m = g.D.Disk.meaning c.args.disk.now in
    let p = c.part-item.result in
    let e = c.in_ok-fill_place.ensures in
    let new = c.fill_place.new.buffer in
    let same = c.fill_place.ensures.length in
    let left = c.loop-part.invariant.left in
    let next = sum_by-drop_more part_len c.args.parts.now c.loop-part.part-index p c.loop-part-test.true in
    let here = ap part_len c.part-item.is in
    let rest = length-drop c.loop-part.done new in
    let own_long = length-take-le p.place.length (drop c.loop-part.done new) (omega arith) in
    record {
      walked = walk_then _ _ _ c.loop-part.invariant.walked e.looked e.kept e.leaves e.faults;
      left = omega arith;
      filled = filled_on j m c.args.parts.now c.loop-part.part-index p c.loop-part.done c.loop-part.buffer new c.loop-part-test.true c.part-item.is (omega arith) e.before c.loop-part.invariant.filled
          (filled_since j m (g.D.Disk.meaning c.loop-part.disk) p.place (take p.place.length (drop c.loop-part.done new)) c.loop-part.invariant.walked (g.met.D.Disk.sound c.loop-part.disk) own_long e.bytes e.there e.waiting);
    }
