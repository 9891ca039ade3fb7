use Rattle.std.proofs.Common.{◌≡◌, ◌≤◌, ◌+◌, false, length, take, ap, sym, subst, ◌∙◌, arith}
use Rattle.std.specs.Prelude.{is_ok}
use Rattle.std.proofs.lemmas.List.{length-take-le, append-nil}
use Rattle.ports.specs.Faults.{Counts}
use Rattle.ports.proofs.Counting.{counts_none, counts_then}
use Rattle.disk_model.specs.Images.{Writes, after_call}
use Rattle.disk_model.specs.Meaning.{IsLong}
use Rattle.blob_disk.proofs.Clients.{kept_none, kept_then}
use Rattle.repo_journal.proofs.Walks.{leaves_walk, walk_none, walk_then}
use Rattle.migration.specs.Copying.{IsUnmarked}
use Rattle.migration.proofs.Writes.{appended, leaves_none}
use Rattle.migration.proofs.Calls.{behind_head}
use Rattle.migration.proofs.Blocks.{block_read, is_done, one_more, reached, told}
use Rattle.migration.proofs.copying.copy.Goals as goal

pub loop-at-init : goal.loop-at-init
loop-at-init g c =
    let n = g.E.Disk.meaning c.args.to.now in
    let some = c.requires.some in
    let size = c.size-gate.ensures.size in
    record {
      least = omega arith;
      most = omega arith;
      walked = walk_none (g.D.Disk.meaning c.args.from.now);
      kept = kept_none n;
      counts = counts_none n.faults;
      long = c.requires.head;
      crash = λ honest each. leaves_none IsUnmarked n each;
      reads = λ honest_m honest_n len. sym (append-nil n.state.reads);
    }

pub returns-then-is_err-clause-from_kept : goal.returns-then-is_err-clause-from_kept
returns-then-is_err-clause-from_kept g c = kept_then _ _ _ c.loop-at.invariant.walked.kept c.read.ensures.kept

pub returns-then-is_err-clause-from_time : goal.returns-then-is_err-clause-from_time
returns-then-is_err-clause-from_time g c = leaves_walk _ _ _ c.loop-at.invariant.walked c.read.ensures.looked c.read.ensures.time

pub returns-then-is_err-2-clause-from_kept : goal.returns-then-is_err-2-clause-from_kept
returns-then-is_err-2-clause-from_kept g c = kept_then _ _ _ c.loop-at.invariant.walked.kept c.read.ensures.kept

pub returns-then-is_err-2-clause-from_time : goal.returns-then-is_err-2-clause-from_time
returns-then-is_err-2-clause-from_time g c = leaves_walk _ _ _ c.loop-at.invariant.walked c.read.ensures.looked c.read.ensures.time

pub returns-then-is_err-2-clause-kept : goal.returns-then-is_err-2-clause-kept
returns-then-is_err-2-clause-kept g c = kept_then _ _ _ c.loop-at.invariant.kept c.write_at.ensures.kept

pub returns-then-is_err-2-clause-crash : goal.returns-then-is_err-2-clause-crash
returns-then-is_err-2-clause-crash g c = λ honest each.
    (let before = c.loop-at.invariant in
    behind_head (g.E.Disk.meaning c.args.to.now) (g.E.Disk.meaning c.loop-at.to) (g.E.Disk.meaning c.write_at.new.self) c.loop-at.at c.read.new.buf (is_ok c.write_at.result)
    (before.crash honest each) before.kept (g.met.E.Disk.sound c.loop-at.to) (before.kept.honest ∙ honest) (omega (arith, before.least)) c.write_at.ensures.did c.write_at.ensures.time)

pub loop-at-preserved : goal.loop-at-preserved
loop-at-preserved g c =
    let m = g.D.Disk.meaning c.args.from.now in
    let n = g.E.Disk.meaning c.args.to.now in
    let d = g.D.Disk.meaning c.loop-at.from in
    let e = g.E.Disk.meaning c.loop-at.to in
    let after = g.E.Disk.meaning c.write_at.new.self in
    let before = c.loop-at.invariant in
    let at = c.loop-at.at in
    let count = c.min-count.result in
    let bytes = c.read.new.buf in
    let least = before.least in
    let most = before.most in
    let few = c.min-count.ensures in
    let all = c.size-gate.ensures.size in
    let test = c.loop-at-test.true in
    let size : length (take count c.loop-at.block) ≡ count = length-take-le count c.loop-at.block (let long = c.min-count.array_long in omega arith) in
    let len : length bytes ≡ count = c.read.auto.buf ∙ size in
    let no_read = sym c.is_err.ensures.value ∙ c.if-is_err.false in
    let no_write = sym c.is_err-in-loop-at.ensures.value ∙ c.if-is_err-2.false in
    let done = is_done c.write_at.result c.is_err-in-loop-at.result c.is_err-in-loop-at.ensures.value c.if-is_err-2.false in
    record {
      least = omega arith;
      most = omega arith;
      walked = walk_then m d _ before.walked c.read.ensures.looked c.read.ensures.kept c.read.ensures.time (subst (λ b. Counts d.faults (g.D.Disk.meaning c.read.new.disk).faults b) no_read c.read.ensures.faults);
      kept = kept_then n e after before.kept c.write_at.ensures.kept;
      counts = counts_then n.faults e.faults after.faults false false before.counts (subst (λ b. Counts e.faults after.faults b) no_write c.write_at.ensures.faults);
      long = subst (λ k. IsLong after.reads (at + k)) len (told c.write_at.result c.is_err-in-loop-at.result c.is_err-in-loop-at.ensures.value c.if-is_err-2.false c.write_at.ensures.long);
      crash = λ honest each. behind_head n e after at bytes (is_ok c.write_at.result) (before.crash honest each) before.kept (g.met.E.Disk.sound c.loop-at.to) (before.kept.honest ∙ honest) (omega arith) c.write_at.ensures.did c.write_at.ensures.time;
      reads = λ honest_m honest_n head_len. (
          let file = m.state.reads in
          let long : c.args.journal.now.size ≤ length file = c.requires.long file ((g.met.D.Disk.sound c.args.from.now).reads honest_m) in
          let read = block_read m d c.args.journal.now.size at count (take count c.loop-at.block) bytes before.walked (g.met.D.Disk.sound c.loop-at.from) honest_m size (omega arith)
          (told c.read.result c.is_err.result c.is_err.ensures.value c.if-is_err.false c.read.ensures.bytes) in
          let here = before.reads honest_m honest_n head_len in
          let end = reached at n.state.reads file e.state.reads here head_len least (omega arith) in
          (c.write_at.ensures.did (before.kept.honest ∙ honest_n)).most.reads
          ∙ ap (λ b. (after_call e.state (Writes at bytes b)).reads) done
          ∙ appended at bytes e.state.reads end
          ∙ one_more at count n.state.reads file e.state.reads bytes here read least);
    }
