use Rattle.blob_disk.specs.declared.call_kind.CallKind.TheVariants.{Read}
use Rattle.blob_disk.proofs.Moments.{kept_same, same_failed}
use Rattle.blob_disk.proofs.mem_disk.MemDiskDisk.read_at.Goals as goal

pub returns-then-count-clause-kept : goal.returns-then-count-clause-kept
returns-then-count-clause-kept c =
    let was = c.args.self.now.calls in
    kept_same c.args.self.now.content c.args.self.now.log was c.fail.new.self
    (same_failed Read was c.count.new.self c.fail.new.self c.count.ensures.counted c.fail.ensures.failed)
