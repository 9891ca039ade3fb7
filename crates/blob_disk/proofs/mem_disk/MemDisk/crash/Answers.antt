use Rattle.std.proofs.Common.{◌<◌, arith}
use Rattle.blob_disk.proofs.Memories.{crashed_is_image}
use Rattle.blob_disk.proofs.mem_disk.MemDisk.crash.Goals as goal

pub returns-clause-image : goal.returns-clause-image
returns-clause-image c =
    let byte : c.args.fill < 256 = omega arith in
    crashed_is_image c.args.fill c.args.self.content c.crash.new.self.reads byte c.args.self.good c.crash.ensures.bytes
