use Rattle.disk_model.proofs.Crashes.{reads_are_images, only_reads}
use Rattle.disk_model.proofs.laws.crash_may_leave_reads.Goals as goal

pub returns-clause-reads : goal.returns-clause-reads
returns-clause-reads c = reads_are_images

pub returns-clause-synced : goal.returns-clause-synced
returns-clause-synced c = only_reads
