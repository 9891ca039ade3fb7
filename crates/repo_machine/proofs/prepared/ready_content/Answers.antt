use Rattle.std.proofs.Common.{refl}
use Rattle.repo_machine.proofs.MadeReady.{too_long}
use Rattle.repo_machine.proofs.prepared.ready_content.Goals as goal

pub returns-then-length-gt-MOST_CONTENT : goal.returns-then-length-gt-MOST_CONTENT
returns-then-length-gt-MOST_CONTENT c = too_long c.args.bytes.now _ refl c.if-length-gt-MOST_CONTENT.true
