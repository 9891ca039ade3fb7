use Rattle.run_gen.proofs.Begins.{fresh_made}
use Rattle.run_gen.proofs.begin.new_disk.Goals as goal

pub returns : goal.returns
returns c = fresh_made c.new-2.result c.new.result.items c.new.ensures.items c.new-2.ensures.empty c.new-2.ensures.unrecorded c.new-2.ensures.uncalled
