use Rattle.std.proofs.Common.{◌≡◌, ◌++◌, length}
use Rattle.reply_model.specs.Reply.{ids_in}
use Rattle.repo_machine.proofs.wholes.ids_in.Given as goal

-- the ids so far, and those of the rest
abbrev pub invariant-ids : goal.invariant-ids
invariant-ids l = l.ids.items ++ ids_in l.rest ≡ ids_in l.body

abbrev pub decreases-ids : goal.decreases-ids
decreases-ids l = length l.rest
