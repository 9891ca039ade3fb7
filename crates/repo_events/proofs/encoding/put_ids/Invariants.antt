use Rattle.std.proofs.Common.{◌≡◌, ◌++◌, drop}
use Rattle.std.specs.List.{concat}
use Rattle.repo_events.proofs.encoding.put_ids.Given as goal

-- what was written, with the ids that are left, is what is to be written
abbrev pub invariant-loop-id : goal.invariant-loop-id
invariant-loop-id l = l.out.items ++ concat (drop l.id-index l.ids) ≡ l.fn.out.items ++ concat l.ids
