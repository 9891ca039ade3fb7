use Rattle.std.proofs.Common.{◌≡◌, ◌++◌, drop}
use Rattle.std.specs.List.{concat}
use Rattle.bonsai.proofs.encoding.put_parents.Given as goal

-- what was written, with the ids that are left, is what is to be written
abbrev pub invariant-loop-parent : goal.invariant-loop-parent
invariant-loop-parent l = l.out.items ++ concat (drop l.parent-index l.parents) ≡ l.fn.out.items ++ concat l.parents
