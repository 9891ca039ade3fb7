use Rattle.std.proofs.Common.{◌≡◌, ◌+◌, length}
use Rattle.std.specs.Prelude.{filter, is_some}
use Rattle.std.specs.BTreeMap.{values}
use Rattle.repo_machine.proofs.counts.heads_in.Given as goal

-- what is counted and what is left make all
abbrev pub invariant-loop-head : goal.invariant-loop-head
invariant-loop-head l = l.count + length (filter is_some l.head-iterator) ≡ length (filter is_some (values l.heads))
