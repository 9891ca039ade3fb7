use Rattle.std.proofs.Common.{◌≡◌, ◌++◌, drop}
use Rattle.repo_state.specs.Joining.{ids_of}
use Rattle.repo_state.proofs.joining.ids_of.Given as goal

-- the ids so far, and those that are left
abbrev pub invariant-loop-part : goal.invariant-loop-part
invariant-loop-part l = l.ids.items ++ ids_of (drop l.part-index l.parts) ≡ ids_of l.parts
