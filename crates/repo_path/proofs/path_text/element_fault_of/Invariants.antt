use Rattle.std.proofs.Common.{◌≡◌, ◌-◌, ◌≤◌, length, drop}
use Rattle.changeset_model.specs.Path.{elements, element_fault}
use Rattle.repo_path.proofs.path_text.element_fault_of.Given as goal

-- the elements before the start keep the rules
abbrev pub invariant-loop-len : goal.invariant-loop-len
invariant-loop-len l = (l.start ≤ length l.text) × (element_fault l.start (elements (drop l.start l.text)) ≡ element_fault 0 (elements l.text))

abbrev pub decreases-loop-len : goal.decreases-loop-len
decreases-loop-len l = length l.text - l.start
