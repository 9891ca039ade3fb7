use Rattle.std.proofs.Common.{◌≡◌, drop}
use Rattle.fsnode.specs.Parts.{children_seen}
use Rattle.derive_step.specs.Steps.{file_now}
use Rattle.derive_step.proofs.named.file_named.Given as goal

-- the name is found among those that are left as among all
abbrev pub invariant-loop-child : goal.invariant-loop-child
invariant-loop-child l = file_now (children_seen (drop l.child-index l.entries)) l.name ≡ file_now (children_seen l.entries) l.name
