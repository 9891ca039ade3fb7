use Rattle.std.proofs.Common.{◌≡◌, drop}
use Rattle.fsnode.specs.Parts.{child_seen}
use Rattle.manifest_store.proofs.Finding.{looked}
use Rattle.manifest_store.proofs.nodes.fs_entry_among.Given as goal

abbrev pub invariant-loop-child : goal.invariant-loop-child
invariant-loop-child l = looked child_seen l.name (drop l.child-index l.children) ≡ looked child_seen l.name l.children
