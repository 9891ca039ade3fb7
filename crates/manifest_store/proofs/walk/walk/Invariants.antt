use Rattle.std.proofs.Common.{◌≡◌, length}
use Rattle.manifest_model.specs.Unode.{UnodeDir}
use Rattle.unode.specs.Parts.{entry_seen}
use Rattle.manifest_store.specs.Nodes.{walk as walked}
use Rattle.manifest_store.specs.Dirs.{left}
use Rattle.manifest_store.specs.Reads.{dir_of}
use Rattle.manifest_store.proofs.walk.walk.Given as goal

-- what is left to walk leads to the same entry
abbrev pub invariant-loop-rest : goal.invariant-loop-rest
invariant-loop-rest g l = walked (g.T.Tree.look l.tree) (entry_seen l.at) (left l.rest) ≡ walked (g.T.Tree.look l.tree) (UnodeDir l.fn.root) (dir_of l.fn.path)

abbrev pub decreases-loop-rest : goal.decreases-loop-rest
decreases-loop-rest g l = length (left l.rest)
