use Rattle.std.specs.BTreeMap.{btree_map_len}
use Rattle.deleted_step.proofs.Entries.{AreListed}
use Rattle.deleted_step.proofs.closing.listed.Given as goal

-- what was listed, with what is left, is what is to be listed
abbrev pub invariant-loop-name : goal.invariant-loop-name
invariant-loop-name l = AreListed l.fn.entries.entries l.children.items l.entries.entries

abbrev pub decreases-loop-name : goal.decreases-loop-name
decreases-loop-name l = btree_map_len l.entries
