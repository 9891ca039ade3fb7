use Rattle.history_model.specs.Past.{Past}
use Rattle.std.specs.BTreeMap.{btree_map_len}
use Rattle.deleted_step.specs.Unfolded.{Links}
use Rattle.deleted_step.specs.Steps.{IsStart}
use Rattle.deleted_step.proofs.Renewing.{IsRenewing}
use Rattle.deleted_step.proofs.renewal.renewed.Given as goal

abbrev pub invariant-loop-path : goal.invariant-loop-path
invariant-loop-path l = (first now : Past) (ls : Links) → IsStart first now ls l.fn.unfolded → IsRenewing first now ls l.unfolded l.nodes.items (btree_map_len l.fn.unfolded.places)

abbrev pub decreases-loop-path : goal.decreases-loop-path
decreases-loop-path l = btree_map_len l.unfolded.places
