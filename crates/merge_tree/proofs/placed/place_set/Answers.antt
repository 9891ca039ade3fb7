use Rattle.merge_tree.proofs.Placing.{set-placed}
use Rattle.merge_tree.proofs.placed.place_set.Goals as goal

pub returns-in_ok-insert-in-Set : goal.returns-in_ok-insert-in-Set
returns-in_ok-insert-in-Set c = set-placed c.args.files.now c.insert.new.self c.args.edit.now _ _ _ _ _ c.in-Set.is c.in_ok-copy-in-Set.ensures c.in_ok-insert-in-Set.ensures.updates
