use Rattle.path_conflict.specs.Places.{paths_of}
use Rattle.repo_machine.proofs.Touching.{none_touched}
use Rattle.repo_machine.proofs.touches.may_clash_since.Goals as goal

pub returns : goal.returns
returns c = λ none below.
    none_touched c.args.touches.now c.args.store.now.known c.requires.covers (record { ids = c.len-count.ensures.ids; once = c.len-count.ensures.distinct; parents = c.len-count.ensures.parents_known })
    c.args.ancestor c.args.last c.requires.ancestor below (paths_of c.args.outer.now) (c.may_clash.ensures none)
