use Rattle.changeset_store.proofs.Alone.{same_encoding, one_if_same}
use Rattle.changeset_store.proofs.collisions.is_same.Goals as goal

pub returns-clause-same : goal.returns-clause-same
returns-clause-same c = same_encoding c.args.left.now c.args.right.now c.edits.ensures.rules c.edits-2.ensures.rules c.eq.result c.eq.ensures

pub returns-clause-one : goal.returns-clause-one
returns-clause-one c = one_if_same c.args.left.now c.args.right.now c.eq.result c.eq.ensures
