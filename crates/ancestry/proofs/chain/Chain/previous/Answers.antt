use Rattle.std.proofs.Common.{arith}
use Rattle.std.proofs.lemmas.List.{nil_from_length}
use Rattle.ancestry.proofs.Previous.{previous_of, is_some, has_ancestor, has_newest}
use Rattle.ancestry.proofs.chain.Chain.previous.Goals as goal

pub returns-then-distance-eq0-clause-none : goal.returns-then-distance-eq0-clause-none
returns-then-distance-eq0-clause-none c = nil_from_length _ (omega arith)

pub returns-clause-none : goal.returns-clause-none
returns-clause-none c = is_some _ _ _ _ (previous_of c.args.self.now.parents c.args.ancestor c.args.x c.parent.result c.distance.ensures.earlier c.requires.ancestor c.parent.ensures.line (omega arith))

pub returns-clause-ancestor : goal.returns-clause-ancestor
returns-clause-ancestor c = has_ancestor _ _ _ _ (previous_of c.args.self.now.parents c.args.ancestor c.args.x c.parent.result c.distance.ensures.earlier c.requires.ancestor c.parent.ensures.line (omega arith))

pub returns-clause-newest : goal.returns-clause-newest
returns-clause-newest c = has_newest _ _ _ _ (previous_of c.args.self.now.parents c.args.ancestor c.args.x c.parent.result c.distance.ensures.earlier c.requires.ancestor c.parent.ensures.line (omega arith))
