use Rattle.std.proofs.Common.{◌≡◌, ◌^◌, true, sym}
use Rattle.std.proofs.lemmas.Nat.{pow_pos}
use Rattle.ancestry.specs.Forest.{chain, is_member}
use Rattle.ancestry.proofs.Following.{member_of_end, earlier_of_end, following_of_end, member_through}
use Rattle.ancestry.proofs.chain.Chain.jump.Goals as goal

there : (c : goal.After-ancestor) → is_member c.ancestor.result (chain c.args.self.now.parents c.args.x) ≡ true
there c = member_of_end c.args.self.now.parents c.ancestor.result c.args.x (2 ^ c.args.exponent) c.depth.ensures.earlier c.ancestor.ensures.known (sym c.ancestor.ensures.line)

pub returns-clause-in_chain : goal.returns-clause-in_chain
returns-clause-in_chain c = there c

pub returns-clause-distance : goal.returns-clause-distance
returns-clause-distance c = following_of_end c.args.self.now.parents c.ancestor.result c.args.x (2 ^ c.args.exponent) c.depth.ensures.earlier c.ancestor.ensures.known c.ancestor.ensures.line

pub returns-clause-earlier : goal.returns-clause-earlier
returns-clause-earlier c = earlier_of_end c.args.self.now.parents c.ancestor.result c.args.x (2 ^ c.args.exponent) c.depth.ensures.earlier c.ancestor.ensures.known c.requires.known (pow_pos c.args.exponent) c.ancestor.ensures.line

pub returns-clause-further : goal.returns-clause-further
returns-clause-further c = λ y h. member_through c.args.self.now.parents c.ancestor.result c.args.x y c.depth.ensures.earlier (there c) h
