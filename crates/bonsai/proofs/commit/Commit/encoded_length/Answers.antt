use Rattle.std.proofs.Common.{arith}
use Rattle.bonsai.proofs.Lengths.{spelling_short}
use Rattle.bonsai.proofs.commit.Commit.encoded_length.Goals as goal

pub returns-clause-short : goal.returns-clause-short
returns-clause-short c =
    let len = c.self.invariant.1 in
    let short = spelling_short c.self.inside.changeset c.edits-edits.ensures.rules in
    omega arith
