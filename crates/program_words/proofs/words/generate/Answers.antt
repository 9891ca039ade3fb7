use Rattle.std.proofs.Common.{arith, sym}
use Rattle.program_words.proofs.words.generate.Goals as goal
use Rattle.program_words.proofs.words.generate.Goals.{in_default-via-then-rest-lt3, in_default-via-else-rest-lt3+else-rest-lt4}
use Rattle.std.proofs.lemmas.Bool.Decides.{nat_tests}
use Rattle.program_words.proofs.Counts.{not_three}

pub returns-in_default-clause-request : goal.returns-in_default-clause-request
returns-in_default-clause-request c = sym (not_three c.args.rest.now (λ e. elim c.in_default.branch [ in_default-via-then-rest-lt3 w ↦ grind (arith, nat_tests, e) | in_default-via-else-rest-lt3+else-rest-lt4 w ↦ grind (arith, nat_tests, e) ]))
