use Rattle.std.proofs.Common.{rules, arith, sym}
use Rattle.program_words.proofs.words.serve.Goals as goal
use Rattle.program_words.proofs.words.serve.Goals.{in_default-via-then-rest-lt5, in_default-via-else-rest-lt5+else-rest-lt6}
use Rattle.std.proofs.lemmas.Bool.Decides.{nat_tests}
use Rattle.program_words.proofs.Counts.{not_five, is_served}

pub returns-in_default-clause-request : goal.returns-in_default-clause-request
returns-in_default-clause-request c = sym (not_five c.args.rest.now (λ e. elim c.in_default.branch [ in_default-via-then-rest-lt5 w ↦ grind (arith, nat_tests, e) | in_default-via-else-rest-lt5+else-rest-lt6 w ↦ grind (arith, nat_tests, e) ]))

pub returns-clause-request : goal.returns-clause-request
returns-clause-request c = sym (is_served c.args.rest.now _ c.in_ok-lanes.lanes c.in_ok-derivers.derivers c.in_ok-connections.connections (omega (arith, c.in-len5.len_at_least, c.in-len5.len_below))
    (search (rules, c.number_between.ensures.value, c.in_ok-lanes.was)) (search (rules, c.number_between-2.ensures.value, c.in_ok-derivers.was)) (search (rules, c.number_between-3.ensures.value, c.in_ok-connections.was)))
