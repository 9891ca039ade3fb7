use Rattle.path_log.proofs.Numbers.{last_by_numbers, log_by_numbers}
use Rattle.path_log.proofs.laws.numbers_tell_the_log.Goals as goal

pub returns-clause-log : goal.returns-clause-log
returns-clause-log c = λ asked parent at p n earlier tells may. log_by_numbers asked parent at p earlier tells n may

pub returns-clause-last : goal.returns-clause-last
returns-clause-last c = λ asked parent at p n earlier tells may. last_by_numbers asked parent at p earlier tells n may
