use Rattle.run_gen.proofs.Own.{answered_all, answered_own}
use Rattle.run_gen.proofs.laws.own_entries.Goals as goal

pub returns-clause-calm : goal.returns-clause-calm
returns-clause-calm c header who from asks heads outcome to a = answered_own header who from asks heads outcome to a

pub returns-clause-all : goal.returns-clause-all
returns-clause-all c header who from asks heads outcome to a none = answered_all header who from asks heads outcome to a none
