use Rattle.std.proofs.Common.{sym, ◌∙◌}
use Rattle.policy_model.specs.Grammar.{is_space}
use Rattle.repo_path.proofs.Faults.{take_rest}
use Rattle.land_policy.proofs.Lines.{before_at, after_at, before_none, after_none_there}
use Rattle.land_policy.proofs.line.word_and_rest.Goals as goal

pub returns-in-Some-clause-word : goal.returns-in-Some-clause-word
returns-in-Some-clause-word c = before_at is_space c.args.bytes.now c.in-Some.at (sym c.first_space.ensures ∙ c.in-Some.is)

pub returns-in-Some-clause-rest : goal.returns-in-Some-clause-rest
returns-in-Some-clause-rest c = take_rest c.args.bytes.now _ ∙ after_at is_space c.args.bytes.now c.in-Some.at (sym c.first_space.ensures ∙ c.in-Some.is)

pub returns-in-None-clause-word : goal.returns-in-None-clause-word
returns-in-None-clause-word c = before_none is_space c.args.bytes.now (sym c.first_space.ensures ∙ c.in-None.is)

pub returns-in-None-clause-rest : goal.returns-in-None-clause-rest
returns-in-None-clause-rest c = after_none_there is_space c.args.bytes.now (sym c.first_space.ensures ∙ c.in-None.is)
