use Rattle.std.proofs.Common.{refl}
use Rattle.std.specs.Str.{is_utf8, chars}
use Rattle.policy_model.proofs.laws.small_texts.Goals as goal

pub returns-clause-three_rules : goal.returns-clause-three_rules
unfolding is_utf8 chars lib.Utf8.encode
returns-clause-three_rules c = refl

pub returns-clause-one_rule : goal.returns-clause-one_rule
unfolding is_utf8 chars lib.Utf8.encode
returns-clause-one_rule c = refl

pub returns-clause-no_path : goal.returns-clause-no_path
unfolding is_utf8 chars lib.Utf8.encode
returns-clause-no_path c = refl

pub returns-clause-not_ended : goal.returns-clause-not_ended
unfolding is_utf8 chars lib.Utf8.encode
returns-clause-not_ended c = refl

pub returns-clause-last_not_ended : goal.returns-clause-last_not_ended
unfolding is_utf8 chars lib.Utf8.encode
returns-clause-last_not_ended c = refl

pub returns-clause-empty : goal.returns-clause-empty
unfolding is_utf8 chars lib.Utf8.encode
returns-clause-empty c = refl

pub returns-clause-other_verb : goal.returns-clause-other_verb
unfolding is_utf8 chars lib.Utf8.encode
returns-clause-other_verb c = refl

pub returns-clause-empty_line : goal.returns-clause-empty_line
unfolding is_utf8 chars lib.Utf8.encode
returns-clause-empty_line c = refl
