use Rattle.merge_laws.proofs.FsTold.{was_either, kept_first, kept_second, kept_both}
use Rattle.merge_laws.proofs.laws.fsnode_of_a_merge_is_kept.Goals as goal

pub returns-clause-there : goal.returns-clause-there
returns-clause-there c = λ k first second d all still dir. was_either k first second d all still dir

pub returns-clause-first : goal.returns-clause-first
returns-clause-first c = λ k first second d all still dir. kept_first k first second d all still dir

pub returns-clause-second : goal.returns-clause-second
returns-clause-second c = λ k first second d all still dir. kept_second k first second d all still dir

pub returns-clause-both : goal.returns-clause-both
returns-clause-both c = λ k first second d all apart still dir. kept_both k first second d all still dir apart
