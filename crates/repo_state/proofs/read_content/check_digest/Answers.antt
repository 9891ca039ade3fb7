use Rattle.std.proofs.Common.{sym, ◌∙◌}
use Rattle.repo_state.proofs.ReadContents.{told_late}
use Rattle.repo_state.proofs.read_content.check_digest.Goals as goal

pub returns-in-Some-clause-asked : goal.returns-in-Some-clause-asked
returns-in-Some-clause-asked c = (told_late c.deref-2.result.now c.deref-3.result.now c.in-Some.fault (sym c.first_other.ensures ∙ c.in-Some.is)).0

pub returns-in-Some-clause-read : goal.returns-in-Some-clause-read
returns-in-Some-clause-read c = (told_late c.deref-2.result.now c.deref-3.result.now c.in-Some.fault (sym c.first_other.ensures ∙ c.in-Some.is)).1
