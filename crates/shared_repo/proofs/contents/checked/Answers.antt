use Rattle.std.proofs.Common.{refl}
use Rattle.std.specs.Prelude.{Err}
use Rattle.repo_calls.specs.Asking.{fault_answer}
use Rattle.shared_repo.proofs.Answering.{checked_so}
use Rattle.shared_repo.proofs.contents.checked.Goals as goal

pub returns-in-Err-clause-answers : goal.returns-in-Err-clause-answers
returns-in-Err-clause-answers c = λ header h is. (fault_answer c.in-Err.fault, refl, checked_so {A = Unit {0}} header h c.args.id c.args.read (Err c.in-Err.fault) is tt c.in-Err.ensures.err)
