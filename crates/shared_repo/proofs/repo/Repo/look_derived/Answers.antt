use Rattle.repo_calls.specs.Asking.{question_seen}
use Rattle.shared_repo.proofs.Derivations.{not_derived}
use Rattle.shared_repo.proofs.repo.Repo.look_derived.Goals as goal

pub returns-in-Err-clause-after : goal.returns-in-Err-clause-after
returns-in-Err-clause-after g c =
    not_derived c.args.self.now.opening.header c.args.seat.now.front c.derive_chain.new.seat.front c.args.seat.now.number c.args.id c.in-Err.fault c.in-Err.ensures.more c.in-Err.ensures.answer (question_seen c.args.question.now) c.requires.manifest
