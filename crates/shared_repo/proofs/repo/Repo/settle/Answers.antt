use Rattle.std.proofs.Common.{List, sym, ap, subst, ◌∙◌}
use Rattle.std.specs.Prelude.{IfErr}
use Rattle.history_model.specs.History.{Entry, known}
use Rattle.bookmark_lock.specs.Place.{Place}
use Rattle.manifest_store.specs.Settling.{IsCollision}
use Rattle.repo_state.specs.State.{State}
use Rattle.shared_repo.proofs.repo.Repo.settle.Goals as goal

pub returns-clause-err : goal.returns-clause-err
returns-clause-err g c =
    let t = c.enter.ensures.turn in
    subst (λ (h : List Entry). IfErr c.enter.result (λ fault. IsCollision (known h) fault)) (ap (λ (s : State). s.history) t.ran.leaves ∙ sym (ap (λ (p : Place). p.front) t.moved)) t.ran.met.1.1.1.1.1.1.0
