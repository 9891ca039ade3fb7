use Rattle.std.proofs.Common.{ℕ, List, sym, subst}
use Rattle.history_model.specs.History.{Entry}
use Rattle.repo_machine.specs.Seats.{cleared}
use Rattle.repo_state.specs.State.{IsAllSealed}
use Rattle.shared_repo.proofs.Cleared.{cleared_sealed}
use Rattle.shared_repo.proofs.repo.Repo.new.Goals as goal

pub new-requires-clause-sealed : goal.new-requires-clause-sealed
new-requires-clause-sealed g c =
    let state = c.args.state in
    let told = c.clear_seats.ensures in
    subst (λ (h : List Entry). IsAllSealed h c.clear_seats.new.self.sealed) (sym told.history)
    (subst (λ (n : ℕ). IsAllSealed (cleared state.history) n) (sym told.sealed) (cleared_sealed state.history state.sealed c.requires.sealed))
