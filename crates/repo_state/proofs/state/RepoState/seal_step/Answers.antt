use Rattle.std.proofs.Common.{◌<◌, false, true, sym, ap, ◌∙◌, arith}
use Rattle.std.specs.Prelude.{◌↔◌, is_err, IsTrue}
use Rattle.history_model.specs.History.{is_down}
use Rattle.repo_state.specs.State.{State}
use Rattle.repo_state.proofs.Stepping.{steps_nothing}
use Rattle.repo_state.proofs.Turns.{failed_err, failed_ok}
use Rattle.repo_state.proofs.state.RepoState.seal_step.Goals.{in-Ok, in-Err}
use Rattle.repo_state.proofs.state.RepoState.seal_step.Goals as goal

-- ---- nothing is done

pub returns-then-upto-self-clause-core : goal.returns-then-upto-self-clause-core
returns-then-upto-self-clause-core g c = steps_nothing c.args.self.now.header c.args.self.now.history c.args.self.now.sealed c.args.self.now.left c.args.who false

pub returns-then-down-clause-core : goal.returns-then-down-clause-core
returns-then-down-clause-core g c = steps_nothing c.args.self.now.header c.args.self.now.history c.args.self.now.sealed c.args.self.now.left c.args.who true

pub returns-in_default-flush-clause-core : goal.returns-in_default-flush-clause-core
returns-in_default-flush-clause-core g c = steps_nothing c.args.self.now.header c.args.self.now.history c.args.self.now.sealed c.args.self.now.left c.args.who false

pub returns-then-left-upto-clause-core : goal.returns-then-left-upto-clause-core
returns-then-left-upto-clause-core g c = steps_nothing c.args.self.now.header c.args.self.now.history c.args.self.now.sealed c.args.self.now.left c.args.who false

-- ---- a group is begun

pub returns-in_default-clause-failed : goal.returns-in_default-clause-failed
returns-in_default-clause-failed g c =
    let a = c.args.self.now in
    let b = c.begin_group.new.self in
    let up = sym (ap (λ (s : State). is_down s.history) c.self.view_is) ∙ sym c.down.ensures ∙ c.if-down.false in
    let count = ap (λ (s : State). s.sealed) c.self.view_is in
    let more = c.if-upto-self.false in
    elim c.match-begin_group.branch as (λ _. IsTrue (is_err c.match-begin_group.result) ↔ (IsTrue (is_down b.history) × (b.sealed < c.args.upto))) [
      | in-Ok w ↦ failed_ok c.match-begin_group.result c.args.who a.history b.history b.sealed c.args.upto w.result-is up w.in-Ok.ensures.history
      | in-Err w ↦ (let same = w.in-Err.ensures.sealed in failed_err c.match-begin_group.result c.args.who a.history b.history b.sealed c.args.upto w.result-is up w.in-Err.ensures.history (omega arith))
    ]
