use Rattle.std.proofs.Common.{false, true, ◌∙◌}
use Rattle.std.specs.Prelude.{is_err}
use Rattle.repo_state.specs.Groups.{group_end}
use Rattle.repo_state.specs.State.{reach}
use Rattle.repo_state.proofs.Stepping.{seals_nothing}
use Rattle.repo_state.proofs.Turns.{leaves_once, leaves_rest, reach_none, seals_by_two}
use Rattle.repo_state.proofs.state.RepoState.seal.Goals as goal

pub returns-then-upto-self-clause-core : goal.returns-then-upto-self-clause-core
returns-then-upto-self-clause-core g c = seals_nothing c.args.self.now.header c.args.self.now.history c.args.self.now.sealed c.args.self.now.left c.args.who false

pub returns-then-down-clause-core : goal.returns-then-down-clause-core
returns-then-down-clause-core g c = seals_nothing c.args.self.now.header c.args.self.now.history c.args.self.now.sealed c.args.self.now.left c.args.who true

-- ---- the group that was under way is enough, or fails

pub returns-then-upto-sealed-clause-leaves : goal.returns-then-upto-sealed-clause-leaves
returns-then-upto-sealed-clause-leaves g c = λ honest.
    (let a = c.args.self.now in
    let b = c.end_group.new.self in
    leaves_once a.header a.history b.history a.sealed (group_end a.sealed a.left) b.sealed (reach b) a.disk b.disk (c.in-Ok.ensures.leaves honest))

pub returns-in-Err-clause-leaves : goal.returns-in-Err-clause-leaves
returns-in-Err-clause-leaves g c = λ honest.
    (let a = c.args.self.now in
    let b = c.end_group.new.self in
    leaves_once a.header a.history b.history a.sealed (group_end a.sealed a.left) b.sealed (reach b) a.disk b.disk (c.in-Err.ensures.leaves honest))

-- ---- the rest is sealed too

pub returns-else-upto-sealed-clause-leaves : goal.returns-else-upto-sealed-clause-leaves
returns-else-upto-sealed-clause-leaves g c =
    let a = c.args.self.now in
    let b = c.end_group.new.self in
    let e = c.in-Ok.ensures in
    leaves_rest a b c.seal_rest.new.self (group_end a.sealed a.left) c.args.who (is_err c.seal_rest.result) e.header e.history e.done.0 (reach_none b e.done.1 ∙ e.done.0) c.seal_rest.ensures.history e.kept e.leaves c.seal_rest.ensures.leaves

pub returns-else-upto-sealed-clause-core : goal.returns-else-upto-sealed-clause-core
returns-else-upto-sealed-clause-core g c =
    let e = c.in-Ok.ensures in
    seals_by_two c.args.self.now c.end_group.new.self c.seal_rest.new.self c.args.who (is_err c.seal_rest.result) e.done.1 e.header e.core c.seal_rest.ensures.core
