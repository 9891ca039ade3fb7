use Rattle.std.proofs.Common.{ap, map, subst, ◌∙◌, arith}
use Rattle.std.specs.List.{All}
use Rattle.bonsai.proofs.Touched.{paths_view}
use Rattle.changeset_store.specs.Store.{changeset_at}
use Rattle.touch_index.specs.Index.{Has}
use Rattle.repo_machine.proofs.Touching.{covers_same, covers_next}
use Rattle.repo_machine.proofs.touches.index_all.Goals as goal

pub rest-preserved : goal.rest-preserved
rest-preserved c =
    let same = c.changeset-changeset.ensures ∙ c.at.ensures ∙ ap (changeset_at c.args.store.now.known) c.indexed-in-rest.ensures in
    let count = c.len-count.ensures.len in
    let is = c.indexed.ensures in
    let less = c.rest-test.true in
    covers_next c.rest.touches c.add.new.self c.args.store.now.known c.rest.invariant c.in_ok-add.ensures.keeps c.in_ok-add.ensures.indexed (omega arith)
    (subst (All (Has c.add.new.self c.rest.touches.indexed)) (paths_view c.edits.result.now ∙ ap (map (λ e. e.0)) (c.edits.ensures.edits ∙ ap (λ x. x.changes) same)) c.in_ok-add.ensures.touched)

pub returns-in_err-add : goal.returns-in_err-add
returns-in_err-add c = covers_same c.rest.touches c.add.new.self c.args.store.now.known c.rest.invariant c.in_err-add.ensures.keeps c.in_err-add.ensures.indexed
